-- The walk over the claims: the goal shows the claims that the lines read so far say, since a line is stored as it is said once its rows are passed,
-- and they are the rows that are tested. Assumes nothing.
use Prim.Native.Nat.{ℕ, zero, suc, ◌+◌, ◌≤◌, ◌<◌}
use native.Mathlib.Omega.{arith}
use mathlib.Core.Bool.{Bool, true, false, cond}
use mathlib.Core.List.{List, [], ◌∷◌, ◌++◌}
use mathlib.Core.Path.{◌≡◌, refl, sym, ap, ap₂, subst, ◌∙◌}
use lib.Dec.{eqb, ltb}
use lib.ListN.{length, drop, length-append}
use borrow.Author.Tests.{eqb-true, eqb-false, ltb-true}
use Rattle.std.specs.Prelude.{Ok, Err}
use Rattle.parts.specs.declared.Section.TheVariants.{Proof, Model}
use Rattle.lines.specs.Text.{at_claims, words, row_of, stands as allowed_at, lines_of}
use Rattle.lines.specs.Walk.{claims_from, sections_from, steps_from, read_at}
use Rattle.lines.specs.declared.Line.{Line}
use Rattle.lines.specs.declared.Next.{Next}
use Rattle.lines.specs.declared.Next.TheVariants.{Found}
use Rattle.lines.proofs.Told.{Told, told}
use Rattle.lines.proofs.Words.{spanned}
use Rattle.reading.proofs.Loop.{Line-found, when_found}
use Rattle.alc.specs.Lists.{All, every}
use Rattle.alc.specs.Rows.{refusal}
use Rattle.alc.specs.Ranges.{in_range}
use Rattle.alc.specs.Table.{Table}
use Rattle.alc.specs.Claims as Claims
use Rattle.alc.specs.Claims.{Sided, claim_fields}
use Rattle.alc.specs.Dossier.{Said, claim, saying}
use Rattle.alc.specs.Shown.{Shows, records, record_of}
use Rattle.alc.specs.declared.Goal.{Goal as Records}
use Rattle.alc.specs.declared.Claim.{Claim as Record}
use Rattle.alc.specs.Verdict.{State, rows, after}
use Rattle.goals.proofs.Steps.{map-append}
use Rattle.parts.specs.Fields.{said_fields}
use Rattle.parts.specs.Parts.{sided_in, claim_rows, section_at, in_claims, in_steps, at_start, Through, none, ClaimsEnd, failed, ClaimsLead, proof, model, refused}
use Rattle.parts.proofs.Small.{small}
use Rattle.parts.proofs.Through.{through_next}
use Rattle.claims.proofs.ClaimLaws.{claim_said, rows_claim}

-- the words that stand in the claims' place: the claims, `proof` and `model`: a test of all words
pub stands_among : (l : Line) → allowed_at at_claims l ≡ true → (claims_from ≤ l.word) × (l.word < steps_from)
unfolding words row_of
stands_among l a = spanned at_claims claims_from steps_from (omega arith) refl l.word a

-- the claims read, in the goal g, and the next line at `at`, with n lines read
pub record Walk (text : List ℕ) (T : Table) (begun : ℕ) (g : Records) (at n : ℕ) : Type 0 where
  pub cs : List Sided
  pub shown : Shows g cs
  pub count : g.count ≡ length cs
  pub ranges : All (λ s. every (in_range (length T) 0) (claim_fields (Claims.claim s)) ≡ true) cs
  pub so : Through text (length T) begun (in_claims T []) n at (in_claims T cs)

All-snoc : (P : Sided → Type 0) (l : List Sided) (x : Sided) → All P l → P x → All P (l ++ (x ∷ []))
All-snoc P [] x h k = (k, tt)
All-snoc P (y ∷ l) x h k = (h.0, All-snoc P l x h.1 k)

module _ (text : List ℕ) (T : Table) (begun : ℕ) where
  pub walk_begin : (g : Records) (n : ℕ) → length T ≡ n → records g ≡ [] → g.count ≡ 0 → Walk text T begun g begun n
  walk_begin g n e r c = record { cs = []; shown = r; count = c; ranges = tt; so = subst (λ k. Through text (length T) begun (in_claims T []) k begun (in_claims T [])) e none }

  module _ (g : Records) (at n : ℕ) (v : Walk text T begun g at n) where
    -- the walk stops
    pub stops : (x : Next) (k : ℕ) → read_at text at at_claims ≡ x → ClaimsEnd T v.cs x k → ClaimsLead text T begun v.cs n at (Err k)
    stops x k e d = refused v.so (subst (λ y. ClaimsEnd T v.cs y k) (sym e) d)

    module _ (l : Line) (to : ℕ) (r : read_at text at at_claims ≡ Found l to) where
      f : Line-found text at at_claims l to
      f = when_found text at at_claims l to r

      t : Told l
      t = told (drop at text) l (lines_of (drop to text)) f.lines

      pub word_low : claims_from ≤ l.word
      word_low = (stands_among l f.allowed).0

      -- `proof`, `model`
      turned : (s : Said) (F : State) → saying l ≡ s → refusal (rows (in_claims T v.cs) s) ≡ 0 → after (in_claims T v.cs) s ≡ F
          → Through text (length T) begun (in_claims T []) (n + 1) to F
      turned s F e h q =
          through_next v.so l to F r (ap (λ u. refusal (rows (in_claims T v.cs) u)) e ∙ h) (ap (after (in_claims T v.cs)) e ∙ q)

      pub turns : sections_from ≤ l.word → ClaimsLead text T begun v.cs (n + 1) to (Ok (section_at l.word))
      unfolding rows after
      turns h = go (eqb l.word sections_from) refl
        where
          go : (b : Bool) → eqb l.word sections_from ≡ b → ClaimsLead text T begun v.cs (n + 1) to (Ok (cond b Proof Model))
          go true e = let w : l.word ≡ sections_from = eqb-true l.word sections_from e in let s : saying l ≡ Said.proof = rw w in proof (turned Said.proof (in_steps T v.cs 0 (v.cs ∷ [])) s refl refl)
          go false e =
              let w : l.word ≡ suc sections_from = omega (arith, h, (stands_among l f.allowed).1, eqb-false l.word sections_from e) in
              let s : saying l ≡ Said.model = rw w in
              model (turned Said.model (at_start T v.cs) s refl refl)

      -- a claim
      module _ (w : l.word < sections_from) where
        tested : (e : ℕ) → length T ≡ e → refusal (rows (in_claims T v.cs) (saying l)) ≡ refusal (claim_rows e g.count l)
        tested e q = rows_claim l word_low w T v.cs ∙ ap₂ (λ a b. refusal (claim_rows a b l)) q (sym v.count)

        pub fails : (e k : ℕ) → length T ≡ e → k ≡ refusal (claim_rows e g.count l) → (k ≡ 0 → ⊥) → ClaimsEnd T v.cs (Found l to) k
        fails e zero q h z = absurd (z refl)
        fails e (suc k) q h z = failed (tested e q ∙ sym h)

        module _ (e : ℕ) (q : length T ≡ e) (few : e ≤ 256) (h : 0 ≡ refusal (claim_rows e g.count l)) where
          passed : (ltb g.count 64 ≡ true) × (every (in_range e 0) (said_fields (saying l)) ≡ true)
          unfolding claim_rows
          passed = go (ltb g.count 64) (every (in_range e 0) (said_fields (saying l))) refl refl h
            where
              go : (a b : Bool) → ltb g.count 64 ≡ a → every (in_range e 0) (said_fields (saying l)) ≡ b → ◌≡◌ {A = ℕ} 0 (cond a (cond b 0 3) 5)
                  → (ltb g.count 64 ≡ true) × (every (in_range e 0) (said_fields (saying l)) ≡ true)
              go true true x y z = (x, y)
              go true false x y z = absurd (omega arith)
              go false b x y z = absurd (omega arith)

          pub room : g.count < 64
          room = ltb-true g.count 64 passed.0

          said : saying l ≡ claim (sided_in l)
          said = claim_said l word_low w (small l t e 0 few (omega arith) passed.1)

          pub walk_more : (g' : Records) (c : Record) → c ≡ record_of (sided_in l) → records g' ≡ records g ++ (c ∷ []) → g'.count ≡ g.count + 1 → Walk text T begun g' to (n + 1)
          unfolding after
          walk_more g' c y p m = record {
            cs = v.cs ++ (sided_in l ∷ []);
            shown = p ∙ ap₂ (λ a b. a ++ (b ∷ [])) v.shown y ∙ sym (map-append v.cs (sided_in l ∷ []));
            count = m ∙ sym (length-append v.cs (sided_in l ∷ []) ∙ ap (λ k. k + 1) (sym v.count));
            ranges =
                All-snoc (λ s. every (in_range (length T) 0) (claim_fields (Claims.claim s)) ≡ true) v.cs (sided_in l) v.ranges
                (ap (λ k. every (in_range k 0) (claim_fields (Claims.claim (sided_in l)))) q ∙ ap (λ s. every (in_range e 0) (said_fields s)) (sym said) ∙ passed.1);
            so = through_next v.so l to (in_claims T (v.cs ++ (sided_in l ∷ []))) r (tested e q ∙ sym h) (ap (after (in_claims T v.cs)) said);
          }
