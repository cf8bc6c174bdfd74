-- What the reading of the table and of the claims comes to is fixed by the text: two walks from one place are the same as far as both go, and what
-- ends the one ends the other. Assumes nothing.
use Prim.Native.Nat.{ℕ, suc, ◌≤◌}
use mathlib.Core.Bool.{cond}
use mathlib.Core.List.{List, map}
use mathlib.Core.Logic.{◌⊎◌, inl, inr}
use mathlib.Core.Path.{◌≡◌, refl, sym, ap, ap₂, subst, ◌∙◌}
use Prim.Native.Nat.{◌+◌}
use native.Mathlib.Omega.{arith}
use lib.Dec.{ltb}
use lib.ListN.{length}
use borrow.Author.Tests.{lt-ltb, le-ltb}
use Rattle.lines.specs.Text.{at_table, at_claims}
use Rattle.lines.specs.Walk.{claims_from, read_at}
use Rattle.lines.specs.declared.Line.{Line}
use Rattle.lines.specs.declared.Next.{Next}
use Rattle.lines.specs.declared.Next.TheVariants.{Found, Bad, End}
use Rattle.reading.proofs.Loop.{when_found}
use Rattle.alc.specs.Rows.{refusal}
use Rattle.alc.specs.Table.{Table}
use Rattle.alc.specs.Claims.{Sided}
use Rattle.alc.specs.Dossier.{saying}
use Rattle.alc.specs.Shown.{record_of, records}
use Rattle.alc.specs.Verdict.{State, place, rows}
use Rattle.parts.specs.declared.Listed.{Listed}
use Rattle.parts.specs.declared.Heading.{Heading}
use Rattle.parts.specs.declared.Stopped.{Stopped}
use Rattle.parts.specs.declared.Claims.{Claims as Read}
use Rattle.std.specs.Prelude.{Result, Ok, Err}
use Rattle.alc.specs.declared.Refused.{Refused}
use Rattle.alc.proofs.Refusals.{number_some, refused_once}
use Rattle.parts.specs.declared.Section.{Section}
use Rattle.parts.specs.declared.Section.TheVariants.{Proof, Model}
use Rattle.parts.specs.Parts.{in_table, in_claims, Through, none, line, TableEnd, Listing, TableRead, ClaimsEnd, ClaimsLead, ClaimsHeard, ClaimsRefused}
use Rattle.parts.specs.Parts
use Rattle.parts.proofs.Through.{Stuck, found_same, stage, Same, turn, out_of_table, through_on, through_either, both_last, both_stuck, apart}
use Rattle.parts.proofs.Stops.{in_claims_lem, claims_halts, claims_apart}

-- THE TABLE: its end has one number, and no line leads from it to another end
table_number : Table → Next → ℕ
table_number T Bad = 2
table_number T End = 0
table_number T (Found l to) = cond (ltb l.word claims_from) (refusal (rows (in_table T) (saying l))) 0

table_number_lem : {T : Table} {x : Next} {k : ℕ} → TableEnd T x k → k ≡ table_number T x
unfolding table_number
table_number_lem Parts.wrong = refl
table_number_lem (Parts.failed {l} w q) = sym (rw (lt-ltb l.word claims_from w) q)
table_number_lem (Parts.other {l} w) = sym (rw (le-ltb l.word claims_from w))
table_number_lem Parts.over = refl

table_ended : {text : List ℕ} (T : Table) {n a m b k : ℕ} {S F : State} → Through text n a S m b F → S ≡ in_table T
    → TableEnd T (read_at text a at_table) k → stage F ≡ 0 → Same n a S m b F
table_ended T none e d f = (refl, refl, refl)
table_ended {text} T {a = a} {k = k} {S = S} {F = F} (line {next = to} {l = l} r p v) e d f = absurd (go (read_at text a at_table) k r' d)
  where
    r' : read_at text a at_table ≡ Found l to
    r' = subst (λ (Z : State). read_at text a (place Z.part) ≡ Found l to) e r

    go : (x : Next) (j : ℕ) → x ≡ Found l to → TableEnd T x j → ⊥
    go x j y Parts.wrong = let z : ◌≡◌ {A = ℕ} 0 1 = cc in omega arith
    go x j y (Parts.failed {k = i} w q) =
        let o : refusal (rows (in_table T) (saying l)) ≡ 0 = subst (λ (Z : State). refusal (rows Z (saying l)) ≡ 0) e p in
        let z : suc i ≡ 0 = sym q ∙ ap (λ (h : Line). refusal (rows (in_table T) (saying h))) (found_same y).0 ∙ o in
        omega arith
    go x j y (Parts.other w) =
        let h : claims_from ≤ l.word = subst (λ (i : Line). claims_from ≤ i.word) (found_same y).0 w in
        omega (arith, f, through_on v (out_of_table S l (in_claims_lem l h (when_found text a at_table l to r').allowed)))
    go x j y Parts.over = let z : ◌≡◌ {A = ℕ} 0 1 = cc in omega arith

-- two listings of one text are the same
module _ {text : List ℕ} {T U : Table} {at to k m : ℕ} (t : Listing text T at k) (u : Listing text U to m) where
  same_end : Same (length T) at (in_table T) (length U) to (in_table U)
  same_end = go (through_either t.read u.read)
    where
      go : Through text (length T) at (in_table T) (length U) to (in_table U) ⊎ Through text (length U) to (in_table U) (length T) at (in_table T)
          → Same (length T) at (in_table T) (length U) to (in_table U)
      go (inl v) = table_ended T v refl t.ends refl
      go (inr v) = turn (table_ended U v refl u.ends refl)

  one_table : T ≡ U
  one_table = ap (λ (S : State). S.table) same_end.2

  one_end : k ≡ m
  one_end =
      table_number_lem t.ends
      ∙ ap (λ (Z : Table). table_number Z (read_at text at at_table)) one_table
      ∙ ap (λ (i : ℕ). table_number U (read_at text i at_table)) same_end.1
      ∙ sym (table_number_lem u.ends)

-- and so are two readings: no refusal has the number 0
pub one_listed : (text : List ℕ) (r s : Result Listed (Stopped Listed)) → TableRead text r → TableRead text s → r ≡ s
one_listed text (Ok r) (Ok s) t u = ap₂ (λ (T : Table) (i : ℕ). Ok (record { table = T; at = i })) (one_table t u) (same_end t u).1
one_listed text (Ok r) (Err f) t u = absurd (number_some f.refused.refusal (sym (one_end t u.listing)))
one_listed text (Err e) (Ok s) t u = absurd (number_some e.refused.refusal (one_end t.listing u))
one_listed text (Err e) (Err f) t u =
    let T = one_table t.listing u.listing in
    let r = refused_once e.refused f.refused (one_end t.listing u.listing) (t.line ∙ ap (λ (T : Table). length T + 1) T ∙ sym u.line) in
    ap Err (ap₂ (λ (r : Refused) (l : Listed). record { refused = r; read = l }) r (ap₂ (λ (T : Table) (i : ℕ). record { table = T; at = i }) T (same_end t.listing u.listing).1))

-- THE CLAIMS: what refuses them has one number
claims_number : Table → List Sided → Next → ℕ
claims_number T cs Bad = 2
claims_number T cs End = 12
claims_number T cs (Found l to) = refusal (rows (in_claims T cs) (saying l))

claims_number_lem : {T : Table} {cs : List Sided} {x : Next} {k : ℕ} → ClaimsEnd T cs x k → k ≡ claims_number T cs x
unfolding claims_number
claims_number_lem Parts.wrong = refl
claims_number_lem (Parts.failed q) = sym q
claims_number_lem Parts.over = refl

-- and no walk goes on behind it
stuck : (text : List ℕ) (T : Table) (cs : List Sided) (at k : ℕ) → ClaimsEnd T cs (read_at text at at_claims) k → Stuck text at (in_claims T cs)
stuck text T cs at k d = (claims_halts text T cs 0 at k _ refl d).stuck

-- an end is one section or one refusal
model_apart : ◌≡◌ {A = Result Section ℕ} (Ok Model) (Ok Proof) → ⊥
model_apart e = let z : ◌≡◌ {A = ℕ} 0 1 = cc in omega arith

ok_once : {s t : Section} → ◌≡◌ {A = Result Section ℕ} (Ok s) (Ok t) → s ≡ t
ok_once e = cc

err_once : {k m : ℕ} → ◌≡◌ {A = Result Section ℕ} (Err k) (Err m) → k ≡ m
err_once e = cc

-- two readings of the claims are the same
module _ {text : List ℕ} {T : Table} {begun : ℕ} where
  one_lead : {cs ds : List Sided} {lines at lines' at' : ℕ} {e f : Result Section ℕ}
      → ClaimsLead text T begun cs lines at e → ClaimsLead text T begun ds lines' at' f → (cs ≡ ds) × (lines ≡ lines') × (at ≡ at') × (e ≡ f)
  one_lead (Parts.proof v) (Parts.proof w) = let q = both_last v w refl refl in (ap (λ (S : State). S.claims) q.2, q.0, q.1, refl)
  one_lead (Parts.proof v) (Parts.model w) = absurd (claims_apart (Parts.model w) model_apart v)
  one_lead (Parts.proof v) (Parts.refused w d) = absurd (apart w v (stuck text T _ _ _ d) (omega arith) refl)
  one_lead (Parts.model v) (Parts.proof w) = absurd (claims_apart (Parts.model v) model_apart w)
  one_lead (Parts.model v) (Parts.model w) = let q = both_last v w refl refl in (ap (λ (S : State). S.claims) q.2, q.0, q.1, refl)
  one_lead (Parts.model v) (Parts.refused w d) = absurd (apart w v (stuck text T _ _ _ d) (omega arith) refl)
  one_lead (Parts.refused v d) (Parts.proof w) = absurd (apart v w (stuck text T _ _ _ d) (omega arith) refl)
  one_lead (Parts.refused v d) (Parts.model w) = absurd (apart v w (stuck text T _ _ _ d) (omega arith) refl)
  one_lead {cs} {ds} {at = at} (Parts.refused v d) (Parts.refused w e) =
      let q = both_stuck v w (stuck text T _ _ _ d) (stuck text T _ _ _ e) in
      let c : cs ≡ ds = ap (λ (S : State). S.claims) q.2 in
      let f = ap (λ (l : List Sided). claims_number T l (read_at text at at_claims)) c ∙ ap (λ (i : ℕ). claims_number T ds (read_at text i at_claims)) q.1 in
      (c, q.0, q.1, ap Err (claims_number_lem d ∙ f ∙ sym (claims_number_lem e)))

  -- two headings are the same, but for the records behind the claims
  pub one_heading : {r s : Heading} → ClaimsHeard text T begun r → ClaimsHeard text T begun s
      → (records r.claims ≡ records s.claims) × (r.reached.lines ≡ s.reached.lines) × (r.reached.at ≡ s.reached.at) × (r.section ≡ s.section)
  one_heading c d = let q = one_lead c.leads d.leads in (c.shown ∙ ap (map record_of) q.0 ∙ sym d.shown, q.1, q.2, ok_once q.3)

  -- and so are two refusals, with what was read before them
  pub one_refused : {e f : Stopped Read} → ClaimsRefused text T begun e → ClaimsRefused text T begun f
      → (e.refused ≡ f.refused) × (records e.read.claims ≡ records f.read.claims) × (e.read.reached ≡ f.read.reached)
  one_refused {e} {f} c d =
      let q = one_lead c.leads d.leads in (
        refused_once e.refused f.refused (err_once q.3) (c.line ∙ ap (λ (n : ℕ). n + 1) q.1 ∙ sym d.line),
        c.shown ∙ ap (map record_of) q.0 ∙ sym d.shown,
        ap₂ (λ (i n : ℕ). record { at = i; lines = n }) q.2 q.1,
      )

  pub none_heard : {r : Heading} {e : Stopped Read} → ClaimsHeard text T begun r → ClaimsRefused text T begun e → ⊥
  none_heard c d = let q = (one_lead c.leads d.leads).3 in let z : ◌≡◌ {A = ℕ} 0 1 = cc in omega arith
