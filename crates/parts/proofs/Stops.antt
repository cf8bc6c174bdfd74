-- What the reading of the table and of the claims comes to, for the judge and for a walk to the first step. What ends the table is refused, or it
-- stands in the claims' place as well, where the two parts are not told apart; so the claims go on where the table ends. And where a line is refused,
-- or a model follows, no walk leads to a step, since a position has one line. Assumes nothing.
use Prim.Native.Nat.{ℕ, zero, suc, ◌+◌, ◌≤◌}
use native.Mathlib.Omega.{arith}
use mathlib.Core.Bool.{Bool, true, false}
use mathlib.Core.List.{List, [], ◌∷◌}
use mathlib.Core.Logic.{◌⊎◌, inl, inr}
use mathlib.Core.Path.{◌≡◌, refl, sym, ap, subst, ◌∙◌}
use lib.ListN.{length, drop}
use Rattle.lines.specs.Text.{at_table, at_claims, words, row_of, cut, item_of, fit, item_by, stands, lines_of}
use Rattle.lines.specs.Walk.{claims_from, steps_from, found, next_of, read_at}
use Rattle.lines.specs.declared.Line.{Line}
use Rattle.lines.specs.declared.Item.{Item}
use Rattle.lines.specs.declared.Item.TheVariants.{Says, Wrong}
use Rattle.lines.specs.declared.Next.{Next}
use Rattle.lines.specs.declared.Next.TheVariants.{Found, Bad, End}
use Rattle.lines.proofs.Words.{spans, within_is, spanned}
use Rattle.reading.proofs.Loop.{when_found, when_bad, when_end}
use Rattle.alc.specs.Rows.{refusal}
use Rattle.alc.specs.Table.{Table}
use Rattle.alc.specs.Claims.{Sided}
use Rattle.alc.specs.Dossier.{Said, concept, claim, proof, model, step, size, fact, unread, saying}
use Rattle.alc.specs.Verdict.{State, refused, place, begin, rows, after, ending, judge}
use Rattle.parts.specs.declared.Section.{Section}
use Rattle.parts.specs.declared.Section.TheVariants.{Proof, Model}
use Rattle.std.specs.Prelude.{Result, Ok, Err}
use Rattle.parts.specs.Parts.{in_table, in_claims, in_steps, at_start, Through, none, line, TableEnd, ClaimsEnd, ClaimsLead, Listing}
use Rattle.parts.specs.Parts
use Rattle.parts.proofs.Judging.{next, judge_end, judge_bad, judge_refused, unrolled}
use Rattle.parts.proofs.Through.{Stuck, found_same, stage, through_then, through_judge, through_bounds, through_either, through_behind, both_last, apart}

-- A LINE AT TWO PLACES: where its word is allowed, it is found
module _ (p q : ℕ) (l : Line) (a : stands q l ≡ true) where
  by : (b : Bool) (k : Line) (m to : ℕ) → stands p k ≡ b → found m (item_by b k) ≡ Found l to → found m (fit q (Says k)) ≡ Found l to
  unfolding fit
  by true k m to e h =
      let f = found_same h in
      ap (λ b. found m (item_by b k)) (subst (λ z. stands q z ≡ true) (sym f.0) a) ∙ h
  by false k m to e h = let z : ◌≡◌ {A = ℕ} 0 1 = cc in absurd (omega arith)

  placed : (text : List ℕ) (at to : ℕ) → read_at text at p ≡ Found l to → read_at text at q ≡ Found l to
  unfolding read_at fit
  placed text at to = go (cut 10 (drop at text))
    where
      item : (i : Item) (m : ℕ) → found m (fit p i) ≡ Found l to → found m (fit q i) ≡ Found l to
      item Wrong m h = h
      item (Says k) m h = by (stands p k) k m to refl h

      go : (ps : List (List ℕ)) → next_of at p ps ≡ Found l to → next_of at q ps ≡ Found l to
      go [] h = h
      go (x ∷ []) h = h
      go (x ∷ y ∷ ps) h = item (item_of x) (at + length x + 1) h

-- the words of the table's place that are none of the table are those of the claims' place
pub in_claims_lem : (l : Line) → claims_from ≤ l.word → stands at_table l ≡ true → stands at_claims l ≡ true
unfolding words row_of
in_claims_lem l h a =
    spans at_claims claims_from steps_from (omega arith) refl l.word
    ∙ within_is claims_from steps_from l.word h (spanned at_table 0 steps_from (omega arith) refl l.word a).1

in_table_lem : (l : Line) → stands at_claims l ≡ true → stands at_table l ≡ true
unfolding words row_of
in_table_lem l a =
    spans at_table 0 steps_from (omega arith) refl l.word
    ∙ within_is 0 steps_from l.word (omega arith) (spanned at_claims claims_from steps_from (omega arith) refl l.word a).1

-- TABLE AND CLAIMS: behind the table the two parts have the same rows, and a line that passes leads to the same
same_rows : (T : Table) (s : Said) → rows (in_table T) s ≡ rows (in_claims T []) s
unfolding rows
same_rows T (concept e) = refl
same_rows T (claim s) = refl
same_rows T proof = refl
same_rows T model = refl
same_rows T (step s) = refl
same_rows T (size k) = refl
same_rows T (fact f) = refl
same_rows T unread = refl

same_after : (T : Table) (s : Said) → refusal (rows (in_table T) s) ≡ 0 → after (in_table T) s ≡ after (in_claims T []) s
unfolding rows after
same_after T (concept e) h = refl
same_after T (claim s) h = refl
same_after T proof h = refl
same_after T model h = refl
same_after T (step s) h = refl
same_after T (size k) h = refl
same_after T (fact f) h = refl
same_after T unread h = absurd (omega arith)

same_refusal : (T : Table) (s : Said) → refusal (rows (in_table T) s) ≡ refusal (rows (in_claims T []) s)
same_refusal T s = ap refusal (same_rows T s)

module _ {text : List ℕ} (T : Table) where
  -- a walk that leaves the claims as one from the end of the table
  from_table : {n a m b : ℕ} {S E : State} → Through text n a S m b E → S ≡ in_claims T [] → 2 ≤ stage E → Through text n a (in_table T) m b E
  from_table none e h = absurd (omega (arith, ap (λ (Z : State). stage Z) e, h))
  from_table {n} {a} {m} {b} {S} {E} (line {next = to} {l = l} r p v) e h =
      let r' : read_at text a at_claims ≡ Found l to = subst (λ (Z : State). read_at text a (place Z.part) ≡ Found l to) e r in
      let p' : refusal (rows (in_table T) (saying l)) ≡ 0 = same_refusal T (saying l) ∙ subst (λ (Z : State). refusal (rows Z (saying l)) ≡ 0) e p in
      line (placed 1 0 l (in_table_lem l (when_found text a at_claims l to r').allowed) text a to r') p'
      (subst (λ (Z : State). Through text (suc n) to Z m b E) (ap (λ (Z : State). after Z (saying l)) e ∙ sym (same_after T (saying l) p')) v)

  -- a walk that leaves the table as one from the beginning of the claims, where the table has ended
  from_claims : {n a m b : ℕ} {S E : State} → Through text n a S m b E → S ≡ in_table T → 2 ≤ stage E → TableEnd T (read_at text a at_table) 0
      → Through text n a (in_claims T []) m b E
  from_claims none e h d = absurd (omega (arith, ap (λ (Z : State). stage Z) e, h))
  from_claims {n} {a} {m} {b} {S} {E} (line {next = to} {l = l} r p v) e h d =
      let r' : read_at text a at_table ≡ Found l to = subst (λ (Z : State). read_at text a (place Z.part) ≡ Found l to) e r in
      let p' : refusal (rows (in_table T) (saying l)) ≡ 0 = subst (λ (Z : State). refusal (rows Z (saying l)) ≡ 0) e p in
      let w : claims_from ≤ l.word = outside (read_at text a at_table) 0 r' refl d in
      line (placed 0 1 l (in_claims_lem l w (when_found text a at_table l to r').allowed) text a to r') (sym (same_refusal T (saying l)) ∙ p')
      (subst (λ (Z : State). Through text (suc n) to Z m b E) (ap (λ (Z : State). after Z (saying l)) e ∙ same_after T (saying l) p') v)
    where
      outside : (x : Next) (k : ℕ) → x ≡ Found l to → k ≡ 0 → TableEnd T x k → claims_from ≤ l.word
      outside x k y z Parts.wrong = absurd (omega arith)
      outside x k y z (Parts.failed w q) = absurd (omega arith)
      outside x k y z (Parts.other w) = subst (λ (j : Line). claims_from ≤ j.word) (found_same y).0 w
      outside x k y z Parts.over = let c : ◌≡◌ {A = ℕ} 0 1 = cc in absurd (omega arith)

-- where the next line is none of the table, or there is none, the judge does not tell the two parts apart
same_next : (n : ℕ) (T : Table) (s : Said) (is : List Item)
    → next n (in_table T) s is (refusal (rows (in_table T) s)) ≡ next n (in_claims T []) s is (refusal (rows (in_claims T []) s))
same_next n T s is = go (refusal (rows (in_table T) s)) refl ∙ ap (next n (in_claims T []) s is) (same_refusal T s)
  where
    go : (k : ℕ) → refusal (rows (in_table T) s) ≡ k → next n (in_table T) s is k ≡ next n (in_claims T []) s is k
    go zero e = ap (λ (S : State). judge (suc n) S is) (same_after T s e)
    go (suc k) e = refl

same_judge : (text : List ℕ) (T : Table) (n at k : ℕ) (x : Next) → read_at text at at_table ≡ x → TableEnd T x k → k ≡ 0
    → judge n (in_table T) (lines_of (drop at text)) ≡ judge n (in_claims T []) (lines_of (drop at text))
unfolding ending
same_judge text T n at k x e Parts.wrong z = absurd (omega arith)
same_judge text T n at k x e (Parts.failed w q) z = absurd (omega arith)
same_judge text T n at k x e (Parts.other {l} {next = to} w) z =
    let f = when_found text at at_table l to e in
    let g = when_found text at at_claims l to (placed 0 1 l (in_claims_lem l w f.allowed) text at to e) in
    unrolled text at at_table n (in_table T) refl l to f
    ∙ same_next n T (saying l) (lines_of (drop to text))
    ∙ sym (unrolled text at at_claims n (in_claims T []) refl l to g)
same_judge text T n at k x e Parts.over z =
    let f = when_end text at at_table e in
    judge_end n (in_table T) _ f ∙ sym (judge_end n (in_claims T []) _ f)

-- A REFUSAL: the judge is refused there, and no walk goes on
pub record Halts (text : List ℕ) (n at : ℕ) (S : State) (k : ℕ) : Type 0 where
  pub judged : judge n S (lines_of (drop at text)) ≡ refused k (suc n)
  pub stuck : Stuck text at S

module _ (text : List ℕ) (n at : ℕ) (S : State) where
  halts_wrong : read_at text at (place S.part) ≡ Bad → Halts text n at S 2
  halts_wrong e = record {
    judged = judge_bad text at (place S.part) n S refl (when_bad text at _ e);
    stuck = λ l to r p. let z : Bad ≡ Found l to = sym e ∙ r in let y : ◌≡◌ {A = ℕ} 0 1 = cc in omega arith;
  }

  halts_failed : (l : Line) (to k : ℕ) → read_at text at (place S.part) ≡ Found l to → refusal (rows S (saying l)) ≡ suc k → Halts text n at S (suc k)
  halts_failed l to k e q = record {
    judged = judge_refused text at (place S.part) n S refl l to (when_found text at _ l to e) (suc k) q (λ (z : suc k ≡ 0). omega arith);
    stuck = λ j next r p. let z : suc k ≡ 0 = sym q ∙ ap (λ y. refusal (rows S (saying y))) (found_same (sym e ∙ r)).0 ∙ p in omega arith;
  }

table_halts : (text : List ℕ) (T : Table) (n at k : ℕ) (x : Next) → read_at text at at_table ≡ x → TableEnd T x k → (k ≡ 0 → ⊥) → Halts text n at (in_table T) k
table_halts text T n at k x e Parts.wrong h = halts_wrong text n at (in_table T) e
table_halts text T n at k x e (Parts.failed {l} {next = to} {k = j} w q) h = halts_failed text n at (in_table T) l to j e q
table_halts text T n at k x e (Parts.other w) h = absurd (h refl)
table_halts text T n at k x e Parts.over h = absurd (h refl)

pub claims_halts : (text : List ℕ) (T : Table) (cs : List Sided) (n at k : ℕ) (x : Next) → read_at text at at_claims ≡ x → ClaimsEnd T cs x k
    → Halts text n at (in_claims T cs) k
unfolding ending
claims_halts text T cs n at k x e Parts.wrong = halts_wrong text n at (in_claims T cs) e
claims_halts text T cs n at k x e (Parts.failed {l} {next = to} {k = j} q) = halts_failed text n at (in_claims T cs) l to j e q
claims_halts text T cs n at k x e Parts.over = record {
  judged = judge_end n (in_claims T cs) _ (when_end text at at_claims e);
  stuck = λ l to r p. let z : End ≡ Found l to = sym e ∙ r in let y : ◌≡◌ {A = ℕ} 0 1 = cc in omega arith;
}

-- BEHIND THE TABLE
module _ {text : List ℕ} {T : Table} {at k : ℕ} (t : Listing text T at k) where
  pub table_refused : (k ≡ 0 → ⊥) → judge 0 begin (lines_of text) ≡ refused k (suc (length T))
  table_refused h = through_judge t.read ∙ (table_halts text T (length T) at k _ refl t.ends h).judged

  pub table_left : k ≡ 0 → judge 0 begin (lines_of text) ≡ judge (length T) (in_claims T []) (lines_of (drop at text))
  table_left h = through_judge t.read ∙ same_judge text T (length T) at k _ refl t.ends h

  -- a walk that leaves the claims goes on where that of the table ends; and one that leaves them leads there, if the table is not refused
  pub table_then : {m c : ℕ} {F : State} → Through text (length T) at (in_claims T []) m c F → 2 ≤ stage F → Through text 0 0 begin m c F
  table_then v h = through_then t.read (from_table T v refl h)

  pub table_behind : k ≡ 0 → {m c : ℕ} {F : State} → Through text 0 0 begin m c F → 2 ≤ stage F → Through text (length T) at (in_claims T []) m c F
  table_behind h {m} {c} {F} v f = go (through_either t.read v)
    where
      go : Through text (length T) at (in_table T) m c F ⊎ Through text m c F (length T) at (in_table T)
          → Through text (length T) at (in_claims T []) m c F
      go (inl u) = from_claims T u refl f (subst (TableEnd T (read_at text at at_table)) h t.ends)
      go (inr u) = absurd (omega (arith, through_behind u f))

  pub table_apart : (k ≡ 0 → ⊥) → {m c : ℕ} {F : State} → Through text 0 0 begin m c F → stage F ≡ 2 → ⊥
  table_apart h v = apart t.read v (table_halts text T (length T) at k _ refl t.ends h).stuck (omega arith)

-- BEHIND THE CLAIMS
module _ {text : List ℕ} {T : Table} {begun : ℕ} {cs : List Sided} {lines at : ℕ} where
  pub claims_bounds : {e : Result Section ℕ} → ClaimsLead text T begun cs lines at e → (begun ≤ length text) × (length T ≤ begun) → (at ≤ length text) × (lines ≤ at)
  claims_bounds (Parts.proof v) h = through_bounds v h
  claims_bounds (Parts.model v) h = through_bounds v h
  claims_bounds (Parts.refused v d) h = through_bounds v h

  pub claims_refused : {k : ℕ} → ClaimsLead text T begun cs lines at (Err k) → judge (length T) (in_claims T []) (lines_of (drop begun text)) ≡ refused k (suc lines)
  claims_refused {k} (Parts.refused v d) = through_judge v ∙ (claims_halts text T cs lines at k _ refl d).judged

  pub claims_proof : ClaimsLead text T begun cs lines at (Ok Proof) → Through text (length T) begun (in_claims T []) lines at (in_steps T cs 0 (cs ∷ []))
  claims_proof (Parts.proof v) = v

  pub claims_model : ClaimsLead text T begun cs lines at (Ok Model) → Through text (length T) begun (in_claims T []) lines at (at_start T cs)
  claims_model (Parts.model v) = v

  -- no walk leads to a first step but behind `proof`
  pub claims_apart : {e : Result Section ℕ} → ClaimsLead text T begun cs lines at e → (e ≡ Ok Proof → ⊥)
      → {U : Table} {ds : List Sided} {m c : ℕ} → Through text (length T) begun (in_claims T []) m c (in_steps U ds 0 (ds ∷ [])) → ⊥
  claims_apart (Parts.proof v) h w = h refl
  claims_apart (Parts.model v) h w = let z : ◌≡◌ {A = ℕ} 3 2 = ap (λ (Z : State). place Z.part) (both_last v w refl refl).2 in omega arith
  claims_apart (Parts.refused {k} v d) h w = apart v w (claims_halts text T cs lines at k _ refl d).stuck (omega arith) refl
