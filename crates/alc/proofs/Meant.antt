-- What a passing verdict means. A derivation proves its goal, rule by rule; a model is an interpretation in which the sequent fails; so no sequent has
-- both. What the lines of a text say, and where one sort of line ends and the next begins, is fixed by the text, so it reads in one way only.
-- Assumes nothing.
use Prim.Native.Nat.{ℕ, ◌≤◌, ◌<◌}
use native.Mathlib.Omega.{arith}
use mathlib.Core.Bool.{Bool, true, false, cond, ◌&&◌}
use mathlib.Core.List.{List, [], ◌∷◌, ◌++◌, map, tail-eq_of_cons-eq, head-eq_of_cons-eq}
use mathlib.Core.Logic.{◌≢◌}
use mathlib.Core.Path.{◌≡◌, refl, sym, ap, ap₂, ◌∙◌}
use lib.Dec.{eqb, ltb}
use lib.ListN.{get_or}
use borrow.Author.Tests.{ltb-true}
use Rattle.lines.specs.Text.{lines_of}
use Rattle.alc.specs.Lists.{All}
use Rattle.alc.specs.Meaning.{Placed}
use Rattle.alc.specs.Table.{Table}
use Rattle.alc.specs.Claims.{Sided, Goal, holds, Valid}
use Rattle.alc.specs.Rules.{Step}
use Rattle.alc.specs.Model.{Fact, places, has, edge, fact_fields, places_of, places_in, interp_of}
use Rattle.alc.specs.Dossier.{Said, concept, claim, proof, model, step, size, fact, unread, said_by}
use Rattle.alc.specs.Verdict.{proved, refuted, verdict}
use Rattle.alc.specs.Slide.{Rule}
use Rattle.alc.specs.Derivation.{Derives}
use Rattle.alc.specs.Reading.{InRange, GoodTable, GoodModel, ReadsProof, ReadsModel, Evidence, a_derivation, a_model, Reads}
use Rattle.alc.specs.Accepts.{Fails}
use Rattle.alc.proofs.Logic.{both_true, clash}
use Rattle.alc.proofs.ListFacts.{All-append}
use Rattle.alc.proofs.Trees.{well_formed}
use Rattle.alc.proofs.Derive
use Rattle.alc.proofs.Derive.{derives_valid}
use Rattle.alc.proofs.Ending.{against_fails}
use Rattle.alc.proofs.Verdicts.{proved_iff, refuted_iff}

-- ONE READING
-- the sort of a line, by a number
abbrev sort : Said → ℕ
sort (concept e) = 0
sort (claim s) = 1
sort proof = 2
sort model = 3
sort (step s) = 4
sort (size n) = 5
sort (fact f) = 6
sort unread = 7

-- the sort of the first line
abbrev front : List Said → ℕ
front [] = 8
front (s ∷ l) = sort s

module _ {A : Type 0} (c : A → Said) (k : ℕ) (yes : (x : A) → sort (c x) ≡ k) (same : (x y : A) → c x ≡ c y → x ≡ y) where
  same_front : (xs ys : List A) (l m : List Said) → front l ≢ k → front m ≢ k → map c xs ++ l ≡ map c ys ++ m → (xs ≡ ys) × (l ≡ m)
  same_front [] [] l m a b e = (refl, e)
  same_front [] (y ∷ ys) l m a b e = absurd (a (ap front e ∙ yes y))
  same_front (x ∷ xs) [] l m a b e = absurd (b (ap front (sym e) ∙ yes x))
  same_front (x ∷ xs) (y ∷ ys) l m a b e =
      let r = same_front xs ys l m a b (tail-eq_of_cons-eq e) in
      (ap₂ ◌∷◌ (same x y (head-eq_of_cons-eq e)) r.0, r.1)

-- claims, then something else: no concept stands first
claims_front : (cs : List Sided) (l : List Said) → 1 < front l → 0 < front (map claim cs ++ l)
claims_front [] l h = omega arith
claims_front (c ∷ cs) l h = omega arith

-- what stands behind the claims
abbrev behind : Evidence → List Said
behind (a_derivation ss) = proof ∷ map step ss
behind (a_model n fs) = model ∷ size n ∷ map fact fs

behind_front : (x : Evidence) → 1 < front (behind x)
behind_front (a_derivation ss) = omega arith
behind_front (a_model n fs) = omega arith

reads_lines : (text : List ℕ) (T : Table) (cs : List Sided) (x : Evidence) → Reads text T cs x → map said_by (lines_of text) ≡ map concept T ++ (map claim cs ++ behind x)
reads_lines text T cs (a_derivation ss) r = r.lines
reads_lines text T cs (a_model n fs) r = r.lines

same_behind : (x y : Evidence) → behind x ≡ behind y → x ≡ y
same_behind (a_derivation ss) (a_derivation rs) e =
    ap a_derivation (same_front step 4 (λ x. refl) (λ x y r. cc) ss rs [] [] (λ z. omega arith) (λ z. omega arith) (ap (λ z. z ++ []) (tail-eq_of_cons-eq e))).0
same_behind (a_derivation ss) (a_model n fs) e = let z : ◌≡◌ {A = ℕ} 2 3 = ap front e in absurd (omega arith)
same_behind (a_model n fs) (a_derivation ss) e = let z : ◌≡◌ {A = ℕ} 3 2 = ap front e in absurd (omega arith)
same_behind (a_model n fs) (a_model k es) e =
    let t = tail-eq_of_cons-eq e in
    let h : size n ≡ size k = head-eq_of_cons-eq t in
    let m : n ≡ k = cc in
    ap₂ a_model m
    (same_front fact 6 (λ x. refl) (λ x y r. cc) fs es [] [] (λ z. omega arith) (λ z. omega arith) (ap (λ z. z ++ []) (tail-eq_of_cons-eq t))).0

-- a text reads in one way only
pub one_reading : (text : List ℕ) (T U : Table) (cs ds : List Sided) (x y : Evidence) → Reads text T cs x → Reads text U ds y → (T ≡ U) × (cs ≡ ds) × (x ≡ y)
one_reading text T U cs ds x y r s =
    let e = sym (reads_lines text T cs x r) ∙ reads_lines text U ds y s in
    let p = claims_front cs (behind x) (behind_front x) in
    let q = claims_front ds (behind y) (behind_front y) in
    let h = behind_front x in
    let k = behind_front y in
    let t = same_front concept 0 (λ x. refl) (λ x y r. cc) T U (map claim cs ++ behind x) (map claim ds ++ behind y) (λ z. omega arith) (λ z. omega arith) e in
    let c = same_front claim 1 (λ x. refl) (λ x y r. cc) cs ds (behind x) (behind y) (λ z. omega arith) (λ z. omega arith) t.1 in
    (t.0, c.0, same_behind x y c.1)

-- PROVED
pub rule_sound : (T : Table) → GoodTable T → (g : Goal) (s : Step) (ps : List Goal) → Rule T g s ps → All (Valid T) ps → Valid T g
rule_sound T t g s ps r v = Derive.rule_sound T (well_formed T t) r v

pub derived_valid : (T : Table) (cs : List Sided) (ss : List Step) → GoodTable T → Derives T 0 ss (cs ∷ []) → Valid T cs
derived_valid T cs ss t d = (derives_valid T (well_formed T t) d).0

pub proved_valid : (room n : ℕ) (text : List ℕ) {T : Table} {cs : List Sided} {ss : List Step} → verdict room text ≡ proved n → ReadsProof text T cs ss → Valid T cs
proved_valid room n text {T} {cs} {ss} e r =
    let p = ((proved_iff room text n).0 e).1 in
    let s = one_reading text p.table T p.claims cs (a_derivation p.steps) (a_derivation ss) p.reads r in
    rw (s.0, s.1) at (derived_valid p.table p.claims p.steps p.reads.table p.derives)

-- REFUTED
-- names are placed at elements: those that are said by the ranges, the others at 0
places_below : (n a : ℕ) (f : Fact) → InRange 0 n (fact_fields f) → All (λ d. d < n) (places_of a f)
places_below n a (places b d) r = go (eqb a b)
  where
    below : d < n
    below = ltb-true d n (both_true (ltb d n) true (both_true (ltb b 64) (ltb d n && true) r).1).0

    go : (t : Bool) → All (λ e. e < n) (cond t (d ∷ []) [])
    go true = (below, tt)
    go false = tt
places_below n a (has A d) r = tt
places_below n a (edge s d e) r = tt

all_below_lem : (n a : ℕ) (fs : List Fact) → All (λ f. InRange 0 n (fact_fields f)) fs → All (λ d. d < n) (places_in fs a)
all_below_lem n a [] r = tt
all_below_lem n a (f ∷ fs) r = All-append (λ d. d < n) (places_of a f) (places_in fs a) (places_below n a f r.0) (all_below_lem n a fs r.1)

first_below : (n : ℕ) (l : List ℕ) → 1 ≤ n → All (λ d. d < n) l → get_or l 0 0 < n
first_below n [] h k = h
first_below n (d ∷ l) h k = k.0

pub model_placed : (n : ℕ) (fs : List Fact) → GoodModel n fs → Placed (interp_of n fs)
model_placed n fs m a = first_below n (places_in fs a) m.least (all_below_lem n a fs m.ranges)

pub refuted_fails : (room n : ℕ) (text : List ℕ) {T : Table} {cs : List Sided} {k : ℕ} {fs : List Fact} → verdict room text ≡ refuted n → ReadsModel text T cs k fs → Fails T cs
refuted_fails room n text {T} {cs} {k} {fs} e r =
    let p = ((refuted_iff room text n).0 e).1 in
    let I = interp_of p.size p.facts in
    let g = p.reads.facts in
    let s = one_reading text p.table T p.claims cs (a_model p.size p.facts) (a_model k fs) p.reads r in
    let f : Fails p.table p.claims
    = record {
      interp = I;
      placed = model_placed p.size p.facts g;
      most = g.most;
      fails = (against_fails p.table I p.claims).0 p.against;
    } in
    rw (s.0, s.1) at f

-- NEVER BOTH
pub never_both : (room₁ room₂ n₁ n₂ : ℕ) (text₁ text₂ : List ℕ) {T : Table} {cs : List Sided} {ss : List Step} {k : ℕ} {fs : List Fact} → ReadsProof text₁ T cs ss
    → ReadsModel text₂ T cs k fs → verdict room₁ text₁ ≡ proved n₁ → verdict room₂ text₂ ≡ refuted n₂ → ⊥
never_both room₁ room₂ n₁ n₂ text₁ text₂ {T} {cs} p m e f =
    let v = proved_valid room₁ n₁ text₁ e p in
    let w = refuted_fails room₂ n₂ text₂ f m in
    clash (holds T w.interp cs) (v w.interp w.placed) w.fails
