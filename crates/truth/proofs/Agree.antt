-- A claim's truth, read off the sets, is its truth by the meaning of the concepts: its numbers are below the count of the lines and names are
-- at elements of the model, and there the sets have what the concepts have.
-- Assumes nothing.
use Prim.Native.Nat.{ℕ, suc, ◌≤◌, ◌<◌}
use mathlib.Core.Bool.{Bool, not, cond, ◌||◌}
use mathlib.Core.List.{List, [], ◌∷◌}
use mathlib.Core.Path.{◌≡◌, refl, ap, ap₂, ◌∙◌}
use lib.ListN.{get_or}
use borrow.Author.Tests.{lt-ltb}
use Rattle.alc.specs.Lists.{All, first_at}
use Rattle.alc.specs.Meaning.{member}
use Rattle.alc.specs.Table.{Table, tree_of}
use Rattle.alc.specs.Claims.{Claim, is, sub, link, Sided, left, right, claim, claim_fields, truth, holds_by}
use Rattle.alc.specs.Shown.{claims_in}
use Rattle.alc.specs.declared.Goal.{Goal as Records}
use Rattle.sets.specs.Bit.{bit}
use Rattle.extents.specs.Extent.{Extended}
use Rattle.models.specs.Arrays.{Inside}
use Rattle.models.specs.Shown.{world_of, interp_shown, seat_of, Below, Claimed}
use Rattle.models.specs.declared.Model.{Model}
use Rattle.truth.specs.Truth.{truth_in, wrong_in}
use Rattle.extents.proofs.ExtentLaws.{every_same}
use Rattle.alc.proofs.ListFacts.{All-map}
use Rattle.extents.proofs.Trees.{below_more}
use Rattle.truth.proofs.ClaimLaws.{seat_low}

-- in range of a table, in range of a longer one
pub claimed_more : (n m : ℕ) (g : Records) → n ≤ m → Claimed n g → Claimed m g
claimed_more n m g l c = record {
  few = c.few;
  numbers = All-map (λ s h. All-map (below_more n m 0 l) (claim_fields (claim s)) h) (claims_in g) c.numbers;
}

first_same : {A : Type 0} (p q : A → Bool) (l : List A) → All (λ x. p x ≡ q x) l → first_at p l ≡ first_at q l
first_same p q [] h = refl
first_same p q (x ∷ l) h = ap₂ (λ (b : Bool) (n : ℕ). cond b 0 (suc n)) h.0 (first_same p q l h.1)

module _ (n : ℕ) (m : Model) (ext : List ℕ) (T : Table) (known : Extended ext n T (world_of m)) (inside : Inside m.size.count m.places) where
  same : (i d : ℕ) → i < n → d < m.size.count → bit (get_or ext i 0) d ≡ member (world_of m) (tree_of T i) d
  same i d h l = known i d ∙ rw (lt-ltb i n h, lt-ltb d m.size.count l) refl

  truth_same : (c : Claim) → All (Below n 0) (claim_fields c) → truth_in ext (interp_shown m) c ≡ truth T (interp_shown m) c
  unfolding truth
  truth_same (is a i) h = same i (seat_of m a) h.1.0 (seat_low m m.size.count m.size.sized.least inside a)
  truth_same (sub i j) h =
      every_same m.size.count (λ d. not (bit (get_or ext i 0) d) || bit (get_or ext j 0) d)
      (λ d. not (member (world_of m) (tree_of T i) d) || member (world_of m) (tree_of T j) d)
      (λ d l. ap₂ (λ (a b : Bool). not a || b) (same i d h.0 l) (same j d h.1.0 l))
  truth_same (link r a b) h = refl

  wrong_same : (s : Sided) → All (Below n 0) (claim_fields (claim s)) → wrong_in ext (interp_shown m) s ≡ holds_by T (interp_shown m) s
  wrong_same (left c) h = ap not (truth_same c h)
  wrong_same (right c) h = truth_same c h

  pub first_differs : (g : Records) → Claimed n g → first_at (wrong_in ext (interp_shown m)) (claims_in g) ≡ first_at (holds_by T (interp_shown m)) (claims_in g)
  first_differs g c = first_same (wrong_in ext (interp_shown m)) (holds_by T (interp_shown m)) (claims_in g) (All-map wrong_same (claims_in g) c.numbers)
