-- The sets of the code against `some_below` and `every_below`: two sets meet just if some element is in both, and every element is in a set
-- just if none is outside it. What a line has depends on what its parts have alone.
-- Assumes nothing.
use Prim.Native.Nat.{ℕ, zero, suc, ◌≤◌, ◌<◌}
use native.Mathlib.Omega.{arith}
use native.Mathlib.Decide.{ℕ_discrete}
use mathlib.Core.Bool.{Bool, true, false, not, ◌&&◌, ◌||◌, and-false}
use mathlib.Core.Path.{◌≡◌, refl, ap, ap₂, ◌∙◌, fun_ext}
use lib.Dec.{ltb}
use borrow.Author.Tests.{lt-ltb, le-ltb, ltb-true}
use Rattle.alc.specs.Lists.{All}
use Rattle.alc.proofs.Trees.{concepts}
use Rattle.alc.specs.Meaning.{World, some_below, every_below}
use Rattle.alc.specs.Table.{Kind, fields_by}
use Rattle.alc.proofs.Logic.{not_or}
use Rattle.sets.specs.Bit.{bit, common}
use Rattle.extents.specs.Extent.{extent, reaches}

some_same : (n : ℕ) (f g : ℕ → Bool) → ((e : ℕ) → e < n → f e ≡ g e) → some_below n f ≡ some_below n g
some_same zero f g h = refl
some_same (suc n) f g h = ap₂ (λ (a b : Bool). a || b) (h n (omega arith)) (some_same n f g (λ e (l : e < n). h e (omega arith)))

pub every_same : (n : ℕ) (f g : ℕ → Bool) → ((e : ℕ) → e < n → f e ≡ g e) → every_below n f ≡ every_below n g
every_same zero f g h = refl
every_same (suc n) f g h = ap₂ (λ (a b : Bool). a && b) (h n (omega arith)) (every_same n f g (λ e (l : e < n). h e (omega arith)))

-- what holds of no number from n on
some_less : (f : ℕ → Bool) (k n : ℕ) → n ≤ k → ((e : ℕ) → n ≤ e → f e ≡ false) → some_below k f ≡ some_below n f
some_less f zero n h off = let z : 0 ≡ n = omega arith in ap (λ (m : ℕ). some_below m f) z
some_less f (suc k) n h off = go (ℕ_discrete n (suc k)) (λ l. some_less f k n l off)
  where
    go : Dec (n ≡ suc k) → (n ≤ k → some_below k f ≡ some_below n f) → some_below (suc k) f ≡ some_below n f
    go (yes e) ih = rw e refl
    go (no e) ih = rw (off k (omega arith)) (ih (omega arith))

deny : (a b : Bool) → not (a && not b) ≡ (not a || b)
deny true true = refl
deny true false = refl
deny false b = refl

-- "no element that is in a is outside p" is "every element that is in a is in p"
pub not_some : (n : ℕ) (a p : ℕ → Bool) → not (some_below n (λ e. a e && not (p e))) ≡ every_below n (λ e. not (a e) || p e)
not_some zero a p = refl
not_some (suc n) a p = not_or (a n && not (p n)) (some_below n (λ e. a e && not (p e))) ∙ ap₂ (λ (x y : Bool). x && y) (deny (a n) (p n)) (not_some n a p)

-- a set, whose elements are those that q has, against one of elements below n
pub common_some : (n y : ℕ) (q p : ℕ → Bool) → n ≤ 32 → ((e : ℕ) → bit y e ≡ (ltb e n && p e)) → some_below 32 (λ e. q e && bit y e) ≡ some_below n (λ e. q e && p e)
common_some n y q p h is =
    some_less (λ e. q e && bit y e) 32 n h (λ e l. rw (is e, le-ltb e n l) (and-false (q e)))
    ∙ some_same n (λ e. q e && bit y e) (λ e. q e && p e) (λ e l. rw (is e, lt-ltb e n l) refl)

-- what is the same below n is the same when it is clipped to n
pub clip : (d n : ℕ) (a b : Bool) → (d < n → a ≡ b) → (ltb d n && a) ≡ (ltb d n && b)
clip d n a b h = go (ltb d n) refl
  where
    go : (t : Bool) → ltb d n ≡ t → (t && a) ≡ (t && b)
    go true e = h (ltb-true d n e)
    go false e = refl

-- the successors meet a set just if an edge leads into it
pub meets_reaches : (W : World) (r s d to : ℕ) → ((e : ℕ) → bit to e ≡ W.roles r d e) → common to s ≡ reaches W r s d
unfolding common reaches
meets_reaches W r s d to is = ap (some_below 32) (fun_ext (λ e. ap (λ (b : Bool). b && bit s e) (is e)))

-- t has the elements with an edge into the set s, which has the elements below the size that p has
module _ (W : World) (r s t : ℕ) (p : ℕ → Bool) (few : W.size ≤ 32) (is : (e : ℕ) → bit s e ≡ (ltb e W.size && p e))
    (reach : (d : ℕ) → bit t d ≡ (ltb d W.size && reaches W r s d)) where
  pub some_bits : (d : ℕ) → bit t d ≡ (ltb d W.size && some_below W.size (λ e. W.roles r d e && p e))
  unfolding reaches
  some_bits d = reach d ∙ ap (λ (b : Bool). ltb d W.size && b) (common_some W.size s (W.roles r d) p few is)

-- the same into the complement of a; q has the elements that are not in t
pub all_bits : (W : World) (r s t q : ℕ) (a : ℕ → Bool) → W.size ≤ 32 → ((e : ℕ) → bit s e ≡ (ltb e W.size && not (a e)))
    → ((d : ℕ) → bit t d ≡ (ltb d W.size && reaches W r s d)) → ((d : ℕ) → bit q d ≡ (ltb d W.size && not (bit t d)))
    → (d : ℕ) → bit q d ≡ (ltb d W.size && every_below W.size (λ e. not (W.roles r d e) || a e))
all_bits W r s t q a few is reach out d =
    out d
    ∙ clip d W.size (not (bit t d)) (every_below W.size (λ e. not (W.roles r d e) || a e)) (λ l.
    ap (λ (b : Bool). not b) (some_bits W r s t (λ e. not (a e)) few is reach d)
    ∙ ap (λ (b : Bool). not (b && some_below W.size (λ e. W.roles r d e && not (a e)))) (lt-ltb d W.size l)
    ∙ not_some W.size (W.roles r d) a)

-- the same elements of the parts, the same elements
pub extent_same : (W : World) (k : Kind) (x y : ℕ) (m n : ℕ → ℕ → Bool) → All (λ p. (d : ℕ) → d < W.size → m p d ≡ n p d) (concepts (fields_by k x y))
    → (d : ℕ) → d < W.size → extent W k x y m d ≡ extent W k x y n d
extent_same W Kind.top x y m n h d l = refl
extent_same W Kind.bot x y m n h d l = refl
extent_same W Kind.atom x y m n h d l = refl
extent_same W Kind.not x y m n h d l = ap not (h.0 d l)
extent_same W Kind.and x y m n h d l = ap₂ (λ (a b : Bool). a && b) (h.0 d l) (h.1.0 d l)
extent_same W Kind.or x y m n h d l = ap₂ (λ (a b : Bool). a || b) (h.0 d l) (h.1.0 d l)
extent_same W Kind.some x y m n h d l = some_same W.size (λ e. W.roles x d e && m y e) (λ e. W.roles x d e && n y e) (λ e k. ap (λ (b : Bool). W.roles x d e && b) (h.0 e k))
extent_same W Kind.all x y m n h d l = every_same W.size (λ e. not (W.roles x d e) || m y e) (λ e. not (W.roles x d e) || n y e) (λ e k. ap (λ (b : Bool). not (W.roles x d e) || b) (h.0 e k))
