-- Which elements a line of the table has follows from those that its parts have, since its tree is grown from theirs.
-- Assumes nothing.
use Prim.Native.Nat.{ℕ, ◌<◌, ◌≤◌}
use native.Mathlib.Omega.{arith}
use native.Mathlib.Decide.{dec_lt}
use lib.ListN.{length, get_or-eq_default}
use mathlib.Core.List.{List, [], ◌∷◌}
use mathlib.Core.Path.{◌≡◌, refl, ap, ◌∙◌}
use Rattle.alc.specs.Lists.{All}
use Rattle.alc.specs.Ranges.{Field, role, atom, name, element, size, concept}
use Rattle.alc.specs.Meaning.{Tree, World, member}
use Rattle.alc.specs.Table.{Table, Kind, entry, entry_of, entry_fields, shape, tree_of}
use Rattle.alc.specs.Entries.{Layered}
use Rattle.alc.proofs.Trees.{concepts, parts, WellFormed, law}
use Rattle.extents.specs.Extent.{extent}
use Rattle.models.specs.Shown.{Below}
use Rattle.models.proofs.InRange.{in_range_lem}

-- a table whose numbers are in range is well formed
pub formed : (T : Table) → Layered T → WellFormed T
unfolding Layered
formed T r i = go (dec_lt i (length T))
  where
    below : (fs : List Field) → All (Below i 0) fs → All (λ p. p < i) (concepts fs)
    below [] h = tt
    below (role r ∷ fs) h = below fs h.1
    below (atom A ∷ fs) h = below fs h.1
    below (name a ∷ fs) h = below fs h.1
    below (element d ∷ fs) h = below fs h.1
    below (size n ∷ fs) h = below fs h.1
    below (concept p ∷ fs) h = (h.0, below fs h.1)

    go : Dec (i < length T) → All (λ p. p < i) (parts (entry T i))
    go (yes h) = below (entry_fields (entry T i)) (in_range_lem i 0 (entry_fields (entry T i)) (r i h))
    go (no h) = let past : length T ≤ i = omega arith in rw (get_or-eq_default T (entry_of Kind.top 0 0) past) tt

-- what is in range with n lines is so with more
pub below_more : (n m k : ℕ) → n ≤ m → (f : Field) → Below n k f → Below m k f
below_more n m k l (role r) h = h
below_more n m k l (atom A) h = h
below_more n m k l (name a) h = h
below_more n m k l (element d) h = h
below_more n m k l (size s) h = h
below_more n m k l (concept i) h = omega arith

shape_extent : (W : World) (k : Kind) (x y : ℕ) (t : ℕ → Tree) (d : ℕ) → member W (shape k x y t) d ≡ extent W k x y (λ p. member W (t p)) d
unfolding member
shape_extent W Kind.top x y t d = refl
shape_extent W Kind.bot x y t d = refl
shape_extent W Kind.atom x y t d = refl
shape_extent W Kind.not x y t d = refl
shape_extent W Kind.and x y t d = refl
shape_extent W Kind.or x y t d = refl
shape_extent W Kind.some x y t d = refl
shape_extent W Kind.all x y t d = refl

pub member_law : (T : Table) → WellFormed T → (W : World) (i d : ℕ)
    → member W (tree_of T i) d ≡ extent W (entry T i).kind (entry T i).x (entry T i).y (λ p. member W (tree_of T p)) d
member_law T wf W i d = ap (λ t. member W t d) (law T wf i) ∙ shape_extent W (entry T i).kind (entry T i).x (entry T i).y (tree_of T) d
