-- The extensions, filled entry by entry: an entry's set follows from those above it, which are filled already, and a store leaves them as
-- they are.
-- Assumes nothing.
use Prim.Native.Nat.{ℕ, ◌+◌, ◌≤◌, ◌<◌}
use native.Mathlib.Omega.{arith}
use native.Mathlib.Decide.{ℕ_discrete}
use mathlib.Core.Bool.{Bool, ◌&&◌}
use mathlib.Core.List.{List}
use mathlib.Core.Path.{◌≡◌, refl, sym, ap, ◌∙◌}
use lib.Dec.{ltb}
use lib.ListN.{length, get_or, set, replicate}
use lib.Seq.{get_or-set_same, get_or-set_other}
use borrow.Author.Tests.{lt-ltb, le-ltb}
use Rattle.alc.specs.Lists.{All}
use Rattle.alc.specs.Meaning.{World, member}
use Rattle.alc.specs.Table.{Table, Entry, entry, entry_fields, tree_of}
use Rattle.alc.specs.Entries.{Layered}
use Rattle.sets.specs.Bit.{bit}
use Rattle.extents.specs.Extent.{extent, Extended}
use Rattle.models.specs.Shown.{Below}
use Rattle.models.proofs.InRange.{in_range_lem}
use Rattle.sets.proofs.BitLaws.{bit_zero, ltb_more}
use Rattle.extents.proofs.ExtentLaws.{clip, extent_same}
use Rattle.alc.proofs.ListFacts.{All-map, zeros}
use Rattle.alc.proofs.Trees.{parts, WellFormed}
use Rattle.extents.proofs.Trees.{below_more, member_law}

-- each line has its numbers in range
pub line_fits : (T : Table) → Layered T → length T ≤ 256 → (i : ℕ) → i < length T → All (Below 256 0) (entry_fields (entry T i))
unfolding Layered
line_fits T r few i h = All-map (below_more i 256 0 (omega arith)) (entry_fields (entry T i)) (in_range_lem i 0 (entry_fields (entry T i)) (r i h))

-- the sets of the lines below i are known, and that of line i, which is e, is put at i
module _ (W : World) (T : Table) (wf : WellFormed T) (ext : List ℕ) (i res new : ℕ) (e : Entry) (at : entry T i ≡ e)
    (known : Extended ext i T W)
    (made : (d : ℕ) → d < W.size → bit res d ≡ extent W e.kind e.x e.y (λ p. bit (get_or ext p 0)) d)
    (put : (d : ℕ) → bit new d ≡ (ltb d W.size && bit res d)) where
  above : (p : ℕ) → p < i → (d : ℕ) → d < W.size → bit (get_or ext p 0) d ≡ member W (tree_of T p) d
  above p h d l = known p d ∙ rw (lt-ltb p i h, lt-ltb d W.size l) refl

  by : (ℕ → ℕ → Bool) → Entry → ℕ → Bool
  by m f d = extent W f.kind f.x f.y m d

  here : (d : ℕ) → bit new d ≡ (ltb d W.size && member W (tree_of T i) d)
  unfolding by
  here d = put d ∙ clip d W.size (bit res d) (member W (tree_of T i) d) (λ l.
      made d l
      ∙ ap (λ (f : Entry). by (λ p. bit (get_or ext p 0)) f d) (sym at)
      ∙ extent_same W (entry T i).kind (entry T i).x (entry T i).y (λ p. bit (get_or ext p 0)) (λ p. member W (tree_of T p)) (All-map above (parts (entry T i)) (wf i)) d l
      ∙ sym (member_law T wf W i d))

  pub filled : i < length ext → Extended (set ext i new) (i + 1) T W
  filled h k d = go (ℕ_discrete k i)
    where
      go : Dec (k ≡ i) → bit (get_or (set ext i new) k 0) d ≡ (ltb k (i + 1) && (ltb d W.size && member W (tree_of T k) d))
      go (yes q) = rw (q, get_or-set_same ext i new 0 h, lt-ltb i (i + 1) (omega arith)) (here d)
      go (no q) = rw (get_or-set_other ext i k new 0 q, ltb_more k i q) (known k d)

-- before the first line
pub none_filled : (n : ℕ) (T : Table) (W : World) → Extended (replicate n 0) 0 T W
none_filled n T W k d = ap (λ (x : ℕ). bit x d) (zeros n k) ∙ bit_zero d ∙ rw (le-ltb k 0 (omega arith))
