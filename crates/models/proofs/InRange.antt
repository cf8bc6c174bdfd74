-- What passes the row of ranges is in range, line by line: so a caller that reads lines has what the functions ask of the table and of the
-- claims.
-- Assumes nothing.
use Prim.Native.Nat.{ℕ}
use mathlib.Core.Bool.{true}
use mathlib.Core.List.{List}
use mathlib.Core.Path.{◌≡◌}
use lib.Dec.{leb}
use borrow.Author.Tests.{ltb-true, leb-true}
use Rattle.alc.specs.Lists.{All, every}
use Rattle.alc.specs.Ranges.{Field, role, atom, name, element, size, concept, in_range}
use Rattle.models.specs.Shown.{Below}
use Rattle.alc.proofs.ListFacts.{All-map, every-All}
use Rattle.alc.proofs.Logic.{both_true}

below : (n k : ℕ) (f : Field) → in_range n k f ≡ true → Below n k f
below n k (role r) h = ltb-true r 16 h
below n k (atom A) h = ltb-true A 64 h
below n k (name a) h = ltb-true a 64 h
below n k (element d) h = ltb-true d k h
below n k (size m) h = let b = both_true (leb 1 m) (leb m 32) h in (leb-true 1 m b.0, leb-true m 32 b.1)
below n k (concept i) h = ltb-true i n h

pub in_range_lem : (n k : ℕ) (fs : List Field) → every (in_range n k) fs ≡ true → All (Below n k) fs
in_range_lem n k fs h = All-map (below n k) fs (every-All (in_range n k) fs h)
