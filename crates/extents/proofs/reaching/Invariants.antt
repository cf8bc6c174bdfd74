-- The invariant of the loop.
use Prim.Native.Nat.{ℕ}
use mathlib.Core.Bool.{◌&&◌}
use mathlib.Core.Path.{◌≡◌}
use lib.Dec.{ltb}
use Rattle.sets.specs.Bit.{bit}
use Rattle.models.specs.Shown.{world_of}
use Rattle.extents.specs.Extent.{reaches}
use Rattle.extents.proofs.reaching.Given as goal

abbrev pub invariant-loop-d : goal.invariant-loop-d
invariant-loop-d l = (e : ℕ) → bit l.out e ≡ (ltb e l.d && reaches (world_of l.model) l.r.0 l.s e)
