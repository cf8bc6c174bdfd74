-- The invariant of the loop.
use Rattle.extents.specs.Extent.{Extended}
use Rattle.models.specs.Shown.{world_of}
use Rattle.extents.proofs.extensions.Given as goal

abbrev pub invariant-loop-i : goal.invariant-loop-i
invariant-loop-i l = Extended l.ext l.i l.table (world_of l.model)
