-- The invariant and measure of the loop.
use Prim.Native.Nat.{◌+◌, ◌-◌, ◌≤◌}
use mathlib.Core.Path.{◌≡◌}
use lib.ListN.{drop}
use Rattle.alc.specs.Lists.{first_at}
use Rattle.alc.specs.Shown.{claims_in}
use Rattle.models.specs.Shown.{interp_shown}
use Rattle.truth.specs.Truth.{wrong_in}
use Rattle.truth.proofs.first_wrong.Given as goal

abbrev pub invariant-loop-i : goal.invariant-loop-i
invariant-loop-i l = (l.i ≤ l.n)
    × (first_at (wrong_in l.ext (interp_shown l.model)) (claims_in l.claims) ≡ l.i + first_at (wrong_in l.ext (interp_shown l.model)) (drop l.i (claims_in l.claims)))

abbrev pub decreases-loop-i : goal.decreases-loop-i
decreases-loop-i l = l.n - l.i
