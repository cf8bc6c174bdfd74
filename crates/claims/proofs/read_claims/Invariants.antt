-- The invariant and measure of the loop.
use Prim.Native.Nat.{◌-◌, ◌≤◌}
use mathlib.Core.Path.{◌≡◌}
use lib.ListN.{length}
use Rattle.alc.specs.Table.{Table}
use Rattle.claims.proofs.ClaimWalk.{Walk}
use Rattle.claims.proofs.read_claims.Given as goal

abbrev pub invariant-loop-l : goal.invariant-loop-l
invariant-loop-l l =
    (l.at ≤ length l.text) × (l.n ≤ l.at) × (l.claims.count ≤ 64) × ((T : Table) → length T ≡ l.entries → Walk l.text T l.start l.claims l.at l.n)

abbrev pub decreases-loop-l : goal.decreases-loop-l
decreases-loop-l l = length l.text - l.at
