-- The invariant and measure of the loop.
use Prim.Native.Nat.{◌-◌}
use lib.ListN.{length}
use Rattle.tables.proofs.TableWalk.{Walk}
use Rattle.tables.proofs.read_table.Given as goal

abbrev pub invariant-loop-l : goal.invariant-loop-l
invariant-loop-l l = Walk l.text l.table l.at

abbrev pub decreases-loop-l : goal.decreases-loop-l
decreases-loop-l l = length l.text - l.at
