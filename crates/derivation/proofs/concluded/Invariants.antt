-- The verdict from the room and the state as they are is that from the beginning, and a line can be read. The measure is what is left of the text.
use Prim.Native.Nat.{◌-◌}
use lib.ListN.{length}
use Rattle.derivation.proofs.Waits.{Holds}
use Rattle.derivation.proofs.concluded.Given as goal

abbrev pub invariant-loop-answer : goal.invariant-loop-answer
invariant-loop-answer l = Holds l.text l.table l.initial.room l.fn.s l.room l.s

abbrev pub decreases-loop-answer : goal.decreases-loop-answer
decreases-loop-answer l = length l.text - l.s.reached.at
