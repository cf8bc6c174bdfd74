-- The invariant and measure of the loop.
use Prim.Native.Nat.{◌-◌}
use lib.ListN.{length}
use Rattle.facts.proofs.FactWalk.{Walk}
use Rattle.facts.proofs.read_facts.Given as goal

abbrev pub invariant-loop-l : goal.invariant-loop-l
invariant-loop-l l = Walk l.text l.fn.from.at l.fn.from.lines l.entries l.fn.model.size.count l.model l.at l.n

abbrev pub decreases-loop-l : goal.decreases-loop-l
decreases-loop-l l = length l.text - l.at
