-- The invariant of the loop: at most as many lines were counted as were looked at, and some exactly if the line stands among them.
use Rattle.alc.proofs.Stored.{Counted}
use Rattle.alc.proofs.table.Table.has.Given as goal

abbrev pub invariant-loop-i : goal.invariant-loop-i
invariant-loop-i l = Counted l.e l.self 0 0 l.i l.times
