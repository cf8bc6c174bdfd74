-- The invariant of the loop: the line ends where it does behind the numbers that are left.
use Prim.Native.Nat.{◌-◌}
use mathlib.Core.Path.{◌≡◌}
use lib.ListN.{drop}
use Rattle.numbers.specs.Numbers.{numbers_in, behind}
use Rattle.numbers.proofs.line_end.Given as goal

abbrev pub invariant-loop : goal.invariant-loop
invariant-loop l = behind (numbers_in l.at (l.count - l.done) (drop l.at l.text)) ≡ behind (numbers_in l.e (l.count - l.counter) (drop l.e l.text))
