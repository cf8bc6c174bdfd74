-- The invariant of the loop: the number is what is left from i on behind digits of value v, which is at most 65,535.
use Prim.Native.Nat.{◌≤◌}
use mathlib.Core.Path.{◌≡◌}
use lib.ListN.{drop}
use Rattle.digits.specs.Number.{number_in}
use Rattle.digits.proofs.Digits.{onward}
use Rattle.digits.proofs.number.Given as goal

abbrev pub invariant-loop-i : goal.invariant-loop-i
invariant-loop-i l = (l.v ≤ 65535) × (number_in l.at (drop l.at l.text) ≡ onward l.v l.i (drop l.i l.text))
