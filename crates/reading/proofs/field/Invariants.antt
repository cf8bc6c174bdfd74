-- The invariant of the loop: the field from `at` on ends where the field from i on ends.
use Prim.Native.Nat.{◌+◌}
use mathlib.Core.Path.{◌≡◌}
use lib.ListN.{length, drop}
use Rattle.lines.specs.Walk.{field_of}
use Rattle.reading.proofs.field.Given as goal

abbrev pub invariant-loop-i : goal.invariant-loop-i
invariant-loop-i l = l.at + length (field_of (drop l.at l.text)) ≡ l.i + length (field_of (drop l.i l.text))
