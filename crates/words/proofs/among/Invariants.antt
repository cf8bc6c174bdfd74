-- The invariant of the loop: the words from w on decide.
use Prim.Native.Nat.{◌-◌}
use mathlib.Core.Path.{◌≡◌}
use Rattle.words.specs.Seek.{seek}
use Rattle.words.proofs.among.Given as goal

abbrev pub invariant-loop-w : goal.invariant-loop-w
invariant-loop-w l = seek l.f l.from (l.to - l.from) ≡ seek l.f l.w (l.to - l.w)
