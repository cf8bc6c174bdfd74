-- `numbers::line_end` meets its contract: a number that is read changes nothing of where the line ends. Assumes nothing.
use Prim.Native.Nat.{ℕ, ◌-◌, ◌≤◌}
use mathlib.Core.List.{List}
use mathlib.Core.Path.{◌≡◌, sym, ap, ◌∙◌}
use native.Mathlib.Omega.{arith}
use lib.ListN.{drop}
use Rattle.std.proofs.lemmas.Bool.{lt-ltb}
use Rattle.numbers.specs.Numbers.{numbers_in, behind}
use Rattle.numbers.proofs.Fields.{behind_led, end_here, end_further, next_wrong, next_read}
use Rattle.numbers.proofs.line_end.Goals as goal

-- none is left
last : (text : List ℕ) (e count k : ℕ) → count ≤ k → behind (numbers_in e (count - k) (drop e text)) ≡ behind (numbers_in e 0 (drop e text))
last text e count k h = let z : count - k ≡ 0 = omega arith in rw z

pub returns-in_err-end : goal.returns-in_err-end
returns-in_err-end c =
    c.from_residual.ensures ∙ sym (c.loop.invariant ∙ ap behind (next_wrong _ _ _ _ (sym (lt-ltb _ _ c.loop-test.true)) c.next_number.ensures c.in_err-end.was))

pub loop-preserved : goal.loop-preserved
loop-preserved c =
    c.loop.invariant ∙ ap behind (next_read _ _ _ _ (sym (lt-ltb _ _ c.loop-test.true)) c.next_number.ensures _ _ c.in_ok-end.was) ∙ behind_led _ _

pub returns-then-not-holds : goal.returns-then-not-holds
returns-then-not-holds c =
    sym (c.loop.invariant ∙ last _ _ _ _ c.loop-test.false ∙ end_further _ _ (sym c.holds.ensures ∙ c.if-not-holds.true))

pub returns : goal.returns
returns c = sym (c.loop.invariant ∙ last _ _ _ _ c.loop-test.false ∙ end_here _ _ (sym c.holds.ensures ∙ c.if-not-holds.false))
