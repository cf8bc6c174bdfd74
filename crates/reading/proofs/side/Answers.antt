-- `reading::side` meets its contract: it compares with `left` and then with `right`, as `side_of` does. Assumes nothing.
use mathlib.Core.Path.{sym, ◌∙◌}
use Rattle.lines.proofs.Words.{side_left, side_right, side_none}
use Rattle.reading.proofs.side.Goals as goal

pub returns-then-same : goal.returns-then-same
returns-then-same c = sym (side_left _ (sym c.same.ensures ∙ c.if-same.true))

pub returns-then-same-2 : goal.returns-then-same-2
returns-then-same-2 c = sym (side_right _ (sym c.same.ensures ∙ c.if-same.false) (sym c.same-2.ensures ∙ c.if-same-2.true))

pub returns : goal.returns
returns c = sym (side_none _ (sym c.same.ensures ∙ c.if-same.false) (sym c.same-2.ensures ∙ c.if-same-2.false))
