-- `truth::within` meets its contract: no element of the one set is outside the other. Assumes nothing.
use mathlib.Core.Bool.{not}
use mathlib.Core.Path.{ap, ◌∙◌}
use Rattle.sets.specs.Bit.{bit, common}
use Rattle.extents.proofs.ExtentLaws.{common_some, not_some}
use Rattle.truth.proofs.within.Goals as goal

pub returns : goal.returns
unfolding common
returns c =
    let a = c.args in
    ap not (c.meets.ensures ∙ common_some a.size.count c.outside.result (bit a.x) (λ e. not (bit a.y e)) a.size.sized.most c.outside.ensures)
    ∙ not_some a.size.count (bit a.x) (bit a.y)
