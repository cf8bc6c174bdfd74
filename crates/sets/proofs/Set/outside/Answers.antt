-- `sets::Set::outside` meets its contract: `^` with all the elements turns a set over, and `&` with them clips it. Assumes nothing.
use mathlib.Core.Path.{◌∙◌}
use Rattle.sets.proofs.BitLaws.{bit_minus}
use Rattle.sets.proofs.Set.outside.Goals as goal

pub returns : goal.returns
returns c = λ e. rw (c.all.view_is, c.self.view_is) (bit_minus c.full-all.result c.args.self e ∙ rw (c.full-all.ensures e))
