-- `sets::Set::full` meets its contract: 32 ones, shifted down, are as many ones as the size says. Assumes nothing.
use Rattle.sets.proofs.BitLaws.{bit_full}
use Rattle.sets.proofs.Set.full.Goals as goal

pub returns : goal.returns
returns c = λ e. bit_full c.args.size.count e c.args.size.sized.most
