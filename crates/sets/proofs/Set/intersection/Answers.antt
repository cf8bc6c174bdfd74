-- `sets::Set::intersection` meets its contract: `&` works bit by bit. Assumes nothing.
use Rattle.sets.proofs.BitLaws.{bit_and_lem}
use Rattle.sets.proofs.Set.intersection.Goals as goal

pub returns : goal.returns
returns c = λ e. rw (c.self.view_is, c.other.view_is) (bit_and_lem c.args.self c.args.other e)
