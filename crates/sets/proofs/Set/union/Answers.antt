-- `sets::Set::union` meets its contract: `|` works bit by bit. Assumes nothing.
use Rattle.sets.proofs.BitLaws.{bit_or_lem}
use Rattle.sets.proofs.Set.union.Goals as goal

pub returns : goal.returns
returns c = λ e. rw (c.self.view_is, c.other.view_is) (bit_or_lem c.args.self c.args.other e)
