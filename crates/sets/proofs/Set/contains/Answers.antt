-- `sets::Set::contains` meets its contract: the last digit of the shifted number is the bit, by the definition. Assumes nothing.
use Rattle.sets.specs.Bit.{bit}
use Rattle.sets.proofs.Set.contains.Goals as goal

pub returns : goal.returns
unfolding bit
returns c = rw c.self.view_is
