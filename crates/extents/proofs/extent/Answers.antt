-- `extents::extent` meets its contract: each arm does to the sets of the parts what its kind says of each element. Assumes nothing.
use Rattle.sets.proofs.BitLaws.{bit_zero}
use Rattle.extents.proofs.extent.Goals as goal

pub returns-in-Bot : goal.returns-in-Bot
returns-in-Bot c = λ d l. rw c.in-Bot.is (bit_zero d)
