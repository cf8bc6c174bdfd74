-- `sets::share` meets its contract: a number is not 0 just if it has a bit, and `&` works bit by bit. Assumes nothing.
use native.Mathlib.Omega.{arith}
use Rattle.sets.specs.Bit.{common}
use Rattle.sets.proofs.BitLaws.{bit_meets}
use Rattle.sets.proofs.share.Goals as goal

pub returns : goal.returns
unfolding common
returns c = bit_meets 32 c.args.x c.args.y (omega arith) (omega arith)
