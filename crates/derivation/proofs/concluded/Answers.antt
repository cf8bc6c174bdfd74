-- `derivation::concluded` meets its contract: a line leads the derivation on, and the answer at the end is the verdict from the beginning.
-- Assumes nothing.
use Rattle.derivation.proofs.concluded.Goals as goal

pub returns : goal.returns
returns c = λ cs v st. c.in-Err.ensures.behind cs v (c.loop-answer.invariant.after cs v st)
