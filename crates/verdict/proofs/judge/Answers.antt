-- `verdict::judge` meets its contract: where a derivation follows, the loop over its steps can run, and its verdict is that of the text.
-- Assumes nothing.
use Rattle.opening.proofs.Begins.{begins_ready}
use Rattle.verdict.proofs.Runs.{comes_to}
use Rattle.verdict.proofs.judge.Goals as goal

pub judge_steps-requires-clause-ready : goal.judge_steps-requires-clause-ready
judge_steps-requires-clause-ready c = begins_ready _ _ _ _ c.in-Follows.ensures

pub returns-in-Follows-clause-answer : goal.returns-in-Follows-clause-answer
returns-in-Follows-clause-answer c = comes_to _ _ _ _ c.in-Follows.ensures _ _ c.judge_steps.ensures.answer
