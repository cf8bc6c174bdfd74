-- `rules::role_rule` meets its contract: the last arm takes the word that no other took. Assumes nothing.
use Rattle.std.proofs.Common.{◌≡◌, arith}
use Rattle.std.proofs.lemmas.Grind.{common_steps}
use Rattle.lines.specs.Text.{words, row_index}
use Rattle.lines.specs.Walk.{number_of}
use Rattle.alc.specs.Rules.{plan}
use Rattle.goals.specs.Records.{step_of}
use Rattle.rules.proofs.role_rule.Goals as goal

pub returns-in_default : goal.returns-in_default
unfolding words row_index plan step_of
returns-in_default c = λ T h. let e : c.args.s.word ≡ number_of "all-r" = omega arith in rw e (grind (arith, common_steps))
