-- `words::step_word` meets its contract: the parts that it seeks in are the words of the steps, one behind the other. Assumes nothing.
use mathlib.Core.Path.{refl}
use native.Mathlib.Omega.{arith}
use Rattle.lines.specs.Text.{words, row_of}
use Rattle.words.proofs.Seeking.{stand, sought_first, sought_behind, sought_all}
use Rattle.words.proofs.step_word.Goals as goal

pub returns-in-Some : goal.returns-in-Some
unfolding words row_of stand
returns-in-Some c = sought_first _ _ _ _ _ _ refl (omega arith) c.among.ensures c.in-Some.is

pub returns-in-Some-among : goal.returns-in-Some-among
unfolding words row_of stand
returns-in-Some-among c =
    sought_behind _ _ _ _ _ _ (omega arith) c.among.ensures c.in_default.is
    (sought_first _ _ _ _ _ _ refl (omega arith) c.among-2.ensures c.in-Some-among.is)

pub returns : goal.returns
unfolding words row_of stand
returns c =
    sought_behind _ _ _ _ _ _ (omega arith) c.among.ensures c.in_default.is
    (sought_behind _ _ _ _ _ _ (omega arith) c.among-2.ensures c.in_default-among.is
    (sought_all _ _ _ _ _ refl c.among-3.ensures c.unwrap_or.ensures))
