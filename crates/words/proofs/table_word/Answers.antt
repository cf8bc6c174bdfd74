-- `words::table_word` meets its contract: the words of the claims stand between the two parts that it seeks in, and behind a side. Assumes nothing.
use mathlib.Core.Path.{refl}
use lib.ListN.{length}
use native.Mathlib.Omega.{arith}
use Rattle.lines.specs.Text.{claim_words, words, row_of}
use Rattle.words.proofs.Seeking.{stand, stand_apart, sought_past, sought_first, sought_behind, sought_all}
use Rattle.words.proofs.table_word.Goals as goal

pub returns-in-Some : goal.returns-in-Some
unfolding words row_of stand
returns-in-Some c = sought_first _ _ _ _ _ _ refl (omega arith) c.among.ensures c.in-Some.is

pub returns : goal.returns
unfolding words row_of stand stand_apart
returns c =
    sought_behind _ _ _ _ _ _ (omega arith) c.among.ensures c.in_default.is
    (sought_past _ _ _ (length claim_words) _ _ refl (omega arith) (sought_all _ _ _ _ _ refl c.among-2.ensures c.unwrap_or.ensures))
