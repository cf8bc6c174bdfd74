-- The definitions give every known dossier its verdict: both sides are computed. Assumes nothing.
use mathlib.Core.Bool.{true, decide}
use mathlib.Core.Path.{◌≡◌, refl}
use native.Mathlib.Decide.{ℕ_discrete}
use Rattle.lines.specs.Text.{
  cut,
  good_byte,
  digit,
  value_from,
  leads,
  is_number,
  words,
  row_of,
  row_index,
  side_of,
  behind_of,
  item_of,
  fit,
  lines_of,
}
use Rattle.alc.specs.Lists.{every}
use Rattle.alc.specs.Meaning.{member}
use Rattle.alc.specs.Table.{tree_to, tree_of}
use Rattle.alc.specs.Claims.{truth}
use Rattle.alc.specs.Rules.{step_fields, plan}
use Rattle.alc.specs.Goals.{step_rows, goals_after}
use Rattle.alc.specs.Dossier.{said_by}
use Rattle.alc.specs.Verdict.{rows, after, ending, judge, verdict}
use Rattle.alc.specs.Known.{known, as_known}

pub known_verdicts : every as_known known ≡ true
unfolding decide ℕ_discrete cut good_byte digit value_from leads is_number words row_of row_index side_of behind_of item_of fit lines_of member tree_to tree_of truth step_fields plan step_rows goals_after said_by rows after ending judge verdict known
known_verdicts = refl
