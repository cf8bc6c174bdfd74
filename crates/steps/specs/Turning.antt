-- What one line does at the current goal: its ranges, then the rows of its rule, and its premises where it passes all.
-- Assumes nothing.
use Rattle.std.specs.Prelude.{ℕ, ◌+◌, ◌≤◌, ◌%◌, [], ◌∷◌, length, Result, IfOk}
use Rattle.lines.specs.declared.Line.{Line}
use Rattle.alc.specs.Lists.{every}
use Rattle.alc.specs.Rows.{Row, row}
use Rattle.alc.specs.Ranges.{in_range}
use Rattle.alc.specs.Table.{Table}
use Rattle.alc.specs.Shown.{records}
use Rattle.alc.specs.declared.Goal.{Goal as Records}
use Rattle.alc.specs.declared.refusal.Refusal.{Refusal}
use Rattle.alc.specs.Rules.{Step, plan}
use Rattle.alc.specs.Dossier.{saying}
use Rattle.goals.specs.declared.Turn.{Turn}
use Rattle.goals.specs.Records.{step_of, ruling, added, Makes, Turns}
use Rattle.parts.specs.Fields.{said_fields}

-- the step that a line of the text is
abbrev pub step_in : Line → Step
step_in l = step_of l.word (l.n0 % 256) (l.n1 % 256) (l.n2 % 256)

-- the row of a line that comes before those of its rule: its ranges, with so many entries in the table
unfoldable pub range_row : ℕ → Line → Row
range_row entries l = row 3 (every (in_range entries 0) (said_fields (saying l)))

-- r is the turn of the line at a goal of records, with w goals waiting, or its refusal: it is what the line does at them, and where it passes all rows
-- its premises can be made and at most 17 goals are open
pub record TurnAt (T : Table) (l : Line) (g : Records) (w : ℕ) (r : Result Turn Refusal) : Type 0 where
  pub turned : Turns (range_row (length T) l ∷ []) (ruling (plan T (step_in l))) (records g) w r
  pub makes : IfOk r (λ t. Makes t g × (length (added t.leaves) + w ≤ 17))
