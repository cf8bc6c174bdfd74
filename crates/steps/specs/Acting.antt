-- What the next line of a derivation is, where it stands so that one can be read; and the verdict from there on.
-- Assumes nothing.
use Rattle.std.specs.Prelude.{ℕ, ◌+◌, ◌-◌, ◌≤◌, ◌<◌, List, [], ◌∷◌, ◌≡◌, drop, Result, Ok, Err}
use Rattle.lines.specs.Text.{lines_of}
use Rattle.lines.specs.declared.Line.{Line}
use Rattle.lines.specs.declared.Next.{Next}
use Rattle.lines.specs.declared.Next.TheVariants.{Found, Bad, End}
use Rattle.alc.specs.Table.{Table}
use Rattle.alc.specs.Claims.{Sided, Goal}
use Rattle.alc.specs.Shown.{Shows, number_of}
use Rattle.alc.specs.Verdict.{Verdict, judge}
use Rattle.alc.specs.declared.Goal.{Goal as Records}
use Rattle.alc.specs.declared.Answer.{Answer}
use Rattle.alc.specs.declared.Answer.TheVariants.{Proved, Refused}
use Rattle.alc.specs.declared.refusal.Refusal.{Refusal}
use Rattle.alc.specs.declared.refusal.Refusal.TheVariants.{Malformed, TooMany, NoGoal, Unfinished}
use Rattle.goals.specs.declared.Turn.{Turn}
use Rattle.parts.specs.Parts.{in_steps}
use Rattle.states.specs.declared.State.{State}
use Rattle.steps.specs.declared.Passed.{Passed}
use Rattle.steps.specs.Turning.{TurnAt}

-- the current goal is the first of those that are open
abbrev pub Current : Records → List Goal → Type 0
Current g [] = Unit {0}
Current g (h ∷ hs) = Shows g h

-- the verdict from the state s on, with these goals open
abbrev pub from : Table → List Sided → List ℕ → State → List Goal → Verdict
from T cs text s gs = judge s.reached.lines (in_steps T cs s.steps gs) (lines_of (drop s.reached.at text))

-- a refusal at a line
abbrev pub refused_at : Refusal → ℕ → Answer
refused_at k n = Refused (number_of k) n

-- what the next line at the state s is, by what stands at its position: a bad line; the end, with a goal open or with none; a step past the 1,024th,
-- or with no goal open; or a step that turns on the current goal, and passes or is refused
pub data StepAt (T : Table) (s : State) : Next → Result Passed Answer → Type 0 where
  bad : StepAt T s Bad (Err (refused_at Malformed (s.reached.lines + 1)))
  short : 0 < s.open → StepAt T s End (Err (refused_at Unfinished (s.reached.lines + 1)))
  done : s.open ≡ 0 → StepAt T s End (Err (Proved s.reached.lines))
  many : {l : Line} {to : ℕ} → 1024 ≤ s.steps → StepAt T s (Found l to) (Err (refused_at TooMany (s.reached.lines + 1)))
  late : {l : Line} {to : ℕ} → s.steps < 1024 → s.open ≡ 0 → StepAt T s (Found l to) (Err (refused_at NoGoal (s.reached.lines + 1)))
  fails : {l : Line} {to : ℕ} (k : Refusal) → s.steps < 1024 → 0 < s.open → TurnAt T l s.goal (s.open - 1) (Err k)
      → StepAt T s (Found l to) (Err (refused_at k (s.reached.lines + 1)))
  passes : {l : Line} {to : ℕ} (t : Turn) → s.steps < 1024 → 0 < s.open → TurnAt T l s.goal (s.open - 1) (Ok t)
      → StepAt T s (Found l to) (Ok (record { turn = t; at = to }))
