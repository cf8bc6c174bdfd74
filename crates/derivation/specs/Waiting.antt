-- The goals that wait, in the lent room: each has a place of 64 records, in the order in which they were put aside.
-- Assumes nothing.
use Rattle.std.specs.Prelude.{ℕ, ◌+◌, ◌-◌, ◌*◌, ◌≤◌, ◌<◌, cond, List, [], ◌∷◌, ◌≡◌, eqb, length, get_or, set, Result, Ok, Err}
use Rattle.lines.specs.Text.{at_steps}
use Rattle.lines.specs.Walk.{read_at}
use Rattle.alc.specs.Table.{Table}
use Rattle.alc.specs.Claims.{Sided, Goal}
use Rattle.alc.specs.Shown.{Shows, records, answered}
use Rattle.alc.specs.Verdict.{Verdict}
use Rattle.alc.specs.declared.Answer.{Answer}
use Rattle.alc.specs.declared.Claim.{Claim as Record}
use Rattle.alc.specs.declared.Goal.{Goal as Records}
use Rattle.goals.specs.declared.Turn.{Turn}
use Rattle.goals.specs.Records.{added, premise_at}
use Rattle.shelf.specs.Stored.{stored, fetched, goal_of}
use Rattle.states.specs.Standing.{state_of, Ready}
use Rattle.states.specs.declared.State.{State}
use Rattle.steps.specs.Acting.{Current, from, StepAt}
use Rattle.steps.specs.declared.Passed.{Passed}

-- the goal put aside last, of n, as the room l holds it with these counts of claims
abbrev pub last_of : List Record → List ℕ → ℕ → Records
last_of l counts n = goal_of (fetched l ((n - 1) * 64) (get_or counts (n - 1) 0)) (get_or counts (n - 1) 0)

-- the goals, the one put aside last first, are those that the room l shows, with these counts of claims
unfoldable pub Waiting : List Record → List ℕ → List Goal → Type 0
Waiting l counts [] = Unit {0}
Waiting l counts (h ∷ hs) = Shows (goal_of (fetched l (length hs * 64) (get_or counts (length hs) 0)) (get_or counts (length hs) 0)) h × Waiting l counts hs

-- of the goals that are open all but the current one wait
abbrev pub Rest : List Record → List ℕ → List Goal → Type 0
Rest l counts [] = Unit {0}
Rest l counts (h ∷ hs) = Waiting l counts hs

-- the derivation stands at the state s with the room l, and the verdict from there on is v
pub record Stands (T : Table) (cs : List Sided) (text : List ℕ) (v : Verdict) (l : List Record) (s : State) : Type 0 where
  pub few : length T ≤ 256
  pub goals : List Goal
  pub count : s.open ≡ length goals
  pub current : Current s.goal goals
  pub waiting : Rest l s.counts goals
  pub so : v ≡ from T cs text s goals

-- the current goal has closed: the last of those that wait is current, where one waits
abbrev pub closed_of : List Record → State → State
closed_of l s =
    state_of (cond (eqb (s.open - 1) 0) s.goal (last_of l s.counts (s.open - 1))) s.counts (s.open - 1) s.steps s.reached.lines s.reached.at

-- the second premise of a turn, of which the current goal is the first, has been put aside in the room: m is the room, and r the state
pub record PutAside (l : List Record) (s : State) (t : Turn) (m : List Record) (r : State) : Type 0 where
  pub second : Records
  pub shows : (k : List Record) → records s.goal ≡ premise_at 0 t k → length (added t.leaves) ≡ 2 → records second ≡ premise_at 1 t k
  pub count : second.count ≡ s.goal.count
  pub full : second.count ≤ length second.claims
  pub room : m ≡ stored l ((s.open - 1) * 64) second.claims second.count
  pub state : r ≡ state_of s.goal (set s.counts (s.open - 1) s.goal.count) (s.open + 1) s.steps s.reached.lines s.reached.at

-- a line at the state s with the room l leaves the state r with the room m, and the verdict from there on is as it was; or it ends the derivation, and
-- the answer is the verdict
abbrev pub Behind : Table → List Sided → List ℕ → Verdict → List Record → State → Result (Unit {0}) Answer → Type 0
Behind T cs text v m r (Ok u) = Stands T cs text v m r
Behind T cs text v m r (Err a) = answered a ≡ v

-- where a line goes on another can be read behind it
abbrev pub Onward : List ℕ → State → State → Result (Unit {0}) Answer → Type 0
Onward text s r (Ok u) = Ready text r × (s.reached.at < r.reached.at)
Onward text s r (Err a) = Unit {0}

-- the state behind a step that passes, with another goal: the step is counted, the line too, and the text is read up to behind it
abbrev pub counted : State → Passed → Records → State
counted s p g = state_of g s.counts s.open (s.steps + 1) (s.reached.lines + 1) p.at

-- what a step that passes does to the room l and the state s, by how many premises it leaves: m is the room, and r the state
pub data Done (l : List Record) (s : State) (p : Passed) : List Record → State → Type 0 where
  none : length (added p.turn.leaves) ≡ 0 → Done l s p l (closed_of l (counted s p s.goal))
  one : (g : Records) → length (added p.turn.leaves) ≡ 1 → records g ≡ premise_at 0 p.turn (records s.goal) → Done l s p l (counted s p g)
  two : {m : List Record} {r : State} (g : Records) → length (added p.turn.leaves) ≡ 2 → records g ≡ premise_at 0 p.turn (records s.goal)
      → PutAside l (counted s p g) p.turn m r → Done l s p m r

-- the line is a step that passes, and is done
pub record Took (text : List ℕ) (T : Table) (l : List Record) (s : State) (m : List Record) (r : State) : Type 0 where
  pub passed : Passed
  pub step : StepAt T s (read_at text s.reached.at at_steps) (Ok passed)
  pub done : Done l s passed m r

-- what a line does; where it ends the derivation room and state stay as they are
abbrev pub Does : List ℕ → Table → List Record → State → List Record → State → Result (Unit {0}) Answer → Type 0
Does text T l s m r (Ok u) = Took text T l s m r
Does text T l s m r (Err a) = StepAt T s (read_at text s.reached.at at_steps) (Err a) × (m ≡ l) × (r ≡ s)

-- one line, with the room and the state behind it
pub record Stepped (text : List ℕ) (T : Table) (l : List Record) (s : State) (m : List Record) (r : State) (e : Result (Unit {0}) Answer) : Type 0 where
  pub does : Does text T l s m r e
  pub onward : Onward text s r e
  pub behind : (cs : List Sided) (v : Verdict) → Stands T cs text v l s → Behind T cs text v m r e
