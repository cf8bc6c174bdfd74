-- Where a derivation stands, as the code holds it, and when a line can be read there.
-- Assumes nothing.
use Rattle.std.specs.Prelude.{ℕ, ◌≤◌, List, ◌≡◌, length, get_or, replicate}
use Rattle.alc.specs.declared.Goal.{Goal as Records}
use Rattle.states.specs.declared.State.{State}

-- the state with these parts, in this order
abbrev pub state_of : Records → List ℕ → ℕ → ℕ → ℕ → ℕ → State
state_of g counts opened steps lines at = record { goal = g; counts = counts; «open» = opened; steps = steps; reached = record { at = at; lines = lines } }

-- no goal waits. No abbreviation: the counts are not to be written out
unfoldable pub no_counts : List ℕ
no_counts = replicate 16 0

-- at the first step the claims are the only goal
abbrev pub begun_of : Records → ℕ → ℕ → State
begun_of claims at lines = state_of claims no_counts 1 0 lines at

-- a line can be read at the state s
pub record Ready (text : List ℕ) (s : State) : Type 0 where
  pub few : s.open ≤ 17
  pub small : s.goal.count ≤ 64
  pub slots : length s.counts ≡ 16
  pub sizes : (i : ℕ) → get_or s.counts i 0 ≤ 64
  pub within : s.reached.at ≤ length text
  pub counted : s.reached.lines ≤ s.reached.at
