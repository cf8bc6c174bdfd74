-- What the judging of a model asks of its caller, the fact that a line is, and what storing it does.
-- Assumes nothing.
use Rattle.std.specs.Prelude.{ℕ, ◌-◌, ◌≤◌, ◌%◌, Bool, true, not, List, [], ◌∷◌, ◌++◌, map, ◌≡◌, length, get_or}
use Rattle.lines.specs.Walk.{facts_from}
use Rattle.lines.specs.declared.Line.{Line}
use Rattle.alc.specs.Lists.{All, every}
use Rattle.alc.specs.Ranges.{in_range}
use Rattle.alc.specs.Table.{Table}
use Rattle.alc.specs.Claims.{Sided, claim, claim_fields}
use Rattle.alc.specs.Model.{Fact, places, repeats}
use Rattle.alc.specs.Dossier as Dossier
use Rattle.alc.specs.Shown.{claims_in}
use Rattle.alc.specs.declared.Goal.{Goal as Records}
use Rattle.alc.specs.Verdict.{State, facts}
use Rattle.models.specs.Told.{Tells}
use Rattle.models.specs.declared.Model.{Model}

-- a place in the text behind so many lines, up to 64 claims with their numbers in range of a table of so many entries
pub record Asked (text : List ℕ) (start before entries : ℕ) (g : Records) : Type 0 where
  pub within : start ≤ length text
  pub counted : before ≤ start
  pub few : g.count ≤ 64
  pub ranges : All (λ s. every (in_range entries 0) (claim_fields (claim s)) ≡ true) (claims_in g)

-- the state in the facts of a model of k elements
abbrev pub in_facts : Table → List Sided → ℕ → List Fact → State
in_facts T cs k fs = record { part = facts; table = T; claims = cs; steps = 0; goals = []; size = k; facts = fs }

-- the fact that a word says with these numbers
abbrev pub fact_by : ℕ → ℕ → ℕ → ℕ → Fact
fact_by w x y z = get_or (map (λ r. r.said) (Dossier.facts x y z)) (w - facts_from) (places x y)

-- the fact that a line of the text is
abbrev pub fact_in : Line → Fact
fact_in l = fact_by l.word (l.n0 % 256) (l.n1 % 256) (l.n2 % 256)

-- a fact was put behind the facts fs: the answer says whether it is new, and where it is the model tells it besides
pub record Stored (n : ℕ) (fs : List Fact) (f : Fact) (m : Model) (fresh : Bool) : Type 0 where
  pub answer : fresh ≡ not (repeats fs f)
  pub told : fresh ≡ true → Tells n (fs ++ (f ∷ [])) m
