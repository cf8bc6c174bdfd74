-- What stands before a derivation: its table, its claims and where its first step begins; or the verdict where none follows.
-- Assumes nothing.
use Rattle.std.specs.Prelude.{ℕ, ◌≤◌, List, [], ◌∷◌, ◌≡◌, length}
use Rattle.lines.specs.Text.{lines_of}
use Rattle.alc.specs.Table.{Table}
use Rattle.alc.specs.Claims.{Sided}
use Rattle.alc.specs.Shown.{Shows, answered}
use Rattle.alc.specs.Verdict.{Verdict, begin, judge, verdict}
use Rattle.alc.specs.declared.Answer.{Answer}
use Rattle.parts.specs.Parts.{in_steps, Through}
use Rattle.states.specs.Standing.{begun_of}
use Rattle.states.specs.declared.State.{State}
use Rattle.opening.specs.declared.Opening.{Opening}
use Rattle.opening.specs.declared.Opening.TheVariants.{Decided, Follows}

-- the lines of the text up to a first step pass: they say the table T and the claims cs, and the first step begins at a position, behind so many lines
abbrev pub First : List ℕ → Table → List Sided → ℕ → ℕ → Type 0
First text T cs lines at = Through text 0 0 begin lines at (in_steps T cs 0 (cs ∷ []))

-- the text has the table T, and behind it and its claims a first step begins, at the state s
pub record Begins (text : List ℕ) (T : Table) (s : State) : Type 0 where
  pub few : length T ≤ 256
  pub state : s ≡ begun_of s.goal s.reached.at s.reached.lines
  pub small : s.goal.count ≤ 64
  pub cs : List Sided
  pub current : Shows s.goal cs
  pub walk : First text T cs s.reached.lines s.reached.at

-- no first step begins in the text, and its lines have the verdict v
pub record Ends (text : List ℕ) (v : Verdict) : Type 0 where
  pub none : (T : Table) (cs : List Sided) (lines at : ℕ) → First text T cs lines at → ⊥
  pub so : v ≡ judge 0 begin (lines_of text)

-- what the lines of a text lead to: a derivation, or a verdict
abbrev pub Leads : List ℕ → Opening → Type 0
Leads text (Decided a) = Ends text (answered a)
Leads text (Follows T s) = Begins text T s

-- a derivation follows in a text with a lent room of n records
pub record Following (n : ℕ) (text : List ℕ) (T : Table) (s : State) : Type 0 where
  pub wide : 1088 ≤ n
  pub short : length text ≤ 65535
  pub begins : Begins text T s

-- none follows, and the answer is the verdict
pub record Deciding (n : ℕ) (text : List ℕ) (a : Answer) : Type 0 where
  pub none : (T : Table) (cs : List Sided) (lines at : ℕ) → 1088 ≤ n → length text ≤ 65535 → First text T cs lines at → ⊥
  pub answer : answered a ≡ verdict n text

-- the opening of a text with a lent room of n records
abbrev pub Opens : ℕ → List ℕ → Opening → Type 0
Opens n text (Decided a) = Deciding n text a
Opens n text (Follows T s) = Following n text T s
