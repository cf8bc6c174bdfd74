-- What the reading of a model comes to, said by the judge.
-- Assumes nothing.
use Rattle.std.specs.Prelude.{ℕ, suc, ◌≤◌, List, [], ◌≡◌, length, drop, Result, Ok, Err}
use Rattle.lines.specs.Text.{lines_of}
use Rattle.alc.specs.Table.{Table}
use Rattle.alc.specs.Claims.{Sided}
use Rattle.alc.specs.Model.{Fact}
use Rattle.alc.specs.Shown.{number_of}
use Rattle.alc.specs.Verdict.{Verdict, State, refuted, refused, modelled, judge}
use Rattle.alc.specs.declared.Refused.{Refused}
use Rattle.parts.specs.Parts.{at_start}
use Rattle.sets.specs.declared.Size.{Size}
use Rattle.models.specs.Told.{Tells}
use Rattle.models.specs.declared.Model.{Model}
use Rattle.facts.specs.Asked.{in_facts}

-- the verdict that a refusal is
abbrev pub refusal_of : Refused → Verdict
refusal_of r = refused (number_of r.refusal) r.line

-- the verdict on a model: it refutes the claims at the end of so many lines, or is refused
abbrev pub concluded : Result ℕ Refused → Verdict
concluded (Ok n) = refuted n
concluded (Err r) = refusal_of r

-- the judge's verdict on the lines from `start` on, in a state by the table and the claims, is v, whatever the claims and the entries of the table are
abbrev pub JudgedIn : (Table → List Sided → State) → List ℕ → ℕ → ℕ → ℕ → (Table → List Sided → Verdict) → Type 0
JudgedIn S text start before entries v = (T : Table) (cs : List Sided) → length T ≡ entries → judge before (S T cs) (lines_of (drop start text)) ≡ v T cs

-- the same in the facts of a model of so many elements, before the first
abbrev pub Judged : List ℕ → ℕ → ℕ → ℕ → ℕ → (Table → List Sided → Verdict) → Type 0
Judged text start before entries size v = JudgedIn (λ T cs. in_facts T cs size []) text start before entries v

-- a size was read: the next line is in the text, and the judge goes on there, in a model of that size
pub record Begun (text : List ℕ) (start before entries size next : ℕ) : Type 0 where
  pub within : next ≤ length text
  pub counted : suc before ≤ next
  pub judged : JudgedIn at_start text start before entries (λ T cs. judge (suc before) (in_facts T cs size []) (lines_of (drop next text)))

-- the size and where the next line begins, or the judge's refusal
abbrev pub SizeRead : List ℕ → ℕ → ℕ → ℕ → Result (Size × ℕ) Refused → Type 0
SizeRead text start before entries (Ok p) = Begun text start before entries p.0.count p.1
SizeRead text start before entries (Err r) = JudgedIn at_start text start before entries (λ T cs. refusal_of r)

-- the facts were read, n lines in all: the judge's verdict is that at the end of a model of these facts, which the model tells
pub record Left (text : List ℕ) (start before entries size : ℕ) (m : Model) (n : ℕ) : Type 0 where
  pub facts : List Fact
  pub judged : Judged text start before entries size (λ T cs. modelled n (in_facts T cs size facts))
  pub told : Tells size facts m
  pub counted : n ≤ length text

-- how many lines there are in all, or the judge's refusal
abbrev pub FactsRead : List ℕ → ℕ → ℕ → ℕ → ℕ → Model → Result ℕ Refused → Type 0
FactsRead text start before entries size m (Ok n) = Left text start before entries size m n
FactsRead text start before entries size m (Err r) = Judged text start before entries size (λ T cs. refusal_of r)
