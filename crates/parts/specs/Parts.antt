-- What the loops over the parts of a dossier hold and come to, said by the definitions of `alc`.
-- Assumes nothing.
use Rattle.std.specs.Prelude.{ℕ, suc, ◌+◌, ◌-◌, ◌≤◌, ◌<◌, ◌%◌, true, not, cond, List, [], ◌∷◌, map, ◌≡◌, eqb, ltb, length, get_or, Result, Ok, Err}
use Rattle.lines.specs.Text.{at_table, at_claims}
use Rattle.lines.specs.Walk.{claims_from, sections_from, read_at}
use Rattle.lines.specs.declared.Line.{Line}
use Rattle.lines.specs.declared.Next.{Next}
use Rattle.lines.specs.declared.Next.TheVariants.{Found, Bad, End}
use Rattle.alc.specs.Lists.{All, every}
use Rattle.alc.specs.Rows.{Row, row, refusal}
use Rattle.alc.specs.Ranges.{in_range}
use Rattle.alc.specs.Table.{Table, Entry, entry_of, stands}
use Rattle.alc.specs.Claims.{Claim, is, Sided, Goal, claim_fields}
use Rattle.alc.specs.Claims as Claims
use Rattle.alc.specs.Entries.{Layered}
use Rattle.alc.specs.Dossier as Dossier
use Rattle.alc.specs.Dossier.{sided, saying}
use Rattle.alc.specs.Shown.{kind_at, Shows, number_of}
use Rattle.alc.specs.Verdict.{State, table, claims, steps, start, place, begin, rows, after}
use Rattle.parts.specs.declared.Listed.{Listed}
use Rattle.parts.specs.declared.Stopped.{Stopped}
use Rattle.parts.specs.declared.Claims.{Claims as Read}
use Rattle.parts.specs.declared.Heading.{Heading}
use Rattle.parts.specs.declared.Section.{Section}
use Rattle.parts.specs.declared.Section.TheVariants.{Proof, Model}
use Rattle.parts.specs.Fields.{said_fields}

-- the line of the table that a line of the text is
abbrev pub entry_in : Line → Entry
entry_in l = entry_of (kind_at l.word) (l.n0 % 256) (l.n1 % 256)

-- the rows of a line of the table
unfoldable pub entry_rows : Table → Line → List Row
entry_rows T l = row 5 (ltb (length T) 256) ∷ row 3 (every (in_range (length T) 0) (said_fields (saying l))) ∷ row 4 (not (stands T (entry_in l))) ∷ []

-- the state in the table
abbrev pub in_table : Table → State
in_table T = record { part = table; table = T; claims = []; steps = 0; goals = []; size = 0; facts = [] }

-- the state in the claims, behind this table
abbrev pub in_claims : Table → List Sided → State
in_claims T cs = record { part = claims; table = T; claims = cs; steps = 0; goals = []; size = 0; facts = [] }

-- the lines from a position on pass all their rows, one after the other. Before them n lines had been read, up to the position `at`, and said S;
-- behind them m lines have been read, up to the position `to`, and say E
pub data Through (text : List ℕ) : ℕ → ℕ → State → ℕ → ℕ → State → Type 0 where
  none : {n at : ℕ} {S : State} → Through text n at S n at S
  line : {n at next m to : ℕ} {S E : State} {l : Line} → read_at text at (place S.part) ≡ Found l next → refusal (rows S (saying l)) ≡ 0
      → Through text (suc n) next (after S (saying l)) m to E → Through text n at S m to E

-- what follows the lines of the table, and the number that it has: a line not of the form, a line of the table that does not pass a row, a line that
-- is none of the table, or no line
pub data TableEnd (T : Table) : Next → ℕ → Type 0 where
  wrong : TableEnd T Bad 2
  failed : {l : Line} {next k : ℕ} → l.word < claims_from → refusal (rows (in_table T) (saying l)) ≡ suc k → TableEnd T (Found l next) (suc k)
  other : {l : Line} {next : ℕ} → claims_from ≤ l.word → TableEnd T (Found l next) 0
  over : TableEnd T End 0

-- so many lines of the text are the table T, up to a position, and what follows them has the number k
pub record Listing (text : List ℕ) (T : Table) (at k : ℕ) : Type 0 where
  pub read : Through text 0 0 begin (length T) at (in_table T)
  pub ends : TableEnd T (read_at text at at_table) k

-- the line behind the table that was read is refused, with its number and line
pub record TableRefused (text : List ℕ) (e : Stopped Listed) : Type 0 where
  pub few : length e.read.table ≤ 256
  pub layered : Layered e.read.table
  pub listing : Listing text e.read.table e.read.at (number_of e.refused.refusal)
  pub line : e.refused.line ≡ length e.read.table + 1

-- what the reading of the table comes to: the table, with what ends it, or a refusal
abbrev pub TableRead : List ℕ → Result Listed (Stopped Listed) → Type 0
TableRead text (Ok r) = Listing text r.table r.at 0
TableRead text (Err e) = TableRefused text e

-- the claim that a word says with these numbers
abbrev pub claim_by : ℕ → ℕ → ℕ → ℕ → Claim
claim_by w x y z = get_or (map (λ r. r.said) (Dossier.claims x y z)) (w - claims_from) (is x y)

-- the claim that a line of the text is
abbrev pub claim_in : Line → Claim
claim_in l = claim_by l.word (l.n0 % 256) (l.n1 % 256) (l.n2 % 256)

-- the same on its side
abbrev pub sided_in : Line → Sided
sided_in l = sided l.side (claim_in l)

-- the rows of a claim behind n others, with so many entries in the table
unfoldable pub claim_rows : ℕ → ℕ → Line → List Row
claim_rows entries n l = row 5 (ltb n 64) ∷ row 3 (every (in_range entries 0) (said_fields (saying l))) ∷ []

-- the state in the steps, with n of them behind it and these goals open
abbrev pub in_steps : Table → List Sided → ℕ → List Goal → State
in_steps T cs n gs = record { part = steps; table = T; claims = cs; steps = n; goals = gs; size = 0; facts = [] }

-- the state in a model before its size
abbrev pub at_start : Table → List Sided → State
at_start T cs = record { part = start; table = T; claims = cs; steps = 0; goals = []; size = 0; facts = [] }

-- what refuses the claims, and the number that it has: a line not of the form, a line that does not pass a row, or no line
pub data ClaimsEnd (T : Table) (cs : List Sided) : Next → ℕ → Type 0 where
  wrong : ClaimsEnd T cs Bad 2
  failed : {l : Line} {next k : ℕ} → refusal (rows (in_claims T cs) (saying l)) ≡ suc k → ClaimsEnd T cs (Found l next) (suc k)
  over : ClaimsEnd T cs End 12

-- what the word of a number ends the claims with: `proof`, or else `model`
abbrev pub section_at : ℕ → Section
section_at w = cond (eqb w sections_from) Proof Model

-- the claims cs from a position on, behind a table T, lead to `proof` or to `model`; or the line behind them is refused, by number
pub data ClaimsLead (text : List ℕ) (T : Table) (begun : ℕ) (cs : List Sided) (lines at : ℕ) : Result Section ℕ → Type 0 where
  proof : Through text (length T) begun (in_claims T []) lines at (in_steps T cs 0 (cs ∷ [])) → ClaimsLead text T begun cs lines at (Ok Proof)
  model : Through text (length T) begun (in_claims T []) lines at (at_start T cs) → ClaimsLead text T begun cs lines at (Ok Model)
  refused : {k : ℕ} → Through text (length T) begun (in_claims T []) lines at (in_claims T cs) → ClaimsEnd T cs (read_at text at at_claims) k
      → ClaimsLead text T begun cs lines at (Err k)

-- the claims are read, from a position on behind a table T
pub record ClaimsHeard (text : List ℕ) (T : Table) (begun : ℕ) (r : Heading) : Type 0 where
  pub cs : List Sided
  pub shown : Shows r.claims cs
  pub few : r.claims.count ≤ 64
  pub ranges : All (λ s. every (in_range (length T) 0) (claim_fields (Claims.claim s)) ≡ true) cs
  pub leads : ClaimsLead text T begun cs r.reached.lines r.reached.at (Ok r.section)

-- the line behind the claims that were read is refused, with its number and line
pub record ClaimsRefused (text : List ℕ) (T : Table) (begun : ℕ) (e : Stopped Read) : Type 0 where
  pub cs : List Sided
  pub shown : Shows e.read.claims cs
  pub few : e.read.claims.count ≤ 64
  pub ranges : All (λ s. every (in_range (length T) 0) (claim_fields (Claims.claim s)) ≡ true) cs
  pub leads : ClaimsLead text T begun cs e.read.reached.lines e.read.reached.at (Err (number_of e.refused.refusal))
  pub line : e.refused.line ≡ e.read.reached.lines + 1

-- what the reading of the claims comes to, from a position on behind a table T: the claims, with what ends them, or a refusal
abbrev pub ClaimsRead : List ℕ → Table → ℕ → Result Heading (Stopped Read) → Type 0
ClaimsRead text T begun (Ok r) = ClaimsHeard text T begun r
ClaimsRead text T begun (Err e) = ClaimsRefused text T begun e
