-- The verdict: from the text and the length of the lent room to a word, a number and a line.
-- Assumes nothing.
use Rattle.std.specs.Prelude.{ℕ, zero, suc, ◌+◌, Bool, false, not, cond, List, [], ◌∷◌, ◌++◌, ltb, leb, length}
use Prim.Native.String.{String}
use Rattle.lines.specs.Text.{at_table, at_claims, at_steps, at_size, at_facts, lines_of}
use Rattle.lines.specs.declared.Item.{Item}
use Rattle.alc.specs.Lists.{every, is_empty, first_at}
use Rattle.alc.specs.Rows.{Row, row, refusal}
use Rattle.alc.specs.Ranges as Ranges
use Rattle.alc.specs.Ranges.{Field, in_range}
use Rattle.alc.specs.Table.{Table, stands, entry_fields}
use Rattle.alc.specs.Claims.{Sided, Goal, claim_fields, holds_by}
use Rattle.alc.specs.Claims as Claims
use Rattle.alc.specs.Goals.{step_rows, goals_after}
use Rattle.alc.specs.Model.{Fact, fact_fields, repeats, interp_of, all_placed}
use Rattle.alc.specs.Dossier.{Said, concept, claim, proof, model, step, size, fact, unread, said_at}

-- `proved` and `refuted` have number 0 and the count of lines; `refused` has its number and line
pub data Verdict : Type 0 where
  proved refuted : ℕ → Verdict
  refused : ℕ → ℕ → Verdict

-- 01's three columns. The first: the word
abbrev pub word : Verdict → String
word (proved n) = "proved"
word (refuted n) = "refuted"
word (refused k n) = "refused"

-- the second: 0, or the refusal's number
abbrev pub number : Verdict → ℕ
number (proved n) = 0
number (refuted n) = 0
number (refused k n) = k

-- the third: the count of lines, or the line that the refusal fixes
abbrev pub line : Verdict → ℕ
line (proved n) = n
line (refuted n) = n
line (refused k n) = n

-- the part of the dossier that the next line stands in: the table, the claims, the steps, the model before its `size` and behind it
pub data Part : Type 0 where
  table claims steps start facts : Part

-- the same as a place of the reading part
abbrev pub place : Part → ℕ
place table = at_table
place claims = at_claims
place steps = at_steps
place start = at_size
place facts = at_facts

-- what has been read: the table, the claims, how many steps and the goals that they leave open, the model's size and what it says
pub record State : Type 0 where
  pub part : Part
  pub table : Table
  pub claims : List Sided
  pub steps : ℕ
  pub goals : List Goal
  pub size : ℕ
  pub facts : List Fact

-- the state with these parts, in this order
abbrev pub state : Part → Table → List Sided → ℕ → List Goal → ℕ → List Fact → State
state p T cs n gs k fs = record { part = p; table = T; claims = cs; steps = n; goals = gs; size = k; facts = fs }

-- before the first line
abbrev pub begin : State
begin = state table [] [] 0 [] 0 []

-- every field of the line is in its range
abbrev pub ranges : State → List Field → Bool
ranges S fs = every (in_range (length S.table) S.size) fs

-- the refusal rows of a line, in their order: 2, 5, 9, 3, 4, 6, 7, 8, 10, 11
unfoldable pub rows : State → Said → List Row
rows S (concept e) = row 5 (ltb (length S.table) 256) ∷ row 3 (ranges S (entry_fields e)) ∷ row 4 (not (stands S.table e)) ∷ []
rows S (claim s) = row 5 (ltb (length S.claims) 64) ∷ row 3 (ranges S (claim_fields (Claims.claim s))) ∷ []
rows S proof = []
rows S model = []
rows S (step s) = step_rows S.table S.steps S.goals s
rows S (size n) = row 3 (ranges S (Ranges.size n ∷ [])) ∷ []
rows S (fact f) = row 3 (ranges S (fact_fields f)) ∷ row 4 (not (repeats S.facts f)) ∷ []
rows S unread = row 2 false ∷ []

-- what has been read after a line that passed its rows. With `proof` the claims become the only goal
unfoldable pub after : State → Said → State
after S (concept e) = state table (S.table ++ (e ∷ [])) S.claims 0 [] 0 []
after S (claim s) = state claims S.table (S.claims ++ (s ∷ [])) 0 [] 0 []
after S proof = state steps S.table S.claims 0 (S.claims ∷ []) 0 []
after S model = state start S.table S.claims 0 [] 0 []
after S (step s) = state steps S.table S.claims (suc S.steps) (goals_after S.table s S.goals) 0 []
after S (size n) = state facts S.table S.claims 0 [] n []
after S (fact f) = state facts S.table S.claims 0 [] S.size (S.facts ++ (f ∷ []))
after S unread = S

-- at the end of n lines, a model: 12 where a claim's name is unplaced, 13 where a claim is wrong, with the line of the first such claim
abbrev pub modelled : ℕ → State → Verdict
modelled n S =
    let wrong = first_at (holds_by S.table (interp_of S.size S.facts)) S.claims in
    cond (not (all_placed S.facts S.claims)) (refused 12 (suc n))
    (cond (ltb wrong (length S.claims)) (refused 13 (suc (length S.table + wrong)))
    (refuted n))

-- at the end of n lines: 12 where there is no `proof` or `model`, a goal is open, or there is no `size`
abbrev pub end_in : Part → ℕ → State → Verdict
end_in table n S = refused 12 (suc n)
end_in claims n S = refused 12 (suc n)
end_in steps n S = cond (is_empty S.goals) (proved n) (refused 12 (suc n))
end_in start n S = refused 12 (suc n)
end_in facts n S = modelled n S

-- at the end of n lines
unfoldable pub ending : ℕ → State → Verdict
ending n S = end_in S.part n S

-- the lines that are left, with n read: the earliest bad line decides, and no line behind it is looked at
unfoldable pub judge : ℕ → State → List Item → Verdict
judge n S [] = ending n S
judge n S (i ∷ is) =
    let s = said_at (place S.part) i in
    elim (refusal (rows S s)) [ zero ↦ judge (suc n) (after S s) is | suc k ↦ refused (suc k) (suc n) ]

-- the rows before the first line, of a room of so many records and a text
abbrev pub outer_rows : ℕ → List ℕ → List Row
outer_rows room text = row 14 (leb 1088 room) ∷ row 1 (leb (length text) 65535) ∷ []

-- the verdict on a text, with a lent room of so many records
unfoldable pub verdict : ℕ → List ℕ → Verdict
verdict room text = elim (refusal (outer_rows room text)) [ zero ↦ judge 0 begin (lines_of text) | suc k ↦ refused (suc k) 0 ]
