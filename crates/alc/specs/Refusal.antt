-- What a refusal means: "14 first, then 1; then the earliest bad line; within a line the order of the rows; at the end 12, then 13". A relation,
-- which the verdict is proved to be.
-- Assumes nothing.
use Rattle.std.specs.Prelude.{ℕ, suc, ◌+◌, ◌≤◌, ◌<◌, Bool, true, false, not, cond, List, [], ◌∷◌, ◌++◌, ◌≡◌, eqb, length}
use Rattle.lines.specs.Text.{lines_of}
use Rattle.lines.specs.declared.Item.{Item}
use Rattle.alc.specs.Lists.{All, is_empty}
use Rattle.alc.specs.Rows.{Row, row}
use Rattle.alc.specs.Table.{Table}
use Rattle.alc.specs.Meaning.{Interp}
use Rattle.alc.specs.Claims.{Sided, holds_by}
use Rattle.alc.specs.Model.{interp_of, all_placed}
use Rattle.alc.specs.Dossier.{Said, said_at}
use Rattle.alc.specs.Verdict.{Part, table, claims, steps, start, facts, State, place, begin, rows, after}
use Rattle.alc.specs.Accepts.{Against}

-- the numbers of a line's rows, in the order of the table
abbrev pub order : List ℕ
order = 2 ∷ 5 ∷ 9 ∷ 3 ∷ 4 ∷ 6 ∷ 7 ∷ 8 ∷ 10 ∷ 11 ∷ []

-- the first list is the second, with some left out
abbrev pub within : List ℕ → List ℕ → Bool
within [] [] = true
within (a ∷ l) [] = false
within [] (b ∷ m) = true
within (a ∷ l) (b ∷ m) = cond (eqb a b) (within l m) (within (a ∷ l) m)

-- the line passes all its rows
abbrev pub AllPassed : List Row → Type 0
AllPassed rs = All (λ r. r.passed ≡ true) rs

-- k is the number of the first row that the line does not pass
pub data First (k : ℕ) : List Row → Type 0 where
  here : {rs : List Row} → First k (row k false ∷ rs)
  later : {j : ℕ} {rs : List Row} → First k rs → First k (row j true ∷ rs)

-- what a line says where S has been read
abbrev pub said : State → Item → Said
said S i = said_at (place S.part) i

-- the lines pass all their rows, one after the other: S had been read before them, and E has been read behind them
pub data Passes : State → List Item → State → Type 0 where
  none : {S : State} → Passes S [] S
  line : {S E : State} {i : Item} {is : List Item} → AllPassed (rows S (said S i)) → Passes (after S (said S i)) is E → Passes S (i ∷ is) E

-- k is the number of the first row that the earliest bad line does not pass, and m lines stand before it
pub record BadLine (S : State) (is : List Item) (k m : ℕ) : Type 0 where
  pub before : List Item
  pub bad : Item
  pub behind : List Item
  pub read : State
  pub lines : is ≡ before ++ (bad ∷ behind)
  pub passes : Passes S before read
  pub first : First k (rows read (said read bad))
  pub count : m ≡ length before

-- the end comes with no `proof` or `model`, a goal open, no `size`, or a claim's name unplaced
abbrev pub unfinished_in : Part → State → Bool
unfinished_in table S = true
unfinished_in claims S = true
unfinished_in steps S = not (is_empty S.goals)
unfinished_in start S = true
unfinished_in facts S = not (all_placed S.facts S.claims)

-- the same, by the part that the state is in
abbrev pub unfinished : State → Bool
unfinished S = unfinished_in S.part S

-- the first claim that the interpretation gets wrong, a left claim false or a right claim true; m claims stand before it
pub record FirstWrong (T : Table) (I : Interp) (cs : List Sided) (m : ℕ) : Type 0 where
  pub before : List Sided
  pub wrong : Sided
  pub behind : List Sided
  pub claims : cs ≡ before ++ (wrong ∷ behind)
  pub agrees : All (Against T I) before
  pub differs : holds_by T I wrong ≡ true
  pub count : m ≡ length before

-- the refusals of a text with a lent room of so many records: number and line
pub data Refuses (room : ℕ) (text : List ℕ) : ℕ → ℕ → Type 0 where
  narrow : room < 1088 → Refuses room text 14 0
  long : 1088 ≤ room → 65535 < length text → Refuses room text 1 0
  at_line : {k m : ℕ} → 1088 ≤ room → length text ≤ 65535 → BadLine begin (lines_of text) k m → Refuses room text k (suc m)
  at_end : {E : State} → 1088 ≤ room → length text ≤ 65535 → Passes begin (lines_of text) E → unfinished E ≡ true → Refuses room text 12 (suc (length (lines_of text)))
  by_model : {E : State} {m : ℕ} → 1088 ≤ room → length text ≤ 65535 → Passes begin (lines_of text) E → E.part ≡ facts → unfinished E ≡ false
      → FirstWrong E.table (interp_of E.size E.facts) E.claims m → Refuses room text 13 (suc (length E.table + m))
