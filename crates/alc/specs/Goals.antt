-- A step on the open goals: its refusal rows, and the goals that it leaves. The goals that are open stand in a list, the current one first.
-- Assumes nothing.
use Rattle.std.specs.Prelude.{ℕ, Bool, true, false, not, ◌&&◌, List, [], ◌∷◌, ◌++◌, map, ltb, leb, length}
use Rattle.alc.specs.Lists.{every, is_empty, elem, distinct}
use Rattle.alc.specs.Rows.{Row, row}
use Rattle.alc.specs.Ranges.{in_range}
use Rattle.alc.specs.Table.{Table}
use Rattle.alc.specs.Claims.{Sided, Goal, names, claim, has, without}
use Rattle.alc.specs.Rules.{Step, step_fields, Plan, plan}

-- the goal that a step works on
abbrev pub current : List Goal → Goal
current [] = []
current (g ∷ gs) = g

-- the goals put aside, the last first
abbrev pub waiting : List Goal → List Goal
waiting [] = []
waiting (g ∷ gs) = gs

-- the claim has none of these names
abbrev pub avoids : List ℕ → Sided → Bool
avoids news s = every (λ a. not (elem a news)) (names (claim s))

-- the names are new: in no claim of the goal, on either side, and none of them twice
abbrev pub are_new : List ℕ → Goal → Bool
are_new news g = distinct news && every (avoids news) g

-- the goal that the new claims are added to: without the first claim needed, where the rule drops it
abbrev pub rest : Bool → List Sided → Goal → Goal
rest false needs g = g
rest true [] g = g
rest true (s ∷ needs) g = without s g

-- the premises: "Drop" takes out the first copy; new claims come last
abbrev pub premises : Plan → Goal → List Goal
premises p g = map (λ l. rest p.drops p.needs g ++ l) p.premises

-- the refusal rows of a step that comes after n others. At most 16 goals wait, so at most 17 are open
unfoldable pub step_rows : Table → ℕ → List Goal → Step → List Row
step_rows T n gs s =
    let p = plan T s in
    let g = current gs in
    row 5 (ltb n 1024)
    ∷ row 9 (not (is_empty gs))
    ∷ row 3 (every (in_range (length T) 0) (step_fields s))
    ∷ row 6 p.asks
    ∷ row 7 (every (has g) p.needs)
    ∷ row 8 (are_new p.news g)
    ∷ row 10 (every (λ h. leb (length h) 64) (premises p g))
    ∷ row 11 (leb (length (premises p g ++ waiting gs)) 17)
    ∷ []

-- the goals that are open after a step that passed: its premises, the first current, then those that wait
unfoldable pub goals_after : Table → Step → List Goal → List Goal
goals_after T s gs = premises (plan T s) (current gs) ++ waiting gs
