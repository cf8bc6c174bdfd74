-- Each refusal has a number of the list: that of a line is the number of one of its rows, the end has 12 and 13, and 14 and 1 come before the lines.
-- Assumes nothing.
use Prim.Native.Nat.{ℕ, zero, suc, ◌+◌}
use mathlib.Core.Bool.{Bool, true, false}
use mathlib.Core.List.{List, [], ◌∷◌, map}
use mathlib.Core.Path.{◌≡◌, refl, sym, subst}
use lib.Dec.{leb}
use lib.ListN.{length}
use Rattle.lines.specs.Text.{lines_of}
use Rattle.lines.specs.declared.Item.{Item}
use Rattle.alc.specs.Lists.{All}
use Rattle.alc.specs.Rows.{row, refusal}
use Rattle.alc.specs.Shown.{number_of}
use Rattle.alc.specs.Verdict.{Verdict, proved, refuted, refused, State, begin, judge, verdict}
use Rattle.alc.specs.Refusal.{order, said}
use Rattle.alc.specs.declared.refusal.Refusal.{Refusal}
use Rattle.alc.specs.declared.refusal.Refusal.TheVariants.{TooLong, Malformed, OutOfRange, Repeated, TooMany, OtherKind, Missing, NotNew, NoGoal, GoalFull, TooManyWait, Unfinished, NotFalsified, RoomTooSmall}
use Rattle.alc.proofs.Passing.{line_All, passes_ending, bad_refused, Judged, judged, through, stopped}
use Rattle.alc.proofs.Ending.{Ends, closed, falsified, missing, wrong, ends}

-- k is the number of a refusal
abbrev pub InList : ℕ → Type 0
InList k = (r : Refusal) × (number_of r ≡ k)

-- the verdict's number is one, where it is a refusal
abbrev pub Listed : Verdict → Type 0
Listed (proved n) = Unit {0}
Listed (refuted n) = Unit {0}
Listed (refused k n) = InList k

-- a list of refusals has such numbers, and the rows of a line have those of ten
numbers : (rs : List Refusal) → All InList (map number_of rs)
numbers [] = tt
numbers (r ∷ rs) = ((r, refl), numbers rs)

rows_listed : All InList order
rows_listed = numbers (Malformed ∷ TooMany ∷ NoGoal ∷ OutOfRange ∷ Repeated ∷ OtherKind ∷ Missing ∷ NotNew ∷ GoalFull ∷ TooManyWait ∷ [])

-- the end has 12 and 13
end_listed : {n : ℕ} {E : State} {v : Verdict} → Ends n E v → Listed v
end_listed (closed h g) = tt
end_listed (falsified h a c) = tt
end_listed (missing u) = (Unfinished, refl)
end_listed (wrong h u f) = (NotFalsified, refl)

-- whatever was read before
pub judge_listed : (n : ℕ) (S : State) (is : List Item) → Listed (judge n S is)
judge_listed n S is = go (judged S is)
  where
    go : Judged S is → Listed (judge n S is)
    go (through E w) = subst Listed (sym (passes_ending w n)) (end_listed (ends (n + length is) E))
    go (stopped k m b) =
        subst Listed (sym (bad_refused S is k m n b))
        (line_All InList rows_listed b.read (said b.read b.bad) (suc k) b.first)

-- and so of every text, in every room
pub verdict_listed : (room : ℕ) (text : List ℕ) → Listed (verdict room text)
unfolding verdict
verdict_listed room text = go (leb 1088 room) (leb (length text) 65535)
  where
    go : (a b : Bool) → Listed (elim (refusal (row 14 a ∷ row 1 b ∷ [])) [ zero ↦ judge 0 begin (lines_of text) | suc k ↦ refused (suc k) 0 ])
    go false b = (RoomTooSmall, refl)
    go true false = (TooLong, refl)
    go true true = judge_listed 0 begin (lines_of text)

pub refused_listed : (room : ℕ) (text : List ℕ) (k n : ℕ) → verdict room text ≡ refused k n → InList k
refused_listed room text k n e = subst Listed e (verdict_listed room text)
