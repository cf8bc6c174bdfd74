-- A line of the steps as a step: its word is one of those of the steps, so what it says is the step of that word; its numbers fit a byte where
-- they are in their ranges; and the judge's rows of it are those that are tested. Assumes nothing.
use Prim.Native.Nat.{ℕ, suc, ◌≤◌, ◌<◌, ◌%◌}
use native.Mathlib.Omega.{arith}
use mathlib.Core.Bool.{Bool, true, false, cond}
use mathlib.Core.List.{List, [], ◌∷◌, ◌++◌, map}
use mathlib.Core.Path.{◌≡◌, refl, sym, ap, ◌∙◌}
use lib.Dec.{ltb}
use lib.ListN.{length, drop}
use Rattle.std.specs.Prelude.{Result, Ok, Err}
use Rattle.alc.specs.declared.refusal.Refusal.{Refusal}
use Rattle.alc.specs.declared.refusal.Refusal.TheVariants.{OutOfRange}
use Rattle.lines.specs.Text.{at_steps, words, row_of, stands as allowed_at}
use Rattle.lines.specs.Walk.{steps_from, size_from}
use Rattle.lines.specs.declared.Line.{Line}
use Rattle.lines.proofs.Told.{Told}
use Rattle.lines.proofs.Words.{spanned}
use Rattle.alc.specs.Lists.{every}
use Rattle.alc.specs.Rows.{Row, refusal}
use Rattle.alc.specs.Ranges.{in_range}
use Rattle.alc.specs.Table.{Table}
use Rattle.alc.specs.Claims.{Sided, Goal}
use Rattle.alc.specs.declared.Claim.{Claim as Record}
use Rattle.alc.specs.declared.Goal.{Goal as Records}
use Rattle.alc.specs.Rules
use Rattle.alc.specs.Rules.{Step, step_fields, plan}
use Rattle.alc.specs.Goals.{step_rows, premises, goals_after}
use Rattle.alc.specs.Dossier.{step, steps, sayings, saying}
use Rattle.alc.specs.Shown.{records, Shows}
use Rattle.alc.specs.Verdict.{rows, after}
use Rattle.goals.specs.declared.Turn.{Turn}
use Rattle.goals.specs.Records.{step_of, row_number, Ruling, Turns}
use Rattle.goals.proofs.Steps.{rule_rows, Leaves, step_rows_lem, number_shown, leaves_shown}
use Rattle.parts.specs.Fields.{said_fields}
use Rattle.parts.specs.Parts.{in_steps}
use Rattle.parts.proofs.Said.{said_part}
use Rattle.parts.proofs.Small.{Small, small}
use Rattle.parts.proofs.TableLaws.{byte}
use Rattle.steps.specs.Turning.{step_in, range_row, TurnAt}

-- the words that stand in the steps' place: a test of all words
pub step_word : (l : Line) → allowed_at at_steps l ≡ true → (steps_from ≤ l.word) × (l.word < size_from)
unfolding words row_of
step_word l a = spanned at_steps steps_from size_from (omega arith) refl l.word a

pub step_plain : (l : Line) → steps_from ≤ l.word → l.word < size_from → saying l ≡ step (step_of l.word l.n0 l.n1 l.n2)
unfolding step_of
step_plain l =
    let said = sayings l.side l.n0 l.n1 l.n2 in
    said_part step said steps_from (map (λ r. r.said) (steps l.n0 l.n1 l.n2)) (drop size_from said) (Rules.id l.n0 l.n1) refl l.word

pub step_said : (l : Line) → Small l → steps_from ≤ l.word → l.word < size_from → saying l ≡ step (step_in l)
step_said l m h k =
    step_plain l h k
    ∙ ap (λ x. step (step_of l.word x l.n1 l.n2)) (sym (byte l.n0 m.first))
    ∙ ap (λ y. step (step_of l.word (l.n0 % 256) y l.n2)) (sym (byte l.n1 m.second))
    ∙ ap (λ z. step (step_of l.word (l.n0 % 256) (l.n1 % 256) z)) (sym (byte l.n2 m.third))

-- what a line does, by its first row and by the turn of its step
module _ (entries : ℕ) (l : Line) (u : Ruling) (rs : List Record) (w : ℕ) where
  pub turned_3 : every (in_range entries 0) (said_fields (saying l)) ≡ false → Turns (range_row entries l ∷ []) u rs w (Err OutOfRange)
  unfolding range_row
  turned_3 h = record { number = rw h; leaves = tt }

  pub turned : every (in_range entries 0) (said_fields (saying l)) ≡ true → (r : Result Turn Refusal) → Turns [] u rs w r → Turns (range_row entries l ∷ []) u rs w r
  unfolding range_row
  turned h r t = record { number = t.number ∙ (rw h); leaves = t.leaves }

-- the rows of a line at the goal g, with so many entries in the table and w goals waiting
unfoldable pub turn_rows : Table → ℕ → Line → Goal → ℕ → List Row
turn_rows T entries l g w = range_row entries l ∷ rule_rows (plan T (step_in l)) g w

-- where the goal's records are those of claims, the line does at them what it does at the claims
module _ (T : Table) (l : Line) (g : Records) (w : ℕ) (cs : Goal) (sg : Shows g cs) where
  pub number_here : (r : Result Turn Refusal) → TurnAt T l g w r → row_number r ≡ refusal (turn_rows T (length T) l cs w)
  unfolding turn_rows
  number_here r d = number_shown (plan T (step_in l)) cs (range_row (length T) l ∷ []) (records g) sg w r d.turned

  pub leaves_here : (t : Turn) → TurnAt T l g w (Ok t) → Leaves (records g) t (premises (plan T (step_in l)) cs)
  leaves_here t d = leaves_shown (plan T (step_in l)) cs (range_row (length T) l ∷ []) (records g) sg w t d.turned

-- the judge's rows of a line of the steps
module _ (T : Table) (few : length T ≤ 256) (l : Line) (t : Told l) (low : steps_from ≤ l.word) (high : l.word < size_from) (cs : List Sided) (n : ℕ) where
  abbrev raw : Step
  raw = step_of l.word l.n0 l.n1 l.n2

  pub rows_5 : (gs : List Goal) → ltb n 1024 ≡ false → refusal (rows (in_steps T cs n gs) (saying l)) ≡ 5
  unfolding rows step_rows
  rows_5 gs h = ap (λ s. refusal (rows (in_steps T cs n gs) s)) (step_plain l low high) ∙ (rw h)

  pub rows_9 : ltb n 1024 ≡ true → refusal (rows (in_steps T cs n []) (saying l)) ≡ 9
  unfolding rows step_rows
  rows_9 h = ap (λ s. refusal (rows (in_steps T cs n []) s)) (step_plain l low high) ∙ (rw h)

  fits : every (in_range (length T) 0) (said_fields (saying l)) ≡ true → Small l
  fits h = small l t (length T) 0 few (omega arith) h

  pub rows_turn : (g : Goal) (gs : List Goal) → ltb n 1024 ≡ true → refusal (rows (in_steps T cs n (g ∷ gs)) (saying l)) ≡ refusal (turn_rows T (length T) l g (length gs))
  unfolding rows range_row turn_rows
  rows_turn g gs h = go (every (in_range (length T) 0) (said_fields (saying l))) refl
    where
      go : (b : Bool) → every (in_range (length T) 0) (said_fields (saying l)) ≡ b
          → refusal (rows (in_steps T cs n (g ∷ gs)) (saying l)) ≡ refusal (turn_rows T (length T) l g (length gs))
      go true e =
          let s = step_said l (fits e) low high in
          let r : every (in_range (length T) 0) (step_fields (step_in l)) ≡ true = ap (λ q. every (in_range (length T) 0) (said_fields q)) (sym s) ∙ e in
          ap (λ q. refusal (rows (in_steps T cs n (g ∷ gs)) q)) s ∙ step_rows_lem T n g gs (step_in l) ∙ (rw (h, r, e))
      go false e =
          let s = step_plain l low high in
          let r : every (in_range (length T) 0) (step_fields raw) ≡ false = ap (λ q. every (in_range (length T) 0) (said_fields q)) (sym s) ∙ e in
          ap (λ q. refusal (rows (in_steps T cs n (g ∷ gs)) q)) s ∙ step_rows_lem T n g gs raw ∙ (rw (h, r, e))

  -- a line that passes is in its ranges, so the step after it is the one tested
  pub in_ranges : (g : Goal) (w : ℕ) → refusal (turn_rows T (length T) l g w) ≡ 0 → every (in_range (length T) 0) (said_fields (saying l)) ≡ true
  unfolding range_row turn_rows
  in_ranges g w e = go (every (in_range (length T) 0) (said_fields (saying l))) refl e
    where
      go : (b : Bool) → every (in_range (length T) 0) (said_fields (saying l)) ≡ b → cond b (refusal (rule_rows (plan T (step_in l)) g w)) 3 ≡ 0
          → every (in_range (length T) 0) (said_fields (saying l)) ≡ true
      go true p q = p
      go false p q = absurd (omega arith)

  pub after_turn : (g : Goal) (gs : List Goal) (w : ℕ) → refusal (turn_rows T (length T) l g w) ≡ 0
      → after (in_steps T cs n (g ∷ gs)) (saying l) ≡ in_steps T cs (suc n) (premises (plan T (step_in l)) g ++ gs)
  unfolding after goals_after
  after_turn g gs w e = ap (after (in_steps T cs n (g ∷ gs))) (step_said l (fits (in_ranges g w e)) low high)
