-- The next line of a derivation is what the judge makes of it, with the goals that are open: where a row fails, or no line is left, the answer is the
-- verdict from there on; where all rows pass, the premises take the current goal's place. Assumes nothing.
use Prim.Native.Nat.{ℕ, suc, ◌+◌, ◌-◌, ◌≤◌, ◌<◌}
use native.Mathlib.Omega.{arith}
use native.Mathlib.Numerals.{add-one}
use mathlib.Core.Bool.{cond}
use mathlib.Core.List.{List, [], ◌∷◌, ◌++◌}
use mathlib.Core.Path.{◌≡◌, refl, sym, ap, ap₂, subst, ◌∙◌}
use lib.ListN.{length, drop}
use borrow.Author.Tests.{lt-ltb, le-ltb}
use Rattle.std.specs.Prelude.{Result, Ok, Err}
use Rattle.lines.specs.Text.{at_steps, lines_of}
use Rattle.lines.specs.Walk.{steps_from, size_from, read_at}
use Rattle.lines.specs.declared.Line.{Line}
use Rattle.lines.specs.declared.Next.{Next}
use Rattle.lines.specs.declared.Next.TheVariants.{Found, Bad, End}
use Rattle.lines.proofs.Told.{Told, told}
use Rattle.reading.proofs.Loop.{Line-found, Line-bad, when_found, when_bad, when_end}
use Rattle.alc.specs.Lists.{is_empty}
use Rattle.alc.specs.Rows.{refusal}
use Rattle.alc.specs.Table.{Table}
use Rattle.alc.specs.Claims.{Sided, Goal}
use Rattle.alc.specs.Rules.{plan}
use Rattle.alc.specs.Goals.{premises}
use Rattle.alc.specs.Dossier.{saying}
use Rattle.alc.specs.Shown.{records, Shows, number_of, answered, row_number}
use Rattle.alc.specs.Verdict.{Verdict, proved, refused, rows, ending, judge}
use Rattle.alc.specs.declared.Answer.{Answer}
use Rattle.alc.specs.declared.refusal.Refusal.{Refusal}
use Rattle.alc.proofs.Refusals.{number_some}
use Rattle.goals.specs.declared.Turn.{Turn}
use Rattle.goals.specs.Records.{added, Makes}
use Rattle.goals.proofs.Steps.{Leaves}
use Rattle.parts.specs.Parts.{in_steps}
use Rattle.parts.proofs.Judging.{judge_end, judge_bad, judge_next, judge_refused}
use Rattle.states.specs.declared.State.{State}
use Rattle.steps.specs.declared.Passed.{Passed}
use Rattle.steps.specs.Turning.{step_in, TurnAt}
use Rattle.steps.specs.Acting
use Rattle.steps.specs.Acting.{Current, from, StepAt}
use Rattle.steps.proofs.StepLaws.{step_word, number_here, leaves_here, rows_5, rows_9, rows_turn, after_turn}

-- with the claims cs and the goals x and hs open a step that passes leaves its premises and hs, and the judge goes on behind its line
pub record Led (T : Table) (cs : List Sided) (text : List ℕ) (s : State) (p : Passed) (x : Goal) (hs : List Goal) : Type 0 where
  pub premises : List Goal
  pub leaves : Leaves (records s.goal) p.turn premises
  pub so : from T cs text s (x ∷ hs) ≡ judge (s.reached.lines + 1) (in_steps T cs (s.steps + 1) (premises ++ hs)) (lines_of (drop p.at text))

-- a step that passes: a goal is open, its premises can be made, and it leads on behind its line
pub record Passing (T : Table) (text : List ℕ) (s : State) (p : Passed) : Type 0 where
  pub some : 0 < s.open
  pub makes : Makes p.turn s.goal
  pub few : length (added p.turn.leaves) + (s.open - 1) ≤ 17
  pub later : s.reached.at < p.at
  pub within : p.at ≤ length text
  pub leads : length T ≤ 256 → (cs : List Sided) (x : Goal) (hs : List Goal) → s.open ≡ suc (length hs) → Shows s.goal x → Led T cs text s p x hs

-- an outcome is one
err : {a b : Answer} → ◌≡◌ {A = Result Passed Answer} (Err a) (Err b) → a ≡ b
err e = cc

ok : {p q : Passed} → ◌≡◌ {A = Result Passed Answer} (Ok p) (Ok q) → p ≡ q
ok e = cc

module _ (text : List ℕ) (T : Table) (low : length T ≤ 256) (s : State) where
  -- the verdict from here on, at these claims and goals
  abbrev whole : List Sided → List Goal → Verdict
  whole cs gs = from T cs text s gs

  -- it is so whatever goals are open
  abbrev Decided : Verdict → Type 0
  Decided k = (cs : List Sided) (gs : List Goal) → s.open ≡ length gs → Current s.goal gs → k ≡ whole cs gs

  -- one line more has been read
  line_more : (k : ℕ) → refused k (suc s.reached.lines) ≡ refused k (s.reached.lines + 1)
  line_more k = ap (refused k) (sym (add-one s.reached.lines))

  stops_bad : Line-bad text s.reached.at at_steps → Decided (refused 2 (s.reached.lines + 1))
  stops_bad b = λ cs gs o c. sym (judge_bad text s.reached.at at_steps s.reached.lines (in_steps T cs s.steps gs) refl b ∙ line_more 2)

  -- at the end
  ended : (cs : List Sided) (gs : List Goal) → lines_of (drop s.reached.at text) ≡ [] → whole cs gs ≡ cond (is_empty gs) (proved s.reached.lines) (refused 12 (suc s.reached.lines))
  unfolding ending
  ended cs gs e = judge_end s.reached.lines (in_steps T cs s.steps gs) _ e

  stops_open : lines_of (drop s.reached.at text) ≡ [] → 0 < s.open → Decided (refused 12 (s.reached.lines + 1))
  stops_open e h = λ cs gs o c. sym (ended cs gs e ∙ go gs o ∙ line_more 12)
    where
      go : (hs : List Goal) → s.open ≡ length hs → cond (is_empty hs) (proved s.reached.lines) (refused 12 (suc s.reached.lines)) ≡ refused 12 (suc s.reached.lines)
      go [] q = absurd (omega arith)
      go (x ∷ hs) q = refl

  stops_proved : lines_of (drop s.reached.at text) ≡ [] → s.open ≡ 0 → Decided (proved s.reached.lines)
  stops_proved e h = λ cs gs o c. sym (ended cs gs e ∙ go gs o)
    where
      go : (hs : List Goal) → s.open ≡ length hs → cond (is_empty hs) (proved s.reached.lines) (refused 12 (suc s.reached.lines)) ≡ proved s.reached.lines
      go [] q = refl
      go (x ∷ hs) q = absurd (omega arith)

  -- at a line
  module _ (l : Line) (to : ℕ) (f : Line-found text s.reached.at at_steps l to) where
    t : Told l
    t = told (drop s.reached.at text) l (lines_of (drop to text)) f.lines

    word : (steps_from ≤ l.word) × (l.word < size_from)
    word = step_word l f.allowed

    refuses : (k : ℕ) → (k ≡ 0 → ⊥) → ((cs : List Sided) (gs : List Goal) → s.open ≡ length gs → Current s.goal gs → refusal (rows (in_steps T cs s.steps gs) (saying l)) ≡ k)
        → Decided (refused k (s.reached.lines + 1))
    refuses k z r = λ cs gs o c. sym (judge_refused text s.reached.at at_steps s.reached.lines (in_steps T cs s.steps gs) refl l to f k (r cs gs o c) z ∙ line_more k)

    stops_5 : 1024 ≤ s.steps → Decided (refused 5 (s.reached.lines + 1))
    stops_5 h = refuses 5 (λ (z : ◌≡◌ {A = ℕ} 5 0). omega arith) (λ cs gs o c. rows_5 T low l t word.0 word.1 cs s.steps gs (le-ltb s.steps 1024 h))

    module _ (room : s.steps < 1024) where
      stops_9 : s.open ≡ 0 → Decided (refused 9 (s.reached.lines + 1))
      stops_9 h = refuses 9 (λ (z : ◌≡◌ {A = ℕ} 9 0). omega arith) (λ cs gs o c. go cs gs o)
        where
          go : (cs : List Sided) (hs : List Goal) → s.open ≡ length hs → refusal (rows (in_steps T cs s.steps hs) (saying l)) ≡ 9
          go cs [] q = rows_9 T low l t word.0 word.1 cs s.steps (lt-ltb s.steps 1024 room)
          go cs (x ∷ hs) q = absurd (omega arith)

      -- with a goal open, on which the line turns
      module _ (some : 0 < s.open) (r : Result Turn Refusal) (d : TurnAt T l s.goal (s.open - 1) r) where
        -- those that wait are one less than those that are open
        turn_here : (hs : List Goal) → s.open ≡ suc (length hs) → TurnAt T l s.goal (length hs) r
        turn_here hs q = let b : s.open - 1 ≡ length hs = omega arith in subst (λ (k : ℕ). TurnAt T l s.goal k r) b d

        -- the line's rows at the current goal x
        rows_here : (cs : List Sided) (x : Goal) (hs : List Goal) → s.open ≡ suc (length hs) → Shows s.goal x
            → refusal (rows (in_steps T cs s.steps (x ∷ hs)) (saying l)) ≡ row_number r
        rows_here cs x hs q c =
            rows_turn T low l t word.0 word.1 cs s.steps x hs (lt-ltb s.steps 1024 room) ∙ sym (number_here T l s.goal (length hs) x c r (turn_here hs q))

      stops_turn : 0 < s.open → (k : Refusal) → TurnAt T l s.goal (s.open - 1) (Err k) → Decided (refused (number_of k) (s.reached.lines + 1))
      stops_turn some k d = refuses (number_of k) (number_some k) go
        where
          go : (cs : List Sided) (hs : List Goal) → s.open ≡ length hs → Current s.goal hs → refusal (rows (in_steps T cs s.steps hs) (saying l)) ≡ number_of k
          go cs [] q c = absurd (omega arith)
          go cs (x ∷ hs) q c = rows_here some (Err k) d cs x hs q c

      -- the line passes: the goals that are open are its premises and those that wait
      leads_on : 0 < s.open → (u : Turn) → TurnAt T l s.goal (s.open - 1) (Ok u) → (cs : List Sided) (x : Goal) (hs : List Goal) → s.open ≡ suc (length hs) → Shows s.goal x
          → Led T cs text s (record { turn = u; at = to }) x hs
      leads_on some u d cs x hs q c = record {
        premises = premises (plan T (step_in l)) x;
        leaves = leaves_here T l s.goal (length hs) x c u (turn_here some (Ok u) d hs q);
        so =
            judge_next text s.reached.at at_steps s.reached.lines (in_steps T cs s.steps (x ∷ hs)) refl l to f (rows_here some (Ok u) d cs x hs q c)
            ∙ ap (λ S. judge (suc s.reached.lines) S (lines_of (drop to text)))
            (after_turn T low l t word.0 word.1 cs s.steps x hs (length hs) (sym (number_here T l s.goal (length hs) x c (Ok u) (turn_here some (Ok u) d hs q))))
            ∙ ap₂ (λ k j. judge k (in_steps T cs j (premises (plan T (step_in l)) x ++ hs)) (lines_of (drop to text))) (sym (add-one s.reached.lines)) (sym (add-one s.steps));
      }

  -- where the derivation ends the answer is the verdict
  pub ends : (a : Answer) → StepAt T s (read_at text s.reached.at at_steps) (Err a) → Decided (answered a)
  ends a d = go (read_at text s.reached.at at_steps) refl (Err a) refl d
    where
      go : (n : Next) → read_at text s.reached.at at_steps ≡ n → (r : Result Passed Answer) → r ≡ Err a → StepAt T s n r → Decided (answered a)
      go Bad e _ q Acting.bad = subst (λ b. Decided (answered b)) (err q) (stops_bad (when_bad text s.reached.at at_steps e))
      go End e _ q (Acting.short h) = subst (λ b. Decided (answered b)) (err q) (stops_open (when_end text s.reached.at at_steps e) h)
      go End e _ q (Acting.done h) = subst (λ b. Decided (answered b)) (err q) (stops_proved (when_end text s.reached.at at_steps e) h)
      go (Found l to) e _ q (Acting.many h) = subst (λ b. Decided (answered b)) (err q) (stops_5 l to (when_found text s.reached.at at_steps l to e) h)
      go (Found l to) e _ q (Acting.late r h) = subst (λ b. Decided (answered b)) (err q) (stops_9 l to (when_found text s.reached.at at_steps l to e) r h)
      go (Found l to) e _ q (Acting.fails k r h w) = subst (λ b. Decided (answered b)) (err q) (stops_turn l to (when_found text s.reached.at at_steps l to e) r h k w)
      go (Found l to) e _ q (Acting.passes u r h w) = let z : ◌≡◌ {A = ℕ} 0 1 = cc in absurd (omega arith)

-- where a step passes it leads on
module _ (text : List ℕ) (T : Table) (s : State) where
  goes_on : (l : Line) (to : ℕ) → Line-found text s.reached.at at_steps l to → s.steps < 1024 → 0 < s.open → (u : Turn) → TurnAt T l s.goal (s.open - 1) (Ok u)
      → Passing T text s (record { turn = u; at = to })
  goes_on l to f room some u d = record {
    some = some;
    makes = d.makes.0;
    few = d.makes.1;
    later = f.later;
    within = f.within;
    leads = λ low. leads_on text T low s l to f room some u d;
  }

  pub goes : (p : Passed) → StepAt T s (read_at text s.reached.at at_steps) (Ok p) → Passing T text s p
  goes p d = go (read_at text s.reached.at at_steps) refl (Ok p) refl d
    where
      go : (n : Next) → read_at text s.reached.at at_steps ≡ n → (r : Result Passed Answer) → r ≡ Ok p → StepAt T s n r → Passing T text s p
      go (Found l to) e _ q (Acting.passes u r h w) = subst (Passing T text s) (ok q) (goes_on l to (when_found text s.reached.at at_steps l to e) r h u w)
      go Bad e _ q Acting.bad = let z : ◌≡◌ {A = ℕ} 0 1 = cc in absurd (omega arith)
      go End e _ q (Acting.short h) = let z : ◌≡◌ {A = ℕ} 0 1 = cc in absurd (omega arith)
      go End e _ q (Acting.done h) = let z : ◌≡◌ {A = ℕ} 0 1 = cc in absurd (omega arith)
      go (Found l to) e _ q (Acting.many h) = let z : ◌≡◌ {A = ℕ} 0 1 = cc in absurd (omega arith)
      go (Found l to) e _ q (Acting.late r h) = let z : ◌≡◌ {A = ℕ} 0 1 = cc in absurd (omega arith)
      go (Found l to) e _ q (Acting.fails k r h w) = let z : ◌≡◌ {A = ℕ} 0 1 = cc in absurd (omega arith)
