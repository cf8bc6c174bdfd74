-- What stands before a derivation. Of the rows before the first line the length of the room decides first, then that of the text; and where a first step
-- begins, the judge is where the walk to it ends. Assumes nothing.
use Prim.Native.Nat.{ℕ, zero, suc, ◌≤◌, ◌<◌}
use mathlib.Core.List.{List, [], ◌∷◌}
use mathlib.Core.Path.{◌≡◌, sym, ap, subst, ◌∙◌}
use native.Mathlib.Omega.{arith}
use lib.ListN.{length, drop, length-replicate}
use borrow.Author.Tests.{lt-leb, le-leb}
use Rattle.lines.specs.Text.{lines_of}
use Rattle.alc.specs.Rows.{refusal}
use Rattle.alc.specs.Table.{Table}
use Rattle.alc.specs.Shown.{answered}
use Rattle.alc.specs.Verdict.{Verdict, refused, judge, begin, outer_rows, verdict}
use Rattle.alc.specs.declared.Answer.{Answer}
use Rattle.alc.specs.declared.Goal.{Goal as Records}
use Rattle.alc.proofs.ListFacts.{zeros}
use Rattle.parts.specs.Parts.{in_steps}
use Rattle.parts.proofs.Through.{through_judge, through_bounds}
use Rattle.states.specs.Standing.{begun_of, no_counts, Ready}
use Rattle.states.specs.declared.State.{State}
use Rattle.opening.specs.Opened.{Ends, Following, Deciding}

-- what follows the rows
abbrev next : List ℕ → ℕ → Verdict
next text n = elim n [ zero ↦ judge 0 begin (lines_of text) | suc k ↦ refused (suc k) 0 ]

module _ (n : ℕ) (text : List ℕ) where
  -- a narrow room is refused, and then a long text; else the verdict is that of the lines
  pub verdict_narrow : n < 1088 → verdict n text ≡ refused 14 0
  unfolding verdict
  verdict_narrow h = let e : refusal (outer_rows n text) ≡ 14 = rw (lt-leb 1088 n h) in ap (next text) e

  pub verdict_long : 1088 ≤ n → 65535 < length text → verdict n text ≡ refused 1 0
  unfolding verdict
  verdict_long w h = let e : refusal (outer_rows n text) ≡ 1 = rw (le-leb 1088 n w, lt-leb (length text) 65535 h) in ap (next text) e

  pub verdict_short : 1088 ≤ n → length text ≤ 65535 → verdict n text ≡ judge 0 begin (lines_of text)
  unfolding verdict
  verdict_short w h = let e : refusal (outer_rows n text) ≡ 0 = rw (le-leb 1088 n w, le-leb (length text) 65535 h) in ap (next text) e

  -- no derivation follows where the room is narrow, where the text is long, and where its lines have a verdict
  pub narrow : (a : Answer) → answered a ≡ refused 14 0 → n < 1088 → Deciding n text a
  narrow a e h = record { none = λ T cs lines at w s d. omega (arith, h, w); answer = e ∙ sym (verdict_narrow h) }

  pub long : (a : Answer) → answered a ≡ refused 1 0 → 1088 ≤ n → 65535 < length text → Deciding n text a
  long a e w h = record { none = λ T cs lines at z s d. omega (arith, h, s); answer = e ∙ sym (verdict_long w h) }

  pub decided : (a : Answer) → 1088 ≤ n → length text ≤ 65535 → Ends text (answered a) → Deciding n text a
  decided a w h e = record { none = λ T cs lines at _ _ d. e.none T cs lines at d; answer = e.so ∙ sym (verdict_short w h) }

-- where one follows its first step can be read, and the verdict from there on is that of the text
module _ (n : ℕ) (text : List ℕ) (T : Table) (s : State) (b : Following n text T s) where
  begun_ready : (g : Records) (at lines : ℕ) → g.count ≤ 64 → (at ≤ length text) × (lines ≤ at) → Ready text (begun_of g at lines)
  unfolding no_counts
  begun_ready g at lines small bounds = record {
    few = omega arith;
    small = small;
    slots = length-replicate {A = ℕ} 16 0;
    sizes = λ i. rw (zeros 16 i) (omega arith);
    within = bounds.0;
    counted = bounds.1;
  }

  pub begins_ready : Ready text s
  begins_ready =
      subst (Ready text) (sym b.begins.state)
      (begun_ready s.goal s.reached.at s.reached.lines b.begins.small (through_bounds b.begins.walk (omega arith, omega arith)))

  pub begins_alone : s.open ≡ 1
  begins_alone = ap (λ (r : State). r.open) b.begins.state

  pub begins_so : verdict n text ≡ judge s.reached.lines (in_steps T b.begins.cs s.steps (b.begins.cs ∷ [])) (lines_of (drop s.reached.at text))
  begins_so =
      verdict_short n text b.wide b.short
      ∙ through_judge b.begins.walk
      ∙ ap (λ (r : State). judge r.reached.lines (in_steps T b.begins.cs r.steps (b.begins.cs ∷ [])) (lines_of (drop r.reached.at text))) (sym b.begins.state)
