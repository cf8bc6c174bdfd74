-- One line of the judge at a time, by what reading finds at a position: a line that passes its rows leads on, one that does not decides,
-- and so does one that is not of the form. Assumes nothing.
use Prim.Native.Nat.{ℕ, zero, suc}
use mathlib.Core.List.{List, []}
use mathlib.Core.Path.{◌≡◌, refl, ap, ◌∙◌}
use lib.ListN.{drop}
use Rattle.lines.specs.Text.{lines_of, fit}
use Rattle.lines.specs.declared.Line.{Line}
use Rattle.lines.specs.declared.Item.{Item}
use Rattle.lines.specs.declared.Item.TheVariants.{Says, Wrong}
use Rattle.reading.proofs.Loop.{Line-found, Line-bad}
use Rattle.alc.specs.Rows.{refusal}
use Rattle.alc.specs.Dossier.{Said, saying, said_by, said_at}
use Rattle.alc.specs.Verdict.{Verdict, refused, State, place, rows, after, ending, judge}

-- what the judge does with a line's refusal
abbrev pub next : ℕ → State → Said → List Item → ℕ → Verdict
next n S s is k = elim k [ zero ↦ judge (suc n) (after S s) is | suc j ↦ refused (suc j) (suc n) ]

pub judge_end : (n : ℕ) (S : State) (is : List Item) → is ≡ [] → judge n S is ≡ ending n S
unfolding judge
judge_end n S is e = rw e

module _ (text : List ℕ) (at p n : ℕ) (S : State) (here : place S.part ≡ p) where
  pub judge_bad : Line-bad text at p → judge n S (lines_of (drop at text)) ≡ refused 2 (suc n)
  unfolding judge rows said_by
  judge_bad b =
      let e : fit (place S.part) b.item ≡ Wrong = ap (λ q. fit q b.item) here ∙ b.wrong in
      rw b.lines (ap (λ s. next n S s b.rest (refusal (rows S s))) (ap said_by e))

  module _ (l : Line) (to : ℕ) (f : Line-found text at p l to) where
    said_here : said_at (place S.part) (Says l) ≡ saying l
    unfolding said_by fit
    said_here = rw (here, f.allowed)

    pub unrolled : judge n S (lines_of (drop at text)) ≡ next n S (saying l) (lines_of (drop to text)) (refusal (rows S (saying l)))
    unfolding judge
    unrolled = rw f.lines (ap (λ s. next n S s (lines_of (drop to text)) (refusal (rows S s))) said_here)

    pub judge_next : refusal (rows S (saying l)) ≡ 0 → judge n S (lines_of (drop at text)) ≡ judge (suc n) (after S (saying l)) (lines_of (drop to text))
    judge_next e = unrolled ∙ ap (next n S (saying l) (lines_of (drop to text))) e

    pub judge_refused : (k : ℕ) → refusal (rows S (saying l)) ≡ k → (k ≡ 0 → ⊥) → judge n S (lines_of (drop at text)) ≡ refused k (suc n)
    judge_refused zero e h = absurd (h refl)
    judge_refused (suc k) e h = unrolled ∙ ap (next n S (saying l) (lines_of (drop to text))) e
