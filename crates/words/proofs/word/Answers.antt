-- `words::word` meets its contract: the words of a place stand together in the table, so the field is sought among them alone. Assumes nothing.
use Prim.Native.Nat.{ℕ, ◌+◌, ◌-◌, ◌≤◌}
use mathlib.Core.List.{List}
use mathlib.Core.Bool.{true, beq}
use lib.ListN.{length}
use mathlib.Core.Path.{◌≡◌, refl, sym, ap, ◌∙◌}
use native.Mathlib.Omega.{arith}
use borrow.Author.Tests.{eq-eqb, ne_eqb}
use Rattle.lines.specs.Text.{claim_words, step_words, size_words, fact_words, words, word_count, row_of, word_of, behind_of, allowed}
use Rattle.lines.specs.Walk.{claims_from, steps_from, size_from, facts_from, within, placed, sought}
use Rattle.lines.proofs.Words.{all_below, spans, spans_none, placed_sought, claimed, unclaimed}
use Rattle.words.proofs.Seeking.{stand, stand_apart, sought_past, sought_all}
use Rattle.words.proofs.word.Goals as goal

-- the line has a side, or none
module _ (f : List ℕ) (side place : ℕ) where
  abbrev Is : ℕ → Type 0
  Is r = r ≡ placed place (word_of (behind_of side) f)

  with_side : (r : ℕ) → (side ≡ 0 → ⊥) → r ≡ placed place (word_of 1 f) → Is r
  unfolding behind_of
  with_side r z e = rw (ne_eqb side 0 z) e

  -- its words are the n from a on
  no_side : (r p a n : ℕ) → side ≡ 0 → place ≡ p → ((w : ℕ) → allowed p w ≡ within a (a + n) w) → r ≡ sought 0 f a n → Is r
  unfolding behind_of
  no_side r p a n z q s e = rw (eq-eqb side 0 z) (e ∙ placed_sought 0 f p a n s ∙ ap (λ (k : ℕ). placed k (word_of 0 f)) (sym q))

  -- which is so in the table
  by_place : (r p a n : ℕ) → side ≡ 0 → place ≡ p → a + n ≤ word_count → all_below (λ w. beq (allowed p w) (within a (a + n) w)) word_count ≡ true → r ≡ sought 0 f a n → Is r
  by_place r p a n z q h t e = no_side r p a n z q (spans p a (a + n) h t) e

pub returns-then-place-gt-IN_CLAIMS : goal.returns-then-place-gt-IN_CLAIMS
returns-then-place-gt-IN_CLAIMS c = with_side _ _ _ _ c.if-side-ne-NO_SIDE.true (sym (unclaimed _ _ c.if-place-gt-IN_CLAIMS.true))

pub returns-then-side-ne-NO_SIDE : goal.returns-then-side-ne-NO_SIDE
unfolding words row_of stand
returns-then-side-ne-NO_SIDE c = with_side _ _ _ _ c.if-side-ne-NO_SIDE.true (sought_all _ _ _ _ _ refl c.among.ensures c.unwrap_or.ensures ∙ claimed _ _ c.if-place-gt-IN_CLAIMS.false)

pub returns-in-0 : goal.returns-in-0
unfolding words row_of
returns-in-0 c = by_place _ _ _ _ _ 0 steps_from c.if-side-ne-NO_SIDE.false c.in-0.is (omega arith) refl c.table_word.ensures

pub returns-in-1 : goal.returns-in-1
unfolding words row_of stand stand_apart
returns-in-1 c =
    by_place _ _ _ _ _ claims_from (steps_from - claims_from) c.if-side-ne-NO_SIDE.false c.in-1.is (omega arith) refl
    (sought_past 0 c.args.f.now claims_from (length claim_words) (steps_from - claims_from) _ refl (omega arith) (sought_all _ _ _ _ _ refl c.among-in-1.ensures c.unwrap_or-in-1.ensures))

pub returns-in-2 : goal.returns-in-2
unfolding words row_of
returns-in-2 c = by_place _ _ _ _ _ steps_from (length step_words) c.if-side-ne-NO_SIDE.false c.in-2.is (omega arith) refl c.step_word.ensures

pub returns-in-3 : goal.returns-in-3
unfolding words row_of stand
returns-in-3 c = by_place _ _ _ _ _ size_from (length size_words) c.if-side-ne-NO_SIDE.false c.in-3.is (omega arith) refl (sought_all _ _ _ _ _ refl c.among-in-3.ensures c.unwrap_or-in-3.ensures)

pub returns-in-4 : goal.returns-in-4
unfolding words row_of stand
returns-in-4 c = by_place _ _ _ _ _ facts_from (length fact_words) c.if-side-ne-NO_SIDE.false c.in-4.is (omega arith) refl (sought_all _ _ _ _ _ refl c.among-in-4.ensures c.unwrap_or-in-4.ensures)

pub returns-in_default : goal.returns-in_default
unfolding sought
returns-in_default c = no_side _ _ _ _ _ word_count 0 c.if-side-ne-NO_SIDE.false refl (spans_none _ (omega arith)) refl
