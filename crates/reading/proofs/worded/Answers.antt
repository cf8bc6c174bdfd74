-- `reading::worded` meets its contract: a word that is not allowed here is refused, and of one that is the numbers decide. Assumes nothing.
use Prim.Native.Nat.{ℕ, ◌<◌}
use mathlib.Core.Path.{◌≡◌, sym, ap, ◌∙◌}
use mathlib.Core.List.{List}
use Rattle.lines.specs.Text.{word_count, row_of}
use Rattle.lines.specs.Walk.{placed}
use Rattle.numbers.specs.Numbers.{numbers_in}
use Rattle.std.specs.Prelude.{Option}
use Rattle.numbers.specs.declared.Values.{Values}
use Rattle.reading.specs.Worded.{next_by, worded_in}
use Rattle.lines.proofs.Words.{placed_past, placed_within}
use Rattle.reading.proofs.Whole.{worded_falls, worded_stands}
use Rattle.reading.proofs.worded.Goals as goal

-- the word v is found as w, which takes n numbers, and they are read as r
by_numbers : (place v w s e n : ℕ) (left : List ℕ) (r : Option Values) → w ≡ placed place v → w < word_count → n ≡ (row_of w).count → r ≡ numbers_in e n left → worded_in place v s e left ≡ next_by w s r
by_numbers place v w s e n left r p h k q =
    let i = placed_within _ v _ p h in
    ap (λ (u : ℕ). worded_in place u s e left) i.1
    ∙ worded_stands _ _ _ _ _ i.0
    ∙ ap (λ (m : ℕ). next_by w s (numbers_in e m left)) (sym k)
    ∙ ap (next_by w s) (sym q)

pub returns-then-w-ge-WORDS : goal.returns-then-w-ge-WORDS
returns-then-w-ge-WORDS c = sym (worded_falls _ _ _ _ _ (placed_past _ _ _ c.word-w.ensures c.if-w-ge-WORDS.true))

pub returns-in_default : goal.returns-in_default
returns-in_default c =
    sym (by_numbers _ _ _ _ _ _ _ _ c.word-w.ensures c.if-w-ge-WORDS.false c.count.ensures c.numbers.ensures ∙ ap (next_by _ _) c.in_default.is)

pub returns : goal.returns
returns c = sym (by_numbers _ _ _ _ _ _ _ _ c.word-w.ensures c.if-w-ge-WORDS.false c.count.ensures c.numbers.ensures ∙ ap (next_by _ _) c.in-Some.is)
