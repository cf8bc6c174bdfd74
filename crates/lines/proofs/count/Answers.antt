-- `lines::count` meets its contract: tried word by word in the table, each arm has the words of its count. Assumes nothing.
use Prim.Native.Nat.{ℕ, ◌≤◌, ◌<◌, zero-le}
use mathlib.Core.Path.{◌≡◌, refl, sym}
use mathlib.Core.Logic.{inl, inr}
use mathlib.Core.Bool.{Bool, true, not, ◌||◌}
use native.Mathlib.Omega.{arith}
use lib.Dec.{eqb}
use borrow.Author.Tests.{eqb-true, ne_eqb}
use Rattle.lines.specs.Text.{words, word_count, row_of, row_index}
use Rattle.lines.specs.Walk.{within, number_of}
use Rattle.lines.proofs.Words.{all_below, below, within_is}
use Rattle.lines.proofs.count.Goals as goal

-- the words that an arm names by themselves
abbrev size : ℕ
size = number_of "size"

abbrev link : ℕ
link = number_of "link"

abbrev id_link : ℕ
id_link = number_of "id-link"

abbrev edge : ℕ
edge = number_of "edge"

-- of the others, those from a on, before b, take n numbers: a test of all words
test : ℕ → ℕ → ℕ → ℕ → Bool
test n a b k = (eqb k size || (eqb k link || (eqb k id_link || eqb k edge))) || (not (within a b k) || eqb (row_of k).count n)

takes : (n a b w : ℕ) → all_below (test n a b) word_count ≡ true → w < word_count → (w ≡ size → ⊥) → (w ≡ link → ⊥) → (w ≡ id_link → ⊥) → (w ≡ edge → ⊥) → a ≤ w → w < b → n ≡ (row_of w).count
unfolding test
takes n a b w t h p q r s l g = sym (eqb-true (row_of w).count n (go (below (test n a b) word_count t w h)))
  where
    go : test n a b w ≡ true → eqb (row_of w).count n ≡ true
    go e = rw (ne_eqb w size p, ne_eqb w link q, ne_eqb w id_link r, ne_eqb w edge s, within_is a b w l g) at e

pub returns-in_default : goal.returns-in_default
unfolding words row_of row_index test
returns-in_default c = takes 2 4 10 c.args.w refl c.requires (λ e. grind arith) (λ e. grind arith) (λ e. grind arith) (λ e. grind arith) (omega arith) (omega arith)

pub returns-in_default-2 : goal.returns-in_default-2
unfolding words row_of row_index test
returns-in_default-2 c = takes 2 13 26 c.args.w refl c.requires (λ e. grind arith) (λ e. grind arith) (λ e. grind arith) (λ e. grind arith) (omega arith) (omega arith)

pub returns-in_default-3 : goal.returns-in_default-3
unfolding words row_of row_index test
returns-in_default-3 c = takes 2 32 word_count c.args.w refl c.requires (λ e. grind arith) (λ e. grind arith) (λ e. grind arith) (λ e. grind arith) (omega arith) (omega arith)

pub returns-in-0 : goal.returns-in-0
unfolding words row_of row_index test
returns-in-0 c = takes 0 0 2 c.args.w refl c.requires (λ e. grind arith) (λ e. grind arith) (λ e. grind arith) (λ e. grind arith) zero-le (omega arith)

pub returns-in-0-2 : goal.returns-in-0-2
unfolding words row_of row_index test
returns-in-0-2 c = takes 0 10 13 c.args.w refl c.requires (λ e. grind arith) (λ e. grind arith) (λ e. grind arith) (λ e. grind arith) (omega arith) (omega arith)

pub returns-in-10-2 : goal.returns-in-10-2
unfolding words row_of row_index test
returns-in-10-2 c = takes 3 26 32 c.args.w refl c.requires (λ e. grind arith) (λ e. grind arith) (λ e. grind arith) (λ e. grind arith) (omega arith) (omega arith)

pub returns-in-2-2 : goal.returns-in-2-2
unfolding words row_of row_index test
returns-in-2-2 c = takes 1 2 4 c.args.w refl c.requires (λ e. grind arith) (λ e. grind arith) (λ e. grind arith) (λ e. grind arith) (omega arith) (omega arith)

pub returns-in-10 : goal.returns-in-10
unfolding words row_of row_index
returns-in-10 c = elim c.in-10.in-10-own.keys2 [ inl e ↦ rw e | inr o ↦ elim o [ inl e ↦ rw e | inr e ↦ rw e ] ]

pub returns-in-2 : goal.returns-in-2
unfolding words row_of row_index
returns-in-2 c = rw c.in-2.is
