-- What is known of a line that was read, wherever it stood: its word is one of the table's, and the numbers that its word does not take
-- are 0, since as many fields are numbers as the word takes. Assumes nothing.
use Prim.Native.Nat.{ℕ, suc, ◌+◌, ◌≤◌, ◌<◌}
use mathlib.Core.List.{List, [], ◌∷◌}
use mathlib.Core.Path.{◌≡◌, refl, ap, subst}
use mathlib.Core.Bool.{Bool, true, false, cond, ◌&&◌}
use native.Mathlib.Omega.{arith}
use lib.Dec.{leb}
use lib.ListN.{length, get_or, drop, get_or-eq_default}
use borrow.Author.Tests.{eqb-true, leb-true}
use Rattle.lines.specs.Text.{cut, every, good_byte, value, value_from, is_number, numbered, word_count, row_of, word_of, side_of, behind_of, line_by, item_of, last_of, items_of, lines_of}
use Rattle.lines.specs.declared.Line.{Line}
use Rattle.lines.specs.declared.Item.{Item}
use Rattle.lines.specs.declared.Item.TheVariants.{Says, Wrong}
use Rattle.lines.proofs.Laws.{and_left, and_right}

pub record Told (l : Line) : Type 0 where
  pub known : l.word < word_count
  pub first : (row_of l.word).count ≤ 0 → l.n0 ≡ 0
  pub second : (row_of l.word).count ≤ 1 → l.n1 ≡ 0
  pub third : (row_of l.word).count ≤ 2 → l.n2 ≡ 0

-- a field that is not there is worth 0
none : (fs : List (List ℕ)) (k : ℕ) → length fs ≤ k → value (get_or fs k []) ≡ 0
unfolding value_from
none fs k h = ap value (get_or-eq_default fs [] h)

module _ (good : Bool) (w s : ℕ) (fs : List (List ℕ)) where
  abbrev made : Line
  made = record { word = w; side = s; n0 = value (get_or fs 0 []); n1 = value (get_or fs 1 []); n2 = value (get_or fs 2 []); n3 = value (get_or fs 3 []) }

  made_told : (good && (leb (suc w) word_count && numbered (row_of w).count fs)) ≡ true → Told made
  made_told h =
      let t = and_right good _ h in
      let few : length fs ≡ (row_of w).count = eqb-true (length fs) (row_of w).count (and_left _ (every is_number fs) (and_right (leb (suc w) word_count) _ t)) in
      record {
        known = leb-true (suc w) word_count (and_left (leb (suc w) word_count) _ t);
        first = λ (g : (row_of w).count ≤ 0). none fs 0 (omega arith);
        second = λ (g : (row_of w).count ≤ 1). none fs 1 (omega arith);
        third = λ (g : (row_of w).count ≤ 2). none fs 2 (omega arith);
      }

  line_told : (l : Line) → line_by good w s fs ≡ Says l → Told l
  line_told l e = go (good && (leb (suc w) word_count && numbered (row_of w).count fs)) refl e
    where
      go : (b : Bool) → (good && (leb (suc w) word_count && numbered (row_of w).count fs)) ≡ b → cond b (Says made) Wrong ≡ Says l → Told l
      go true h f = let q : made ≡ l = cc in subst Told q (made_told h)
      go false h f = let z : ◌≡◌ {A = ℕ} 0 1 = cc in absurd (omega arith)

item_told : (p : List ℕ) (l : Line) → item_of p ≡ Says l → Told l
unfolding item_of
item_told p l e =
    let fs = cut 9 p in
    let s = side_of (get_or fs 0 []) in
    line_told (every good_byte p) (word_of (behind_of s) (get_or fs (behind_of s) [])) s (drop (behind_of s + 1) fs) l e

-- a line of a text
pub told : (xs : List ℕ) (l : Line) (is : List Item) → lines_of xs ≡ Says l ∷ is → Told l
unfolding lines_of
told xs l is e = go (cut 10 xs) e
  where
    last : (p : List ℕ) → last_of p ≡ Says l ∷ is → Told l
    last [] f = let z : ◌≡◌ {A = ℕ} 0 1 = cc in absurd (omega arith)
    last (x ∷ p) f = let z : ◌≡◌ {A = ℕ} 0 1 = cc in absurd (omega arith)

    go : (ps : List (List ℕ)) → items_of ps ≡ Says l ∷ is → Told l
    go [] f = let z : ◌≡◌ {A = ℕ} 0 1 = cc in absurd (omega arith)
    go (p ∷ []) f = last p f
    go (p ∷ q ∷ qs) f = let g : item_of p ≡ Says l = cc in item_told p l g
