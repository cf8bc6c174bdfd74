-- Laws of seeking a field among the words, one after the other: the words that are left decide, and the parts of a span of words may be sought
-- one behind the other. Assumes nothing.
use Prim.Native.Nat.{ℕ, zero, suc, ◌+◌, ◌-◌, ◌≤◌, ◌<◌}
use mathlib.Core.List.{List, []}
use lib.ListN.{get_or-eq_default}
use mathlib.Core.Path.{◌≡◌, refl, sym, ◌∙◌}
use mathlib.Core.Bool.{Bool, true, false, cond, not, ◌&&◌}
use native.Mathlib.Omega.{arith}
use lib.Dec.{eqb}
use Rattle.std.specs.Prelude.{Option, Some, None, unwrap_or}
use Rattle.lines.specs.Walk.{sought}
use Rattle.lines.proofs.Laws.{and_left, and_right}
use native.Mathlib.Nat.{add-zero, le_refl, sub_self}
use Rattle.lines.specs.Text.{bytes, same, words, row_of, word_count, no_row}
use Rattle.words.specs.Seek.{seek}

-- THE WORDS that are left, from a on and before b
module _ (f : List ℕ) (a b : ℕ) where
  pub seek_end : b ≤ a → seek f a (b - a) ≡ None
  unfolding seek
  seek_end h = let z : b - a ≡ 0 = omega arith in rw z

  module _ (h : a < b) where
    less : b - a ≡ suc (b - (a + 1))
    less = omega arith

    pub seek_here : same f (bytes (row_of a).word) ≡ true → seek f a (b - a) ≡ Some a
    unfolding seek
    seek_here t = rw (less, t)

    pub seek_on : same f (bytes (row_of a).word) ≡ false → seek f a (b - a) ≡ seek f (a + 1) (b - (a + 1))
    unfolding seek
    seek_on t = rw (less, t) (let s : suc a ≡ a + 1 = omega arith in rw s)

pub ruleset one_by_one = (seek_end, seek_here, seek_on)

-- BEHIND so many fields: each of the n words from a on stands there
unfoldable pub stand : ℕ → ℕ → ℕ → Bool
stand b a zero = true
stand b a (suc n) = eqb b (row_of a).behind && stand b (suc a) n

-- and none of them does
unfoldable pub stand_apart : ℕ → ℕ → ℕ → Bool
stand_apart b a zero = true
stand_apart b a (suc n) = not (eqb b (row_of a).behind) && stand_apart b (suc a) n

-- words that stand there are sought: they are the first of the k, and the others decide where none of them is the field
module _ (b : ℕ) (f : List ℕ) where
  pub sought_first : (a n k w : ℕ) {r : Option ℕ} → stand b a n ≡ true → n ≤ k → r ≡ seek f a n → r ≡ Some w → w ≡ sought b f a k
  unfolding seek sought stand
  sought_first a zero k w t h e g = let z : None ≡ Some w = sym e ∙ g in cc
  sought_first a (suc n) zero w t h e g = absurd (omega arith)
  sought_first a (suc n) (suc k) w t h e g =
      go (eqb b (row_of a).behind) (same f (bytes (row_of a).word)) (and_left (eqb b (row_of a).behind) _ t) (sym e ∙ g)
      (λ i. sought_first (suc a) n k w (and_right (eqb b (row_of a).behind) _ t) (omega arith) refl i)
    where
      go : (u v : Bool) → u ≡ true → cond v (Some a) (seek f (suc a) n) ≡ Some w → (seek f (suc a) n ≡ Some w → w ≡ sought b f (suc a) k)
          → w ≡ cond (u && v) a (sought b f (suc a) k)
      go true true p i j = cc
      go true false p i j = j i
      go false v p i j = cc

  pub sought_behind : (a n k q : ℕ) {r : Option ℕ} → n ≤ k → r ≡ seek f a n → r ≡ None → q ≡ sought b f (a + n) (k - n) → q ≡ sought b f a k
  unfolding seek sought
  sought_behind a zero k q h e g i = let z : k - 0 ≡ k = omega arith in i ∙ rw (add-zero, z)
  sought_behind a (suc n) zero q h e g i = absurd (omega arith)
  sought_behind a (suc n) (suc k) q h e g i =
      let z : a + suc n ≡ suc a + n = omega arith in
      let y : suc k - suc n ≡ k - n = omega arith in
      go (eqb b (row_of a).behind) (same f (bytes (row_of a).word)) (sym e ∙ g)
      (λ j. sought_behind (suc a) n k q (omega arith) refl j (i ∙ rw (z, y)))
    where
      go : (u v : Bool) → cond v (Some a) (seek f (suc a) n) ≡ None → (seek f (suc a) n ≡ None → q ≡ sought b f (suc a) k) → q ≡ cond (u && v) a (sought b f (suc a) k)
      go true true i j = cc
      go true false i j = j i
      go false true i j = cc
      go false false i j = j i

  -- words that do not are passed by
  pub sought_past : (a n k q : ℕ) → stand_apart b a n ≡ true → n ≤ k → q ≡ sought b f (a + n) (k - n) → q ≡ sought b f a k
  unfolding sought stand_apart
  sought_past a zero k q t h i = let z : k - 0 ≡ k = omega arith in i ∙ rw (add-zero, z)
  sought_past a (suc n) zero q t h i = absurd (omega arith)
  sought_past a (suc n) (suc k) q t h i =
      let z : a + suc n ≡ suc a + n = omega arith in
      let y : suc k - suc n ≡ k - n = omega arith in
      go (eqb b (row_of a).behind) (and_left (not (eqb b (row_of a).behind)) _ t)
      (sought_past (suc a) n k q (and_right (not (eqb b (row_of a).behind)) _ t) (omega arith) (i ∙ rw (z, y)))
    where
      go : (u : Bool) → not u ≡ true → q ≡ sought b f (suc a) k → q ≡ cond (u && same f (bytes (row_of a).word)) a (sought b f (suc a) k)
      go true p j = cc
      go false p j = j

  -- the words that stand there are all
  pub sought_all : (a n u : ℕ) {r : Option ℕ} → stand b a n ≡ true → r ≡ seek f a n → u ≡ unwrap_or r word_count → u ≡ sought b f a n
  unfolding sought
  sought_all a n u {r = None} t e g =
      let z : n - n ≡ 0 = sub_self n in
      sought_behind a n n u (le_refl n) e refl (g ∙ rw z)
  sought_all a n u {r = Some w} t e g = g ∙ sought_first a n n w t (le_refl n) e refl

-- SPELLING the word of number w, which is k; and past the words no bytes
pub spells : (w k : ℕ) (s : List ℕ) → w ≡ k → s ≡ bytes (row_of k).word → s ≡ bytes (row_of w).word
spells w k s e h = rw e h

pub spells_none : (w : ℕ) → word_count ≤ w → [] ≡ bytes (row_of w).word
unfolding words row_of
spells_none w h = rw (get_or-eq_default words no_row h)
