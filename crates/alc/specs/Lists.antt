-- Lists: tests of every element and of some element, and where the first is that passes.
-- Assumes nothing.
use Rattle.std.specs.Prelude.{ℕ, suc, Bool, true, false, not, cond, ◌&&◌, ◌||◌, List, [], ◌∷◌, eqb}
-- every element passes the test
pub use Rattle.lines.specs.Text.{every}

module _ {A : Type 0} where
  -- P holds of every element
  abbrev pub All : (A → Type 0) → List A → Type 0
  All P [] = Unit {0}
  All P (x ∷ xs) = P x × All P xs

  -- some element passes the test
  abbrev pub any : (A → Bool) → List A → Bool
  any p [] = false
  any p (x ∷ xs) = p x || any p xs

  -- where the first element is that passes, counted from 0; the length where none does
  abbrev pub first_at : (A → Bool) → List A → ℕ
  first_at p [] = 0
  first_at p (x ∷ xs) = cond (p x) 0 (suc (first_at p xs))

  -- there is no element
  abbrev pub is_empty : List A → Bool
  is_empty [] = true
  is_empty (x ∷ xs) = false

-- the number stands in the list
abbrev pub elem : ℕ → List ℕ → Bool
elem a bs = any (λ b. eqb a b) bs

-- no number stands twice
abbrev pub distinct : List ℕ → Bool
distinct [] = true
distinct (a ∷ bs) = not (elem a bs) && distinct bs
