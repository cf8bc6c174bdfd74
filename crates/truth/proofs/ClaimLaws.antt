-- Where a name is: at one of n elements, placed or not, if the placed names are and there is an element.
-- Assumes nothing.
use Prim.Native.Nat.{ℕ, ◌≤◌, ◌<◌}
use native.Mathlib.Omega.{arith}
use mathlib.Core.Bool.{true, not, false≢true}
use mathlib.Core.List.{List, [], ◌∷◌}
use mathlib.Core.Path.{◌≡◌}
use lib.Dec.{ltb}
use lib.ListN.{get_or}
use borrow.Author.Tests.{ltb-true}
use Rattle.alc.specs.Lists.{All, every, is_empty}
use Rattle.alc.proofs.Logic.{both_true}
use Rattle.models.specs.Arrays.{Inside, seats_of}
use Rattle.models.specs.Shown.{seat_of, is_seated}
use Rattle.models.specs.declared.Model.{Model}

pub seat_low : (m : Model) (n : ℕ) → 1 ≤ n → Inside n m.places → (a : ℕ) → seat_of m a < n
seat_low m n least inside a = go (seats_of m.places a) (inside a)
  where
    go : (ds : List ℕ) → every (λ d. ltb d n) ds ≡ true → get_or ds 0 0 < n
    go [] h = least
    go (d ∷ ds) h = ltb-true d n (both_true (ltb d n) (every (λ e. ltb e n) ds) h).0

-- a placed name is at one of the elements
pub placed_low : (n : ℕ) (m : Model) (a : ℕ) → All (λ d. d < n) (seats_of m.places a) → is_seated m a ≡ true → seat_of m a < n
placed_low n m a = go (seats_of m.places a)
  where
    go : (ds : List ℕ) → All (λ d. d < n) ds → not (is_empty ds) ≡ true → get_or ds 0 0 < n
    go [] h p = absurd (false≢true p)
    go (d ∷ ds) h p = h.0

-- so it can be looked for in a set
pub seat_in_set : (m : Model) → Inside m.size.count m.places → (a : ℕ) → seat_of m a < 32
seat_in_set m inside a = omega (arith, seat_low m m.size.count m.size.sized.least inside a, m.size.sized.most)
