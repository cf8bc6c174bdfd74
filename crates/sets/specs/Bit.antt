-- A set of elements as the bits of a number, and the sizes that 32 bits have room for.
-- Assumes nothing.
use Rattle.std.specs.Prelude.{ℕ, ◌/◌, ◌%◌, ◌^◌, ◌≤◌, Bool, ◌&&◌, eqb}
use Rattle.alc.specs.Meaning.{some_below}

-- element d is in the set x
unfoldable pub bit : ℕ → ℕ → Bool
bit x d = eqb (x / 2 ^ d % 2) 1

-- two sets of 32 bits have an element in common
unfoldable pub common : ℕ → ℕ → Bool
common x y = some_below 32 (λ e. bit x e && bit y e)

-- 1 to 32 elements
pub record Sized (n : ℕ) : Type 0 where
  pub least : 1 ≤ n
  pub most : n ≤ 32
