-- A refusal row: its number, and whether the line passes it. The rows of a line are read from the top.
-- Assumes nothing.
use Rattle.std.specs.Prelude.{ℕ, Bool, cond, List, [], ◌∷◌}

-- the number that the row refuses with, and whether the line passes it
pub record Row : Type 0 where
  pub number : ℕ
  pub passed : Bool

-- the row of this number, with this test
abbrev pub row : ℕ → Bool → Row
row n b = record { number = n; passed = b }

-- the number of the first row that is not passed; 0 where all are
abbrev pub refusal : List Row → ℕ
refusal [] = 0
refusal (r ∷ rs) = cond r.passed (refusal rs) r.number
