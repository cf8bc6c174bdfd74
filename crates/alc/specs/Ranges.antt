-- The numbers of a line, each of its own kind, and their ranges.
-- Assumes nothing.
use Rattle.std.specs.Prelude.{ℕ, Bool, ◌&&◌, List, [], ◌∷◌, ltb, leb}

-- what a field is a number of
pub data Field : Type 0 where
  role atom name element size concept : ℕ → Field

-- the number is in its range, with `entries` lines in the table so far and `elements` elements in the model. A table line's own number is the count of
-- the lines above it
abbrev pub in_range : ℕ → ℕ → Field → Bool
in_range entries elements (role r) = ltb r 16
in_range entries elements (atom A) = ltb A 64
in_range entries elements (name a) = ltb a 64
in_range entries elements (element d) = ltb d elements
in_range entries elements (size n) = leb 1 n && leb n 32
in_range entries elements (concept i) = ltb i entries

-- the names among the fields
abbrev pub names_in : List Field → List ℕ
names_in [] = []
names_in (role r ∷ fs) = names_in fs
names_in (atom A ∷ fs) = names_in fs
names_in (name a ∷ fs) = a ∷ names_in fs
names_in (element d ∷ fs) = names_in fs
names_in (size n ∷ fs) = names_in fs
names_in (concept i ∷ fs) = names_in fs
