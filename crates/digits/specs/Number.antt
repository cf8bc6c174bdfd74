-- What the functions find of a field as a number, said by the definitions of `Text`.
use Rattle.std.specs.Prelude.{ℕ, ◌+◌, List, cond, length, Option, Some, None}
use Rattle.lines.specs.Text.{value, is_number}
use Rattle.lines.specs.Walk.{field_of}

-- the field that xs begins with as a number, and where it ends, if xs begins at `at`
unfoldable pub number_in : ℕ → List ℕ → Option (ℕ × ℕ)
number_in at xs = cond (is_number (field_of xs)) (Some (value (field_of xs), at + length (field_of xs))) None
