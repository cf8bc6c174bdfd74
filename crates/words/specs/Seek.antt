-- What the search for a field among the words finds, said by the definitions of `Text`.
use Rattle.std.specs.Prelude.{ℕ, zero, suc, List, Option, Some, None, cond}
use Rattle.lines.specs.Text.{bytes, same, row_of}

-- the number of the first of the n words from a on whose bytes the field f is, whatever stands before it
unfoldable pub seek : List ℕ → ℕ → ℕ → Option ℕ
seek f a zero = None
seek f a (suc n) = cond (same f (bytes (row_of a).word)) (Some a) (seek f (suc a) n)
