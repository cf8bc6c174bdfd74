-- The line that is printed for a verdict (document 01, "The judging program"), byte for byte.
-- Assumes nothing.
use Rattle.std.specs.Prelude.{ℕ, zero, suc, ◌+◌, ◌/◌, ◌%◌, true, false, List, [], ◌∷◌, ◌++◌, ltb}
use Rattle.lines.specs.Text.{bytes}
use Rattle.alc.specs.Verdict.{Verdict, word, number, line}

-- the decimal digits of n, with no leading zero; k is a number of digits that are enough
unfoldable pub digits : ℕ → ℕ → List ℕ
digits zero n = []
digits (suc k) n = elim (ltb n 10) [ true ↦ (48 + n) ∷ [] | false ↦ digits k (n / 10) ++ ((48 + n % 10) ∷ []) ]

-- a number in decimal: twenty digits are enough for any number of the machine
abbrev pub decimal : ℕ → List ℕ
decimal n = digits 20 n

-- a word, a number and a line, parted by byte 9 and ended by byte 10
abbrev pub columns : List ℕ → ℕ → ℕ → List ℕ
columns w k n = w ++ (9 ∷ (decimal k ++ (9 ∷ (decimal n ++ (10 ∷ [])))))

-- the line of a verdict
unfoldable pub printed : Verdict → List ℕ
printed v = columns (bytes (word v)) (number v) (line v)
