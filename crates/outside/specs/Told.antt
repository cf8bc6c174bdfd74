-- A verdict as one number, for callers in other languages.
-- Assumes nothing.
use Rattle.std.specs.Prelude.{ℕ, ◌+◌, ◌*◌, ◌%◌}
use Rattle.alc.specs.Verdict.{Verdict, proved, refuted, refused, number, line}

-- the word: 0 `proved`, 1 `refuted`, 2 `refused`
abbrev pub told : Verdict → ℕ
told (proved n) = 0
told (refuted n) = 1
told (refused k n) = 2

-- from the lowest bits up: 8 of the word, 8 of the number, 32 of the line. No text that is read has more lines than they hold
abbrev pub packed_by : ℕ → ℕ → ℕ → ℕ
packed_by w k n = n % 4294967296 * 65536 + k * 256 + w

-- a verdict as one number
abbrev pub packed : Verdict → ℕ
packed v = packed_by (told v) (number v) (line v)
