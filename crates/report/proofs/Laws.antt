-- The digits of a number are those that the library writes, since both write the front of the number and then its last digit. Assumes nothing.
use Rattle.std.proofs.Common.{◌≡◌, ℕ, ◌^◌, ◌<◌, List, [], ◌∷◌, ◌++◌, arith}
use mathlib.Core.List.{append_assoc}
use Rattle.std.proofs.lemmas.Fmt.{AppendsLastDigit, decimal_from_appends, length-decimal-le}
use Rattle.std.specs.Fmt as Fmt
use borrow.Author.Tests.{lt-ltb, le-ltb}
use Rattle.report.specs.Printed.{digits, decimal, columns}

-- the front of the number, and then its last digit
appends : AppendsLastDigit digits
unfolding digits
appends = record {
  one = λ k n small. rw (lt-ltb n 10 small, digits);
  more = λ k n large. rw (le-ltb n 10 large, digits);
}

-- twenty digits are enough for what a number of 64 bits is
decimal_lem : (n : ℕ) → n < 2 ^ 64 → decimal n ≡ Fmt.decimal n
decimal_lem n small = decimal_from_appends digits appends 20 n small (length-decimal-le 20 n (omega arith) (omega arith) small)

-- the parts of a line, joined one behind the other
pub in_a_row : (w : List ℕ) (k n : ℕ) → k < 2 ^ 64 → n < 2 ^ 64
    → w ++ (9 ∷ []) ++ Fmt.decimal k ++ (9 ∷ []) ++ Fmt.decimal n ++ (10 ∷ []) ≡ columns w k n
in_a_row w k n small low = rw (decimal_lem k small, decimal_lem n low) (simp append_assoc)
