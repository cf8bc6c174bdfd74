-- What the functions find of the numbers of a line, said by the definitions of `Text`.
use Rattle.std.specs.Prelude.{ℕ, ◌+◌, List, [], Bool, true, false, cond, ◌&&◌, length, get_or, drop, eqb, Option, Some, None}
use Rattle.lines.specs.Text.{value, numbered}
use Rattle.lines.specs.Walk.{field_of, line_of, ended, opens, fields_behind}
use Rattle.digits.specs.Number.{number_in}
use Rattle.numbers.specs.declared.Values.{Values}

-- the values of these fields, with the position behind the line, if it is well formed
abbrev pub nums_by : Bool → List (List ℕ) → ℕ → Option Values
nums_by true fs next = Some (record { n0 = value (get_or fs 0 []); n1 = value (get_or fs 1 []); n2 = value (get_or fs 2 []); n3 = value (get_or fs 3 []); next = next })
nums_by false fs next = None

-- that line, where a field ends at `at`: n numbers follow and then byte 10; with the position behind it
unfoldable pub numbers_in : ℕ → ℕ → List ℕ → Option Values
numbers_in at n xs = nums_by (ended xs && (eqb (length (field_of xs)) 0 && numbered n (fields_behind xs))) (fields_behind xs) (at + length (line_of xs) + 1)

-- the number behind the byte 9 that stands at `at`
unfoldable pub number_at : List ℕ → ℕ → Option (ℕ × ℕ)
number_at text at = cond (opens 9 (drop at text)) (number_in (at + 1) (drop (at + 1) text)) None

-- that number where one is wanted, else 0, which ends where it begins
unfoldable pub next_at : Bool → List ℕ → ℕ → Option (ℕ × ℕ)
next_at wanted text at = cond wanted (number_at text at) (Some (0, at))

-- a number before the others
abbrev pub led : ℕ → Option Values → Option Values
led v None = None
led v (Some r) = Some (record { n0 = v; n1 = r.n0; n2 = r.n1; n3 = r.n2; next = r.next })

-- the position behind the line, of what was found of it
abbrev pub behind : Option Values → Option ℕ
behind None = None
behind (Some r) = Some r.next
