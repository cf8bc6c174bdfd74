-- Goals in the room, as lists: which records the room has once a goal is stored, and which goal is fetched from it.
-- Assumes nothing.
use Rattle.std.specs.Prelude.{ℕ, ◌+◌, List, ◌++◌, take, drop, replicate}
use Rattle.alc.specs.Shown.{blank}
use Rattle.alc.specs.declared.Claim.{Claim}
use Rattle.alc.specs.declared.Goal.{Goal}

-- the records of a goal that has none. No abbreviation: they are not to be written out
unfoldable pub blanks : List Claim
blanks = replicate 64 blank

-- the first n of the records cs are stored in the room l, from base on
abbrev pub stored : List Claim → ℕ → List Claim → ℕ → List Claim
stored l base cs n = take base l ++ take n cs ++ drop (base + n) l

-- sixty-four records, of which the first n are those of the room l from base on
abbrev pub fetched : List Claim → ℕ → ℕ → List Claim
fetched l base n = take n (drop base l) ++ drop n blanks

-- the goal of the first n of these records
abbrev pub goal_of : List Claim → ℕ → Goal
goal_of cs n = record { claims = cs; count = n }
