-- A claim's truth, read off the set of each concept, the places and the edges.
-- Assumes nothing.
use Rattle.std.specs.Prelude.{ℕ, Bool, not, ◌||◌, List, get_or}
use Rattle.alc.specs.Meaning.{Interp, every_below}
use Rattle.alc.specs.Claims.{Claim, is, sub, link, Sided, left, right}
use Rattle.sets.specs.Bit.{bit}

-- a claim is true in the interpretation, with these sets of the concepts
abbrev pub truth_in : List ℕ → Interp → Claim → Bool
truth_in ext I (is a i) = bit (get_or ext i 0) (I.place a)
truth_in ext I (sub i j) = every_below I.world.size (λ d. not (bit (get_or ext i 0) d) || bit (get_or ext j 0) d)
truth_in ext I (link r a b) = I.world.roles r (I.place a) (I.place b)

-- a left claim that is false, a right claim that is true
abbrev pub wrong_in : List ℕ → Interp → Sided → Bool
wrong_in ext I (left c) = not (truth_in ext I c)
wrong_in ext I (right c) = truth_in ext I c
