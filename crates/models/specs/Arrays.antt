-- What the arrays of a model show: where the names are, and which elements are in an atom or a role.
-- Assumes nothing.
use Rattle.std.specs.Prelude.{ℕ, ◌+◌, ◌*◌, Bool, true, ◌&&◌, List, [], ◌∷◌, ◌≡◌, ltb, get_or, Option, Some, None}
use Rattle.alc.specs.Lists.{every}
use Rattle.alc.specs.declared.Element.{Element}
use Rattle.sets.specs.Bit.{bit}

-- (d, e) is in role r: the successors of d by r are the set at 32 r + d. No element is at or past 32
unfoldable pub edge_in : List ℕ → ℕ → ℕ → ℕ → Bool
edge_in edges r d e = ltb d 32 && bit (get_or edges (r * 32 + d) 0) e

-- d is in atom A: the elements of A are the set at A
unfoldable pub atom_in : List ℕ → ℕ → ℕ → Bool
atom_in atoms A d = bit (get_or atoms A 0) d

-- nowhere or at one element
abbrev pub seats : Option Element → List ℕ
seats None = []
seats (Some d) = d.0 ∷ []

-- where name a is: nowhere or at one element
unfoldable pub seats_of : List (Option Element) → ℕ → List ℕ
seats_of places a = seats (get_or places a None)

-- each name that is placed is at one of n elements
abbrev pub Inside : ℕ → List (Option Element) → Type 0
Inside n places = (a : ℕ) → every (λ d. ltb d n) (seats_of places a) ≡ true
