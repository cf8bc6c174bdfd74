-- What a model of the code shows: a world, where the names are, an interpretation. What a line of the model makes of them. The ranges that the
-- numbers are asked to be in.
-- Assumes nothing.
use Rattle.std.specs.Prelude.{ℕ, ◌≤◌, ◌<◌, Bool, not, cond, ◌&&◌, ◌||◌, List, [], ◌∷◌, ◌≡◌, eqb, get_or}
use Rattle.alc.specs.Lists.{All, every, is_empty}
use Rattle.alc.specs.Ranges.{Field, role, atom, name, element, size, concept}
use Rattle.alc.specs.Meaning.{World, Interp}
use Rattle.alc.specs.Claims.{Sided, claim, claim_fields, names}
use Rattle.alc.specs.Shown.{claims_in}
use Rattle.alc.specs.declared.Goal.{Goal as Records}
use Rattle.models.specs.Arrays.{atom_in, edge_in, seats_of}
use Rattle.models.specs.declared.Model.{Model}

-- the world of the model's elements
abbrev pub world_of : Model → World
world_of m = record { size = m.size.count; atoms = atom_in m.atoms; roles = edge_in m.edges }

-- the element at which name a is placed; 0 where it is not
abbrev pub seat_of : Model → ℕ → ℕ
seat_of m a = get_or (seats_of m.places a) 0 0

-- name a is placed
abbrev pub is_seated : Model → ℕ → Bool
is_seated m a = not (is_empty (seats_of m.places a))

-- the interpretation that the model is
abbrev pub interp_shown : Model → Interp
interp_shown m = record { world = world_of m; place = seat_of m }

-- every name in the claims is placed
abbrev pub all_seated : Model → List Sided → Bool
all_seated m cs = every (λ s. every (is_seated m) (names (claim s))) cs

-- the same world, and d in A besides
abbrev pub with_atom : World → ℕ → ℕ → World
with_atom W A d = record { size = W.size; atoms = λ B e. W.atoms B e || (eqb A B && eqb d e); roles = W.roles }

-- the same world, and (d, e) in r besides
abbrev pub with_edge : World → ℕ → ℕ → ℕ → World
with_edge W r d e = record { size = W.size; atoms = W.atoms; roles = λ s f g. W.roles s f g || (eqb r s && (eqb d f && eqb e g)) }

-- `name a d`: the answer says whether the name was free. Where it was it is at d, every other name is where it was, and the world is the same
pub record PlaceSet (old new : Model) (a d : ℕ) (free : Bool) : Type 0 where
  pub answer : free ≡ not (is_seated old a)
  pub seats : (b : ℕ) → seats_of new.places b ≡ cond (free && eqb b a) (d ∷ []) (seats_of old.places b)
  pub world : world_of new ≡ world_of old

-- `has A d`: the answer says whether it is new. It holds afterwards, and nothing else has changed
pub record AtomSet (old new : Model) (A d : ℕ) (fresh : Bool) : Type 0 where
  pub answer : fresh ≡ not ((world_of old).atoms A d)
  pub seats : (b : ℕ) → seats_of new.places b ≡ seats_of old.places b
  pub world : world_of new ≡ with_atom (world_of old) A d

-- `edge r d e`, likewise
pub record EdgeSet (old new : Model) (r d e : ℕ) (fresh : Bool) : Type 0 where
  pub answer : fresh ≡ not ((world_of old).roles r d e)
  pub seats : (b : ℕ) → seats_of new.places b ≡ seats_of old.places b
  pub world : world_of new ≡ with_edge (world_of old) r d e

-- the number is in its range, with n lines in the table and k elements (`in_range` as a fact)
abbrev pub Below : ℕ → ℕ → Field → Type 0
Below n k (role r) = r < 16
Below n k (atom A) = A < 64
Below n k (name a) = a < 64
Below n k (element d) = d < k
Below n k (size m) = (1 ≤ m) × (m ≤ 32)
Below n k (concept i) = i < n

-- up to 64 claims, with their numbers in range of a table of n lines
pub record Claimed (n : ℕ) (g : Records) : Type 0 where
  pub few : g.count ≤ 64
  pub numbers : All (λ s. All (Below n 0) (claim_fields (claim s))) (claims_in g)
