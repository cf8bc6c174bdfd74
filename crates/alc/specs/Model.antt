-- The model of a dossier: what its lines say, the interpretation that they give, and whether every name of the claims is placed.
-- Assumes nothing.
use Rattle.std.specs.Prelude.{ℕ, Bool, not, cond, List, [], ◌∷◌, ◌++◌, eqb, get_or}
use Rattle.std.proofs.Math.Decide.{ℕ_discrete}
use Rattle.std.proofs.Math.Bool.{decide}
use Rattle.alc.specs.Lists.{any, every, is_empty}
use Rattle.alc.specs.Ranges.{Field, role, atom, name, element}
use Rattle.alc.specs.Meaning.{Interp}
use Rattle.alc.specs.Claims.{Sided, claim, names}

-- `name a d`: name a is at element d. `has A d`: d is in atom A. `edge r d e`: (d, e) is in role r
pub data Fact : Type 0 where
  places has : ℕ → ℕ → Fact
  edge : ℕ → ℕ → ℕ → Fact
  deriving Discrete as Fact-discrete

-- a fact's fields, in the order of the file
abbrev pub fact_fields : Fact → List Field
fact_fields (places a d) = name a ∷ element d ∷ []
fact_fields (has A d) = atom A ∷ element d ∷ []
fact_fields (edge r d e) = role r ∷ element d ∷ element e ∷ []

-- the fact is said
abbrev pub is_said : List Fact → Fact → Bool
is_said fs f = any (λ h. decide (Fact-discrete ℕ_discrete f h)) fs

-- the elements at which name a is placed by a fact
abbrev pub places_of : ℕ → Fact → List ℕ
places_of a (places b d) = cond (eqb a b) (d ∷ []) []
places_of a (has A d) = []
places_of a (edge r d e) = []

-- the same by all the facts: none or one, as no name is placed twice
abbrev pub places_in : List Fact → ℕ → List ℕ
places_in [] a = []
places_in (f ∷ fs) a = places_of a f ++ places_in fs a

-- the name is placed
abbrev pub is_placed : List Fact → ℕ → Bool
is_placed fs a = not (is_empty (places_in fs a))

-- the line repeats what is said: a name placed twice, a `has` or `edge` repeated
abbrev pub repeats : List Fact → Fact → Bool
repeats fs (places a d) = is_placed fs a
repeats fs (has A d) = is_said fs (has A d)
repeats fs (edge r d e) = is_said fs (edge r d e)

-- the interpretation of n elements: what isn't said is false, and a name that isn't placed is at 0, which no claim of a passing dossier sees
abbrev pub interp_of : ℕ → List Fact → Interp
interp_of n fs =
    record {
      world = record { size = n; atoms = λ A d. is_said fs (has A d); roles = λ r d e. is_said fs (edge r d e) };
      place = λ a. get_or (places_in fs a) 0 0;
    }

-- every name in the claims is placed
abbrev pub all_placed : List Fact → List Sided → Bool
all_placed fs cs = every (λ s. every (is_placed fs) (names (claim s))) cs
