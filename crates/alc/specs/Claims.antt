-- Claims, goals, and when they hold.
-- Assumes nothing.
use Rattle.std.specs.Prelude.{ℕ, Bool, true, not, cond, ◌||◌, List, [], ◌∷◌, ◌≡◌}
use Rattle.std.proofs.Math.Decide.{ℕ_discrete}
use Rattle.std.proofs.Math.Bool.{decide}
use Rattle.alc.specs.Lists.{any}
use Rattle.alc.specs.Ranges.{Field, role, name, concept, names_in}
use Rattle.alc.specs.Meaning.{Interp, Placed, member, every_below}
use Rattle.alc.specs.Table.{Table, tree_of}

-- `is a i`: name a is in concept i. `sub i j`: i is included in j. `link r a b`: (a, b) is in role r
pub data Claim : Type 0 where
  is sub : ℕ → ℕ → Claim
  link : ℕ → ℕ → ℕ → Claim
  deriving Discrete as Claim-discrete

-- a claim on the left or on the right of the sequent
pub data Sided : Type 0 where
  left right : Claim → Sided
  deriving Discrete as Sided-discrete

-- the claims on left and right, in order
abbrev pub Goal : Type 0
Goal = List Sided

-- the claim without its side
abbrev pub claim : Sided → Claim
claim (left c) = c
claim (right c) = c

-- a claim's fields, in the order of the file
abbrev pub claim_fields : Claim → List Field
claim_fields (is a i) = name a ∷ concept i ∷ []
claim_fields (sub i j) = concept i ∷ concept j ∷ []
claim_fields (link r a b) = role r ∷ name a ∷ name b ∷ []

-- the names in a claim: those of an `is` or a `link`
abbrev pub names : Claim → List ℕ
names c = names_in (claim_fields c)

-- the same claim on the same side
abbrev pub same : Sided → Sided → Bool
same s t = decide (Sided-discrete (Claim-discrete ℕ_discrete) s t)

-- the goal has the claim
abbrev pub has : Goal → Sided → Bool
has g s = any (λ t. same s t) g

-- the goal without its first copy of s
abbrev pub without : Sided → Goal → Goal
without s [] = []
without s (t ∷ g) = cond (same s t) g (t ∷ without s g)

-- the claim is true in the interpretation
unfoldable pub truth : Table → Interp → Claim → Bool
truth T I (is a i) = member I.world (tree_of T i) (I.place a)
truth T I (sub i j) = every_below I.world.size (λ d. not (member I.world (tree_of T i) d) || member I.world (tree_of T j) d)
truth T I (link r a b) = I.world.roles r (I.place a) (I.place b)

-- the sequent holds by this claim: a left claim that is false, a right claim that is true
abbrev pub holds_by : Table → Interp → Sided → Bool
holds_by T I (left c) = not (truth T I c)
holds_by T I (right c) = truth T I c

-- some left claim is false or some right claim is true
abbrev pub holds : Table → Interp → Goal → Bool
holds T I g = any (holds_by T I) g

-- the sequent holds in every interpretation, of any size from 1 on, however the names are placed
abbrev pub Valid : Table → Goal → Type 0
Valid T g = (I : Interp) → Placed I → holds T I g ≡ true
