-- The fields of what a line says, and what each is a number of.
-- Assumes nothing.
use Rattle.std.specs.Prelude.{ℕ, List, [], ◌∷◌, ◌++◌, map, get_or}
use Rattle.alc.specs.Ranges as Ranges
use Rattle.alc.specs.Ranges.{Field, role, atom, name, element}
use Rattle.alc.specs.Table.{entry_fields}
use Rattle.parts.specs.declared.Field.{Field as Kind}
use Rattle.parts.specs.declared.Field.TheVariants.{Unsaid, Role, Atom, Name, Element, Size, Concept}
use Rattle.alc.specs.Claims as Claims
use Rattle.alc.specs.Rules.{step_fields}
use Rattle.alc.specs.Model.{fact_fields}
use Rattle.alc.specs.Dossier.{Said, concept, claim, proof, model, step, size, fact, unread, sayings}

-- the fields of what is said, in the order of the file
abbrev pub said_fields : Said → List Field
said_fields (concept e) = entry_fields e
said_fields (claim s) = Claims.claim_fields (Claims.claim s)
said_fields proof = []
said_fields model = []
said_fields (step s) = step_fields s
said_fields (size n) = Ranges.size n ∷ []
said_fields (fact f) = fact_fields f
said_fields unread = []

-- what a field is a number of
abbrev pub kind_of : Field → Kind
kind_of (role n) = Role
kind_of (atom n) = Atom
kind_of (name n) = Name
kind_of (element n) = Element
kind_of (Ranges.size n) = Size
kind_of (Ranges.concept n) = Concept

-- the field of a kind and a number, where it is said
unfoldable pub field_by : Kind → ℕ → List Field
field_by Unsaid n = []
field_by Role n = role n ∷ []
field_by Atom n = atom n ∷ []
field_by Name n = name n ∷ []
field_by Element n = element n ∷ []
field_by Size n = Ranges.size n ∷ []
field_by Concept n = Ranges.concept n ∷ []

-- the fields of three kinds, with the numbers x, y and z
abbrev pub fields_by : Kind → Kind → Kind → ℕ → ℕ → ℕ → List Field
fields_by a b c x y z = field_by a x ++ (field_by b y ++ field_by c z)

-- the kinds of a word's fields
unfoldable pub kinds_at : ℕ → List Kind
kinds_at w = map kind_of (said_fields (get_or (sayings 0 0 0 0) w unread))
