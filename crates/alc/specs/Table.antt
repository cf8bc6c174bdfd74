-- The concept table. A line is a kind and up to two numbers; it stands for a tree, whose parts are lines above it.
-- Assumes nothing.
use Rattle.std.specs.Prelude.{ℕ, zero, suc, Bool, ◌&&◌, List, [], ◌∷◌, eqb, get_or}
use Rattle.std.proofs.Math.Bool.{decide}
use Rattle.alc.specs.Lists.{any}
use Rattle.alc.specs.Ranges.{Field, role, concept}
use Rattle.alc.specs.Meaning.{Tree}

-- a line's word
pub data Kind : Type 0 where
  top bot atom not and or some all : Kind
  deriving Discrete as Kind-discrete

-- `atom A`: x is A. `not i`: x is i. `and i j`, `or i j`: x is i, y is j. `some r i`, `all r i`: x is r, y is i. What is not said is 0
pub record Entry : Type 0 where
  pub kind : Kind
  pub x : ℕ
  pub y : ℕ

-- the line of this kind, with these numbers
abbrev pub entry_of : Kind → ℕ → ℕ → Entry
entry_of k x y = record { kind = k; x = x; y = y }

-- its lines, the first at 0
abbrev pub Table : Type 0
Table = List Entry

-- line i; past the end it reads as `top`
abbrev pub entry : Table → ℕ → Entry
entry T i = get_or T i (entry_of Kind.top 0 0)

-- line i is of this kind
abbrev pub is_a : Table → ℕ → Kind → Bool
is_a T i k = decide (Kind-discrete (entry T i).kind k)

-- the two lines are equal
abbrev pub same_entry : Entry → Entry → Bool
same_entry e f = decide (Kind-discrete e.kind f.kind) && eqb e.x f.x && eqb e.y f.y

-- the line stands in the table already
abbrev pub stands : Table → Entry → Bool
stands T e = any (same_entry e) T

-- a line's fields, in the order of the file
abbrev pub fields_by : Kind → ℕ → ℕ → List Field
fields_by Kind.top x y = []
fields_by Kind.bot x y = []
fields_by Kind.atom x y = Field.atom x ∷ []
fields_by Kind.not x y = concept x ∷ []
fields_by Kind.and x y = concept x ∷ concept y ∷ []
fields_by Kind.or x y = concept x ∷ concept y ∷ []
fields_by Kind.some x y = role x ∷ concept y ∷ []
fields_by Kind.all x y = role x ∷ concept y ∷ []

-- the same of a line as it stands in the table
abbrev pub entry_fields : Entry → List Field
entry_fields e = fields_by e.kind e.x e.y

-- the tree of a line with these fields, from the trees t of its parts
abbrev pub shape : Kind → ℕ → ℕ → (ℕ → Tree) → Tree
shape Kind.top x y t = Tree.top
shape Kind.bot x y t = Tree.bot
shape Kind.atom x y t = Tree.atom x
shape Kind.not x y t = Tree.neg (t x)
shape Kind.and x y t = Tree.and (t x) (t y)
shape Kind.or x y t = Tree.or (t x) (t y)
shape Kind.some x y t = Tree.some x (t y)
shape Kind.all x y t = Tree.all x (t y)

-- the same of a line as it stands in the table
abbrev pub grow : Entry → (ℕ → Tree) → Tree
grow e t = shape e.kind e.x e.y t

-- the tree of line i, taken `depth` lines deep
unfoldable pub tree_to : ℕ → Table → ℕ → Tree
tree_to zero T i = Tree.bot
tree_to (suc depth) T i = grow (entry T i) (tree_to depth T)

-- the tree of line i: i + 1 lines are deep enough, as each part's number is smaller
unfoldable pub tree_of : Table → ℕ → Tree
tree_of T i = tree_to (suc i) T i
