-- The rules of the slides, read from the conclusion up: a goal g, a step, and the premises that are left to prove. The slides have multisets, here are
-- lists: a claim is taken from its first place, and new ones come last.
-- Assumes nothing.
use Rattle.std.specs.Prelude.{ℕ, true, List, [], ◌∷◌, ◌++◌, ◌≢◌, ◌≡◌}
use Rattle.alc.specs.Lists.{All}
use Rattle.alc.specs.Table.{Table, Kind, is_a}
use Rattle.alc.specs.Claims.{Claim, is, sub, link, Sided, left, right, Goal, claim, has, without}
use Rattle.alc.specs.Rules
use Rattle.alc.specs.Rules.{Step, first, second, role_of, inner}

infixl 80 ◌−◌
infixl 75 ◌⊕◌
infixl 30 ◌∋◌
infixl 30 ◌∉◌
-- the goal has the claim
abbrev pub ◌∋◌ : Goal → Sided → Type 0
g ∋ s = has g s ≡ true

-- the goal without its first copy of the claim
abbrev pub ◌−◌ : Goal → Sided → Goal
g − s = without s g

-- the new claims come last
abbrev pub ◌⊕◌ : Goal → List Sided → Goal
g ⊕ l = g ++ l

-- the claim is no `is` or `link` of name b
abbrev pub Avoids : ℕ → Claim → Type 0
Avoids b (is a i) = a ≢ b
Avoids b (sub i j) = Unit {0}
Avoids b (link r a c) = (a ≢ b) × (c ≢ b)

-- the name is new: in no `is` or `link` of the goal, on either side
abbrev pub ◌∉◌ : ℕ → Goal → Type 0
b ∉ g = All (λ s. Avoids b (claim s)) g

-- line i of the table is of this kind
abbrev pub Is : Table → ℕ → Kind → Type 0
Is T i k = is_a T i k ≡ true

-- `Rule T g s ps`: with the table T, step s at goal g leaves the premises ps
pub data Rule (T : Table) (g : Goal) : Step → List Goal → Type 0 where
  id : (a i : ℕ) → Is T i Kind.atom → g ∋ left (is a i) → g ∋ right (is a i) → Rule T g (Rules.id a i) []
  id_sub : (i j : ℕ) → g ∋ left (sub i j) → g ∋ right (sub i j) → Rule T g (Rules.id_sub i j) []
  id_link : (r a b : ℕ) → g ∋ left (link r a b) → g ∋ right (link r a b) → Rule T g (Rules.id_link r a b) []
  bot_l : (a i : ℕ) → Is T i Kind.bot → g ∋ left (is a i) → Rule T g (Rules.bot_l a i) []
  top_r : (a i : ℕ) → Is T i Kind.top → g ∋ right (is a i) → Rule T g (Rules.top_r a i) []
  top_l : (a i : ℕ) → Is T i Kind.top → Rule T g (Rules.top_l a i) (g ⊕ (left (is a i) ∷ []) ∷ [])
  bot_r : (a i : ℕ) → Is T i Kind.bot → Rule T g (Rules.bot_r a i) (g ⊕ (right (is a i) ∷ []) ∷ [])
  not_l : (a i : ℕ) → Is T i Kind.not → g ∋ left (is a i) → Rule T g (Rules.not_l a i) (g − left (is a i) ⊕ (right (is a (first T i)) ∷ []) ∷ [])
  not_r : (a i : ℕ) → Is T i Kind.not → g ∋ right (is a i) → Rule T g (Rules.not_r a i) (g − right (is a i) ⊕ (left (is a (first T i)) ∷ []) ∷ [])
  and_l : (a i : ℕ) → Is T i Kind.and → g ∋ left (is a i)
      → Rule T g (Rules.and_l a i) (g − left (is a i) ⊕ (left (is a (first T i)) ∷ left (is a (second T i)) ∷ []) ∷ [])
  and_r : (a i : ℕ) → Is T i Kind.and → g ∋ right (is a i)
      → Rule T g (Rules.and_r a i) (g − right (is a i) ⊕ (right (is a (first T i)) ∷ []) ∷ g − right (is a i) ⊕ (right (is a (second T i)) ∷ []) ∷ [])
  or_l : (a i : ℕ) → Is T i Kind.or → g ∋ left (is a i)
      → Rule T g (Rules.or_l a i) (g − left (is a i) ⊕ (left (is a (first T i)) ∷ []) ∷ g − left (is a i) ⊕ (left (is a (second T i)) ∷ []) ∷ [])
  or_r : (a i : ℕ) → Is T i Kind.or → g ∋ right (is a i)
      → Rule T g (Rules.or_r a i) (g − right (is a i) ⊕ (right (is a (first T i)) ∷ right (is a (second T i)) ∷ []) ∷ [])
  sub_l : (a i j : ℕ) → g ∋ left (sub i j) → g ∋ left (is a i) → Rule T g (Rules.sub_l a i j) (g ⊕ (left (is a j) ∷ []) ∷ [])
  sub_r : (i j b : ℕ) → g ∋ right (sub i j) → b ∉ g → Rule T g (Rules.sub_r i j b) (g − right (sub i j) ⊕ (left (is b i) ∷ right (is b j) ∷ []) ∷ [])
  some_l : (a i b : ℕ) → Is T i Kind.some → g ∋ left (is a i) → b ∉ g
      → Rule T g (Rules.some_l a i b) (g − left (is a i) ⊕ (left (link (role_of T i) a b) ∷ left (is b (inner T i)) ∷ []) ∷ [])
  some_r : (a i b : ℕ) → Is T i Kind.some → g ∋ right (is a i) → g ∋ left (link (role_of T i) a b)
      → Rule T g (Rules.some_r a i b) (g ⊕ (right (is b (inner T i)) ∷ []) ∷ [])
  all_l : (a i b : ℕ) → Is T i Kind.all → g ∋ left (is a i) → g ∋ left (link (role_of T i) a b)
      → Rule T g (Rules.all_l a i b) (g ⊕ (left (is b (inner T i)) ∷ []) ∷ [])
  all_r : (a i b : ℕ) → Is T i Kind.all → g ∋ right (is a i) → b ∉ g
      → Rule T g (Rules.all_r a i b) (g − right (is a i) ⊕ (left (link (role_of T i) a b) ∷ right (is b (inner T i)) ∷ []) ∷ [])
