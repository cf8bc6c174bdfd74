-- The eighteen rules, nineteen words: for each step what it asks of the table and of the goal, and what it does.
-- Assumes nothing.
use Rattle.std.specs.Prelude.{ℕ, Bool, true, false, List, [], ◌∷◌}
use Rattle.alc.specs.Ranges.{Field, role, name, concept}
use Rattle.alc.specs.Table.{Table, Kind, entry, is_a}
use Rattle.alc.specs.Claims.{is, sub, link, Sided, left, right}

-- a step's word, with its fields in the order of the file
pub data Step : Type 0 where
  id id_sub : ℕ → ℕ → Step
  id_link : ℕ → ℕ → ℕ → Step
  bot_l top_r top_l bot_r not_l not_r and_l and_r or_l or_r : ℕ → ℕ → Step
  sub_l sub_r some_l some_r all_l all_r : ℕ → ℕ → ℕ → Step

-- the fields, each of its kind
unfoldable pub step_fields : Step → List Field
step_fields (id a i) = name a ∷ concept i ∷ []
step_fields (id_sub i j) = concept i ∷ concept j ∷ []
step_fields (id_link r a b) = role r ∷ name a ∷ name b ∷ []
step_fields (bot_l a i) = name a ∷ concept i ∷ []
step_fields (top_r a i) = name a ∷ concept i ∷ []
step_fields (top_l a i) = name a ∷ concept i ∷ []
step_fields (bot_r a i) = name a ∷ concept i ∷ []
step_fields (not_l a i) = name a ∷ concept i ∷ []
step_fields (not_r a i) = name a ∷ concept i ∷ []
step_fields (and_l a i) = name a ∷ concept i ∷ []
step_fields (and_r a i) = name a ∷ concept i ∷ []
step_fields (or_l a i) = name a ∷ concept i ∷ []
step_fields (or_r a i) = name a ∷ concept i ∷ []
step_fields (sub_l a i j) = name a ∷ concept i ∷ concept j ∷ []
step_fields (sub_r i j b) = concept i ∷ concept j ∷ name b ∷ []
step_fields (some_l a i b) = name a ∷ concept i ∷ name b ∷ []
step_fields (some_r a i b) = name a ∷ concept i ∷ name b ∷ []
step_fields (all_l a i b) = name a ∷ concept i ∷ name b ∷ []
step_fields (all_r a i b) = name a ∷ concept i ∷ name b ∷ []

-- asks: the entry is of the step's kind. needs: claims that the goal has. drops: the first of them is dropped.
-- news: names that must be new. premises: the claims that come last in each premise
pub record Plan : Type 0 where
  pub asks : Bool
  pub needs : List Sided
  pub drops : Bool
  pub news : List ℕ
  pub premises : List (List Sided)

-- a row of the table
abbrev plans : Bool → List Sided → Bool → List ℕ → List (List Sided) → Plan
plans asks needs drops news premises = record { asks = asks; needs = needs; drops = drops; news = news; premises = premises }

-- all claims stay
abbrev keep : Bool
keep = false

-- the first of the claims needed is dropped
abbrev drop : Bool
drop = true

-- no premise: the goal closes
abbrev closes : List (List Sided)
closes = []

-- one premise, with these claims
abbrev adds : List Sided → List (List Sided)
adds l = l ∷ []

-- p of `not p`, `and p q`, `or p q`
abbrev pub first : Table → ℕ → ℕ
first T i = (entry T i).x

-- q of `and p q`, `or p q`
abbrev pub second : Table → ℕ → ℕ
second T i = (entry T i).y

-- r of `some r p`, `all r p`
abbrev pub role_of : Table → ℕ → ℕ
role_of T i = (entry T i).x

-- p of `some r p`, `all r p`
abbrev pub inner : Table → ℕ → ℕ
inner T i = (entry T i).y

-- the table of the rules, a row a word: what the entry is, the claims needed, whether the first of them is dropped, the new name, the premises
unfoldable pub plan : Table → Step → Plan
plan T (id a i) = plans (is_a T i Kind.atom) (left (is a i) ∷ right (is a i) ∷ []) keep [] closes
plan T (id_sub i j) = plans true (left (sub i j) ∷ right (sub i j) ∷ []) keep [] closes
plan T (id_link r a b) = plans true (left (link r a b) ∷ right (link r a b) ∷ []) keep [] closes
plan T (bot_l a i) = plans (is_a T i Kind.bot) (left (is a i) ∷ []) keep [] closes
plan T (top_r a i) = plans (is_a T i Kind.top) (right (is a i) ∷ []) keep [] closes
plan T (top_l a i) = plans (is_a T i Kind.top) [] keep [] (adds (left (is a i) ∷ []))
plan T (bot_r a i) = plans (is_a T i Kind.bot) [] keep [] (adds (right (is a i) ∷ []))
plan T (not_l a i) = plans (is_a T i Kind.not) (left (is a i) ∷ []) drop [] (adds (right (is a (first T i)) ∷ []))
plan T (not_r a i) = plans (is_a T i Kind.not) (right (is a i) ∷ []) drop [] (adds (left (is a (first T i)) ∷ []))
plan T (and_l a i) = plans (is_a T i Kind.and) (left (is a i) ∷ []) drop [] (adds (left (is a (first T i)) ∷ left (is a (second T i)) ∷ []))
plan T (and_r a i) = plans (is_a T i Kind.and) (right (is a i) ∷ []) drop [] ((right (is a (first T i)) ∷ []) ∷ (right (is a (second T i)) ∷ []) ∷ [])
plan T (or_l a i) = plans (is_a T i Kind.or) (left (is a i) ∷ []) drop [] ((left (is a (first T i)) ∷ []) ∷ (left (is a (second T i)) ∷ []) ∷ [])
plan T (or_r a i) = plans (is_a T i Kind.or) (right (is a i) ∷ []) drop [] (adds (right (is a (first T i)) ∷ right (is a (second T i)) ∷ []))
plan T (sub_l a i j) = plans true (left (sub i j) ∷ left (is a i) ∷ []) keep [] (adds (left (is a j) ∷ []))
plan T (sub_r i j b) = plans true (right (sub i j) ∷ []) drop (b ∷ []) (adds (left (is b i) ∷ right (is b j) ∷ []))
plan T (some_l a i b) = plans (is_a T i Kind.some) (left (is a i) ∷ []) drop (b ∷ []) (adds (left (link (role_of T i) a b) ∷ left (is b (inner T i)) ∷ []))
plan T (some_r a i b) = plans (is_a T i Kind.some) (right (is a i) ∷ left (link (role_of T i) a b) ∷ []) keep [] (adds (right (is b (inner T i)) ∷ []))
plan T (all_l a i b) = plans (is_a T i Kind.all) (left (is a i) ∷ left (link (role_of T i) a b) ∷ []) keep [] (adds (left (is b (inner T i)) ∷ []))
plan T (all_r a i b) = plans (is_a T i Kind.all) (right (is a i) ∷ []) drop (b ∷ []) (adds (left (link (role_of T i) a b) ∷ right (is b (inner T i)) ∷ []))
