-- "The text reads as ..": a table, claims, and then a derivation or a model, with the ranges and limits of document 01. No line's place and no
-- state of the judge is named here.
-- Assumes nothing.
use Rattle.std.specs.Prelude.{ℕ, suc, ◌+◌, ◌≤◌, true, false, List, [], ◌∷◌, ◌++◌, map, ◌≡◌, length}
use Rattle.lines.specs.Text.{lines_of}
use Rattle.alc.specs.Lists.{All, every}
use Rattle.alc.specs.Ranges.{Field, in_range}
use Rattle.alc.specs.Table.{Table, stands, entry_fields}
use Rattle.alc.specs.Claims.{Sided, Goal, claim_fields}
use Rattle.alc.specs.Claims as Claims
use Rattle.alc.specs.Rules.{Step, step_fields}
use Rattle.alc.specs.Model.{Fact, fact_fields, repeats}
use Rattle.alc.specs.Dossier.{Said, concept, claim, proof, model, step, size, fact, said_by}
use Rattle.alc.specs.Derivation.{Works}

module _ {A : Type 0} where
  -- P holds of each element and the elements before it
  abbrev pub InTurn : (List A → A → Type 0) → List A → List A → Type 0
  InTurn P before [] = Unit {0}
  InTurn P before (x ∷ xs) = P before x × InTurn P (before ++ (x ∷ [])) xs

-- every field is in its range, with so many lines in the table and so many elements in the model
abbrev pub InRange : ℕ → ℕ → List Field → Type 0
InRange entries elements fs = every (in_range entries elements) fs ≡ true

-- 0 to 256 lines, their fields in range; "a concept field there is smaller than its own line's number"; "no two lines are equal"
pub record GoodTable (T : Table) : Type 0 where
  pub few : length T ≤ 256
  pub ranges : InTurn (λ above e. InRange (length above) 0 (entry_fields e)) [] T
  pub differ : InTurn (λ above e. stands above e ≡ false) [] T

-- 0 to 64 claims, their fields in range: roles, names, and concept numbers smaller than the count of table lines
pub record GoodClaims (T : Table) (cs : List Sided) : Type 0 where
  pub few : length cs ≤ 64
  pub ranges : All (λ s. InRange (length T) 0 (claim_fields (Claims.claim s))) cs

-- 0 to 1,024 steps, their fields in range: roles, names, and concept numbers smaller than the count of table lines
pub record GoodSteps (T : Table) (ss : List Step) : Type 0 where
  pub few : length ss ≤ 1024
  pub ranges : All (λ s. InRange (length T) 0 (step_fields s)) ss

-- size 1 to 32; fields in range, elements below the size; no name placed twice, no `has` or `edge` repeated
pub record GoodModel (n : ℕ) (fs : List Fact) : Type 0 where
  pub least : 1 ≤ n
  pub most : n ≤ 32
  pub ranges : All (λ f. InRange 0 n (fact_fields f)) fs
  pub differ : InTurn (λ before f. repeats before f ≡ false) [] fs

-- the text reads as the table T, the claims cs, and the steps ss behind `proof`
pub record ReadsProof (text : List ℕ) (T : Table) (cs : List Sided) (ss : List Step) : Type 0 where
  pub short : length text ≤ 65535
  pub lines : map said_by (lines_of text) ≡ map concept T ++ (map claim cs ++ (proof ∷ map step ss))
  pub table : GoodTable T
  pub claims : GoodClaims T cs
  pub steps : GoodSteps T ss

-- the text reads as the table T, the claims cs, and behind `model` its size n and what it says
pub record ReadsModel (text : List ℕ) (T : Table) (cs : List Sided) (n : ℕ) (fs : List Fact) : Type 0 where
  pub short : length text ≤ 65535
  pub lines : map said_by (lines_of text) ≡ map concept T ++ (map claim cs ++ (model ∷ size n ∷ map fact fs))
  pub table : GoodTable T
  pub claims : GoodClaims T cs
  pub facts : GoodModel n fs

-- what stands behind the claims: the steps of a derivation, or the size of a model and what it says
pub data Evidence : Type 0 where
  a_derivation : List Step → Evidence
  a_model : ℕ → List Fact → Evidence

-- the text reads as the table T, the claims cs, and that
abbrev pub Reads : List ℕ → Table → List Sided → Evidence → Type 0
Reads text T cs (a_derivation ss) = ReadsProof text T cs ss
Reads text T cs (a_model n fs) = ReadsModel text T cs n fs

-- the text reads as far as the steps ss, which leave the goals gs open; then comes step s
pub record ReadsUpTo (text : List ℕ) (T : Table) (cs : List Sided) (ss : List Step) (gs : List Goal) (s : Step) : Type 0 where
  pub behind : List Said
  pub short : length text ≤ 65535
  pub lines : map said_by (lines_of text) ≡ (map concept T ++ (map claim cs ++ (proof ∷ map step ss))) ++ (step s ∷ behind)
  pub table : GoodTable T
  pub claims : GoodClaims T cs
  pub steps : GoodSteps T ss
  pub works : Works T ss (cs ∷ []) gs

-- the line of that step
abbrev pub line_of : Table → List Sided → List Step → ℕ
line_of T cs ss = suc (length T + (length cs + suc (length ss)))
