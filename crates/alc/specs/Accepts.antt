-- What a dossier shows that gets a passing verdict.
-- Assumes nothing.
use Rattle.std.specs.Prelude.{ℕ, ◌≤◌, true, false, List, [], ◌∷◌, ◌≡◌}
use Rattle.alc.specs.Lists.{All}
use Rattle.alc.specs.Meaning.{Interp, Placed}
use Rattle.alc.specs.Table.{Table}
use Rattle.alc.specs.Claims.{Sided, left, right, truth, holds}
use Rattle.alc.specs.Rules.{Step}
use Rattle.alc.specs.Model.{Fact, interp_of, all_placed}
use Rattle.alc.specs.Derivation.{Derives}
use Rattle.alc.specs.Reading.{ReadsProof, ReadsModel}

-- `proved`: the text reads as a table, claims and steps, and the steps derive the claims
pub record Proves (text : List ℕ) : Type 0 where
  pub table : Table
  pub claims : List Sided
  pub steps : List Step
  pub reads : ReadsProof text table claims steps
  pub derives : Derives table 0 steps (claims ∷ [])

-- the interpretation has a left claim true, a right claim false
abbrev pub Against : Table → Interp → Sided → Type 0
Against T I (left c) = truth T I c ≡ true
Against T I (right c) = truth T I c ≡ false

-- `refuted`: the text reads as a table, claims and a model; every name in a claim is placed, all left claims are true, no right claim is
pub record Falsifies (text : List ℕ) : Type 0 where
  pub table : Table
  pub claims : List Sided
  pub size : ℕ
  pub facts : List Fact
  pub reads : ReadsModel text table claims size facts
  pub placed : all_placed facts claims ≡ true
  pub against : All (Against table (interp_of size facts)) claims

-- the sequent fails in an interpretation of 1 to 32 elements: a name's place is an element, so there is one
pub record Fails (T : Table) (cs : List Sided) : Type 0 where
  pub interp : Interp
  pub placed : Placed interp
  pub most : interp.world.size ≤ 32
  pub fails : holds T interp cs ≡ false
