-- A model of the code tells what the lines of a model say.
-- Assumes nothing.
use Rattle.std.specs.Prelude.{ℕ, List, ◌≡◌}
use Rattle.alc.specs.Model.{Fact, places_in, interp_of}
use Rattle.models.specs.Arrays.{seats_of, Inside}
use Rattle.models.specs.Shown.{world_of}
use Rattle.models.specs.declared.Model.{Model}

-- of n elements and the facts fs: the same world, each name at the same place, and each place one of the elements
pub record Tells (n : ℕ) (fs : List Fact) (m : Model) : Type 0 where
  pub world : world_of m ≡ (interp_of n fs).world
  pub seats : (a : ℕ) → seats_of m.places a ≡ places_in fs a
  pub inside : Inside n m.places
