-- `models::Model::place_of` meets its contract: what is stored at a name is where it is. Assumes nothing.
use mathlib.Core.Path.{refl}
use Rattle.models.specs.Arrays.{seats_of}
use Rattle.models.proofs.Model.place_of.Goals as goal

pub returns : goal.returns
unfolding seats_of
returns c = refl
