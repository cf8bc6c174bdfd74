-- `models::Model::elements` meets its contract: the elements of an atom are the set at its number. Assumes nothing.
use native.Mathlib.Omega.{arith}
use mathlib.Core.Path.{ap}
use Prim.Native.Nat.{ℕ}
use Rattle.std.proofs.lemmas.List.{get_or_default}
use Rattle.sets.specs.Bit.{bit}
use Rattle.models.specs.Arrays.{atom_in}
use Rattle.models.proofs.Model.elements.Goals as goal

pub returns : goal.returns
unfolding atom_in
returns c = λ d. ap (λ (x : ℕ). bit x d) (get_or_default c.args.self.now.atoms c.args.atom.0 _ 0 (omega arith))
