-- `models::Model::successors` meets its contract: the successors of an element by a role are the set at 32 times the role and the element.
-- Assumes nothing.
use Prim.Native.Nat.{ℕ, ◌+◌, ◌*◌}
use native.Mathlib.Omega.{arith}
use mathlib.Core.Path.{ap}
use borrow.Author.Tests.{lt-ltb}
use Rattle.std.proofs.lemmas.List.{get_or_default}
use Rattle.sets.specs.Bit.{bit}
use Rattle.models.specs.Arrays.{edge_in}
use Rattle.models.proofs.Model.successors.Goals as goal

pub returns : goal.returns
unfolding edge_in
returns c = λ e.
    let a = c.args in
    rw (lt-ltb a.from.0 32 c.requires.1) (ap (λ (x : ℕ). bit x e) (get_or_default a.self.now.edges (a.role.0 * 32 + a.from.0) _ 0 (omega arith)))
