-- `models::Model::edge` meets its contract: the successors of an element by a role are the set at 32 times the role and the element.
-- Assumes nothing.
use Prim.Native.Nat.{ℕ, ◌+◌, ◌*◌}
use native.Mathlib.Omega.{arith}
use mathlib.Core.Bool.{not}
use mathlib.Core.Path.{refl, ap, ◌∙◌}
use borrow.Author.Tests.{lt-ltb}
use Rattle.std.proofs.lemmas.List.{get_or_default}
use Rattle.sets.specs.Bit.{bit}
use Rattle.models.specs.Arrays.{atom_in, edge_in}
use Rattle.models.proofs.Stores.{edge_world}
use Rattle.models.proofs.Model.edge.Goals as goal

pub returns : goal.returns
unfolding edge_in
returns c =
    let a = c.args in
    let m = a.self.now in
    let x = c.index-self-r.result in
    let e = c.insert.ensures in
    record {
      answer = rw (lt-ltb a.d.0 32 c.requires.1) (e.answer ∙ ap (λ (y : ℕ). not (bit y a.e.0)) (get_or_default m.edges (a.r.0 * 32 + a.d.0) x 0 (omega arith)));
      seats = λ b. refl;
      world = edge_world m.edges (a.r.0 * 32 + a.d.0) x c.insert.new.self a.e.0 (omega arith) e.elements a.r.0 a.d.0 c.requires.1 refl m.size.count (atom_in m.atoms);
    }
