-- `models::Model::has` meets its contract: the elements of an atom are the set at its number. Assumes nothing.
use Prim.Native.Nat.{ℕ}
use native.Mathlib.Omega.{arith}
use mathlib.Core.Bool.{not}
use mathlib.Core.Path.{refl, ap, ◌∙◌}
use Rattle.std.proofs.lemmas.List.{get_or_default}
use Rattle.sets.specs.Bit.{bit}
use Rattle.models.specs.Arrays.{atom_in, edge_in}
use Rattle.models.proofs.Stores.{atom_world}
use Rattle.models.proofs.Model.has.Goals as goal

pub returns : goal.returns
unfolding atom_in
returns c =
    let a = c.args in
    let m = a.self.now in
    let x = c.index-self-a.result in
    let e = c.insert.ensures in
    record {
      answer = e.answer ∙ ap (λ (y : ℕ). not (bit y a.d.0)) (get_or_default m.atoms a.a.0 x 0 (omega arith));
      seats = λ b. refl;
      world = atom_world m.atoms a.a.0 x c.insert.new.self a.d.0 (omega arith) e.elements m.size.count (edge_in m.edges);
    }
