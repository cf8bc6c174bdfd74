-- `sets::Set::insert` meets its contract: `|` works bit by bit, and 1 shifted by d has the bit d alone. Assumes nothing.
use Prim.Native.Nat.{◌*◌, ◌^◌, ◌%◌}
use mathlib.Core.Path.{◌∙◌}
use Rattle.sets.proofs.BitLaws.{bit_or_lem, bit_one}
use Rattle.sets.proofs.Set.insert.Goals as goal

pub returns-clause-elements : goal.returns-clause-elements
returns-clause-elements c = λ e.
    let d = c.args.d.0 in
    rw c.self.view_is (bit_or_lem c.args.self.now (1 * 2 ^ d % 2 ^ 32) e ∙ rw (bit_one d e c.requires))
