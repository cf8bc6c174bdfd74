-- `extents::extensions` meets its contract: the sets of the lines below i are those of their trees, and the others are empty. Assumes nothing.
use native.Mathlib.Omega.{arith}
use mathlib.Core.Path.{sym, subst}
use Rattle.alc.specs.Lists.{All}
use Rattle.alc.specs.Table.{Entry, entry_fields}
use Rattle.alc.specs.Entries.{shown}
use Rattle.models.specs.Shown.{world_of, Below}
use Rattle.extents.proofs.Trees.{formed}
use Rattle.extents.proofs.Filling.{line_fits, filled, none_filled}
use Rattle.extents.proofs.extensions.Goals as goal

pub loop-i-init : goal.loop-i-init
loop-i-init c = none_filled 256 c.args.table.now (world_of c.args.model.now)

pub extent-set-requires : goal.extent-set-requires
extent-set-requires c =
    let n = c.len-i-end.ensures in
    subst (λ (e : Entry). All (Below 256 0) (entry_fields e)) (sym c.entry.ensures) (line_fits c.args.table.now n.layered n.few c.loop-i.i (omega arith))

pub loop-i-preserved : goal.loop-i-preserved
loop-i-preserved c =
    let T = c.args.table.now in
    let n = c.len-i-end.ensures in
    filled (world_of c.args.model.now) T (formed T n.layered) c.loop-i.ext c.loop-i.i c.extent-set.result c.inside.result (shown c.entry.result) (sym c.entry.ensures) c.loop-i.invariant c.extent-set.ensures c.inside.ensures (omega (arith, n.few))
