-- `Table::new` meets its contract: no line is shown.
-- Assumes nothing.
use Rattle.std.proofs.Common.{refl, arith}
use Rattle.std.proofs.lemmas.List.{length-replicate}
use Rattle.alc.specs.Entries.{past}
use Rattle.alc.proofs.Stored.{layered_none}
use Rattle.alc.proofs.table.Table.new.Goals as goal

pub invariant_of-result : goal.invariant_of-result
invariant_of-result c = (omega arith, length-replicate 256 past.kind, length-replicate 256 past.x, length-replicate 256 past.y, layered_none, refl, refl, refl)
