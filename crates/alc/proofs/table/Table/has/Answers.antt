-- `Table::has` meets its contract: those lines are counted that are equal.
-- Assumes nothing.
use Rattle.std.proofs.Common.{◌+◌, ◌∙◌, sym, arith}
use Rattle.alc.proofs.Stored.{Counted, counts, passes_by, all_counted}
use Rattle.alc.proofs.table.Table.has.Goals.{then-eq, else-eq}
use Rattle.alc.proofs.table.Table.has.Goals as goal

pub loop-i-preserved : goal.loop-i-preserved
loop-i-preserved c =
    let l = c.loop-i in
    let e = c.args.e in
    let T = c.args.self.now in
    let n : Counted e T l.i l.times (l.i + 1) c.if-eq.times = elim c.if-eq.branch [
      | then-eq w ↦ counts e T l.i l.times c.line.result c.line.ensures (omega arith) l.invariant c.if-eq.times (sym c.eq.ensures ∙ w.if-eq.true) w.times-is
      | else-eq w ↦ passes_by e T l.i l.times c.line.result c.line.ensures (omega arith) l.invariant c.if-eq.times (sym c.eq.ensures ∙ w.if-eq.false) w.times-is
    ] in
    n

pub returns : goal.returns
returns c = let l = c.loop-i in all_counted c.args.e c.args.self.now l.i l.times l.invariant (omega arith)
