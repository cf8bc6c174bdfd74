-- `Table::line` meets its contract: the entry of the columns is that of the line shown.
-- Assumes nothing.
use Rattle.std.proofs.Common.{◌∙◌, sym, ap, arith}
use Rattle.alc.specs.Table.{entry}
use Rattle.alc.proofs.Stored.{count_is, line_shown}
use Rattle.alc.proofs.table.Table.line.Goals as goal

pub returns : goal.returns
returns c =
    let t = c.self.inside in
    let inv = c.self.invariant in
    let n = count_is t.kinds t.firsts t.seconds t.count _ inv.0 inv.1 inv.2 inv.3 c.self.view_is in
    line_shown t.kinds t.firsts t.seconds t.count c.args.i (inv.2 ∙ sym inv.1) (inv.3 ∙ sym inv.1) (omega (arith, n, c.requires)) ∙ ap (λ T. entry T c.args.i) c.self.view_is
