-- `Table::push` meets its contract: the line stands behind those that are shown, with its numbers in their ranges.
-- Assumes nothing.
use Rattle.std.proofs.Common.{◌<◌, ◌∙◌, arith}
use Rattle.std.proofs.lemmas.List.{length-set}
use Rattle.alc.specs.Entries.{past}
use Rattle.alc.proofs.Stored.{count_is, columns_more, columns_layered, rest_more}
use Rattle.alc.proofs.table.Table.push.Goals as goal

pub invariant_of-self : goal.invariant_of-self
invariant_of-self c =
    let t = c.self.inside in
    let e = c.args.e in
    let inv = c.self.invariant in
    let n = count_is t.kinds t.firsts t.seconds t.count _ inv.0 inv.1 inv.2 inv.3 c.self.view_is in
    let h : t.count < 256 = omega (arith, c.requires.room, n) in (
      omega (arith, h),
      length-set t.kinds t.count e.kind ∙ inv.1,
      length-set t.firsts t.count e.x ∙ inv.2,
      length-set t.seconds t.count e.y ∙ inv.3,
      columns_layered t.kinds t.firsts t.seconds t.count _ h inv.1 inv.2 inv.3 c.self.view_is e inv.4 c.requires.ranged,
      rest_more past.kind t.kinds t.count e.kind h inv.5,
      rest_more past.x t.firsts t.count e.x h inv.6,
      rest_more past.y t.seconds t.count e.y h inv.7,
    )

pub returns : goal.returns
returns c =
    let t = c.self.inside in
    let inv = c.self.invariant in
    let n = count_is t.kinds t.firsts t.seconds t.count _ inv.0 inv.1 inv.2 inv.3 c.self.view_is in
    columns_more t.kinds t.firsts t.seconds t.count _ (omega (arith, c.requires.room, n)) inv.1 inv.2 inv.3 c.self.view_is c.args.e
