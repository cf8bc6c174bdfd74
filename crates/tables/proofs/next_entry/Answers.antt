-- `tables::next_entry` meets its contract: the tests are the rows', in their order. Assumes nothing.
use Rattle.std.proofs.Common.{ℕ, ◌≡◌, sym, ap, ◌∙◌, ◌<◌, ltb, length, true}
use borrow.Author.Tests.{lt-ltb, le-ltb}
use Rattle.alc.specs.Table.{Table, stands}
use Rattle.parts.proofs.FieldLaws.{ranged_is}
use Rattle.parts.proofs.TableLaws.{entry_5, entry_3, entry_4, entry_0}
use Rattle.tables.proofs.next_entry.Goals as goal

room : (T : Table) (n : ℕ) → n ≡ length T → n < 256 → ltb (length T) 256 ≡ true
room T n m h = ap (λ (k : ℕ). ltb k 256) (sym m) ∙ lt-ltb n 256 h

pub returns-then-n-ge256-clause-row : goal.returns-then-n-ge256-clause-row
returns-then-n-ge256-clause-row c = entry_5 _ _ (ap (λ (k : ℕ). ltb k 256) (sym c.len-n.ensures.count) ∙ le-ltb _ 256 c.if-n-ge256.true)

pub returns-then-not-ranged-clause-row : goal.returns-then-not-ranged-clause-row
returns-then-not-ranged-clause-row c =
    let T = c.args.table.now in
    let m = c.len-n.ensures.count in
    entry_3 _ _ (room T _ m c.if-n-ge256.false) (ranged_is T c.args.l _ _ _ m c.ranged.ensures c.if-not-ranged.true)

pub returns-then-has-clause-row : goal.returns-then-has-clause-row
returns-then-has-clause-row c =
    let T = c.args.table.now in
    let m = c.len-n.ensures.count in
    entry_4 _ _ (room T _ m c.if-n-ge256.false) (ranged_is T c.args.l _ _ _ m c.ranged.ensures c.if-not-ranged.false)
    (ap (stands T) (sym c.made_entry-entry.ensures) ∙ sym c.has.ensures ∙ c.if-has.true)

pub returns-clause-row : goal.returns-clause-row
returns-clause-row c =
    let T = c.args.table.now in
    let m = c.len-n.ensures.count in
    entry_0 _ _ (room T _ m c.if-n-ge256.false) (ranged_is T c.args.l _ _ _ m c.ranged.ensures c.if-not-ranged.false)
    (ap (stands T) (sym c.made_entry-entry.ensures) ∙ sym c.has.ensures ∙ c.if-has.false)
