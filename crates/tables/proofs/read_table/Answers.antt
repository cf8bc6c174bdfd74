-- `tables::read_table` meets its contract. The invariant: the lines read have passed, and are the table. The measure is what is left of the text.
-- Assumes nothing.
use Rattle.std.proofs.Common.{◌≡◌, sym, subst, ◌∙◌, arith, Err}
use Rattle.reading.proofs.Loop.{when_found}
use Rattle.alc.specs.Table.{Table}
use Rattle.alc.specs.Rows.{refusal}
use Rattle.alc.specs.Shown.{row_number}
use Rattle.alc.proofs.Refusals.{number_some, passed}
use Rattle.parts.specs.Parts.{TableRead, entry_rows, none, wrong, other, over}
use Rattle.tables.proofs.TableWalk.{Walk, walk_more, stops, fails, room, own}
use Rattle.tables.proofs.read_table.Goals as goal

pub loop-l-init : goal.loop-l-init
loop-l-init c = subst (λ (T : Table). Walk c.args.text.now T 0) (sym c.new-table.ensures) none

pub returns-then-l-ge-IS : goal.returns-then-l-ge-IS
returns-then-l-ge-IS c = stops _ _ _ c.loop-l.invariant _ 0 (sym c.read.ensures ∙ c.in-Found.is) (other c.if-l-ge-IS.true)

pub push-requires-clause-room : goal.push-requires-clause-room
push-requires-clause-room c =
    room _ _ _ c.loop-l.invariant c.len-line.ensures.few _ _ (sym c.read.ensures ∙ c.in-Found.is) c.if-l-ge-IS.false (passed _ _ _ _ c.in-Ok.is c.next_entry.ensures.row c.next_entry.ensures.entry).0

pub push-requires-clause-ranged : goal.push-requires-clause-ranged
push-requires-clause-ranged c =
    own _ _ _ c.loop-l.invariant c.len-line.ensures.few _ _ (sym c.read.ensures ∙ c.in-Found.is) c.if-l-ge-IS.false (passed _ _ _ _ c.in-Ok.is c.next_entry.ensures.row c.next_entry.ensures.entry).0 _ (passed _ _ _ _ c.in-Ok.is c.next_entry.ensures.row c.next_entry.ensures.entry).1

pub loop-l-smaller : goal.loop-l-smaller
loop-l-smaller c = let f = when_found _ _ _ _ _ (sym c.read.ensures ∙ c.in-Found.is) in omega (arith, f.later, f.within)

pub loop-l-preserved : goal.loop-l-preserved
loop-l-preserved c =
    walk_more _ _ _ c.loop-l.invariant c.len-line.ensures.few _ _ (sym c.read.ensures ∙ c.in-Found.is) c.if-l-ge-IS.false (passed _ _ _ _ c.in-Ok.is c.next_entry.ensures.row c.next_entry.ensures.entry).0 _
    (passed _ _ _ _ c.in-Ok.is c.next_entry.ensures.row c.next_entry.ensures.entry).1 _ c.push.ensures

pub returns-in-Err : goal.returns-in-Err
returns-in-Err c =
    let e = sym c.read.ensures ∙ c.in-Found.is in
    subst (λ f. TableRead c.args.text.now (Err f)) (sym c.new.ensures)
    (record {
      few = c.len-line.ensures.few;
      layered = c.len-line.ensures.layered;
      listing =
          stops _ _ _ c.loop-l.invariant _ _ e
          (fails _ _ _ c.loop-l.invariant c.len-line.ensures.few _ _ e c.if-l-ge-IS.false _
          (subst (λ r. row_number r ≡ refusal (entry_rows c.loop-l.table c.in-Found.l)) c.in-Err.is c.next_entry.ensures.row) (number_some c.in-Err.refusal));
      line = omega (arith, c.len-line.ensures.count);
    })

pub returns-in-Bad : goal.returns-in-Bad
returns-in-Bad c = subst (λ f. TableRead c.args.text.now (Err f)) (sym c.new-in-Bad.ensures) (record {
  few = c.len-line.ensures.few;
  layered = c.len-line.ensures.layered;
  listing = stops _ _ _ c.loop-l.invariant _ 2 (sym c.read.ensures ∙ c.in-Bad.is) wrong;
  line = omega (arith, c.len-line.ensures.count);
})

pub returns-in-End : goal.returns-in-End
returns-in-End c = stops _ _ _ c.loop-l.invariant _ 0 (sym c.read.ensures ∙ c.in-End.is) over
