-- `claims::read_claims` meets its contract. The invariant: the lines read have passed, and the goal shows their claims, whatever the table of so
-- many lines. The measure is what is left of the text. Assumes nothing.
use Prim.Native.Nat.{ℕ, ◌+◌, ◌≤◌, ◌<◌}
use mathlib.Core.List.{List}
use mathlib.Core.Path.{◌≡◌, refl, sym, subst, ◌∙◌}
use native.Mathlib.Omega.{arith}
use lib.ListN.{length}
use Rattle.lines.specs.Text.{at_claims}
use Rattle.lines.specs.Walk.{claims_from, steps_from, read_at}
use Rattle.lines.specs.declared.Line.{Line}
use Rattle.lines.specs.declared.Next.{Next}
use Rattle.lines.specs.declared.Next.TheVariants.{Bad, End}
use Rattle.reading.proofs.Loop.{Line-found, when_found}
use Rattle.alc.specs.Table.{Table}
use Rattle.alc.specs.declared.Goal.{Goal as Records}
use Rattle.goals.proofs.RecordLaws.{with_more, with_count}
use Rattle.std.specs.Prelude.{Ok, Err}
use Rattle.alc.specs.Rows.{refusal}
use Rattle.alc.specs.Shown.{number_of, row_number}
use Rattle.alc.proofs.Refusals.{number_some, passed}
use Rattle.alc.specs.declared.refusal.Refusal.{Refusal}
use Rattle.alc.specs.declared.refusal.Refusal.TheVariants.{Malformed, Unfinished}
use Rattle.parts.specs.declared.Section.{Section}
use Rattle.parts.specs.declared.Stopped.{Stopped}
use Rattle.parts.specs.declared.Claims.{Claims}
use Rattle.parts.specs.Parts.{ClaimsEnd, ClaimsLead, wrong, over, ClaimsRead, claim_rows}
use Rattle.claims.proofs.ClaimWalk.{Walk, walk_begin, walk_more, stops, fails, turns, room, stands_among}
use Rattle.claims.proofs.read_claims.Goals as goal

-- the line that was found
word : {text : List ℕ} {at : ℕ} {l : Line} {to : ℕ} → Line-found text at at_claims l to → (claims_from ≤ l.word) × (l.word < steps_from)
word {l = l} f = stands_among l f.allowed

-- what the walk came to, where it is refused
module _ (text : List ℕ) (start entries at n : ℕ) (g : Records) (low : g.count ≤ 64) (v : (T : Table) → length T ≡ entries → Walk text T start g at n) where
  stopped : (k : Refusal) (x : Next) → read_at text at at_claims ≡ x → ((T : Table) (q : length T ≡ entries) → ClaimsEnd T (v T q).cs x (number_of k))
      → (s : Stopped Claims) → s ≡ record { refused = record { refusal = k; line = n + 1 }; read = record { claims = g; reached = record { at = at; lines = n } } }
      → (T : Table) → length T ≡ entries → ClaimsRead text T start (Err s)
  stopped k x e d s m T q =
      let w = v T q in
      subst (λ f. ClaimsRead text T start (Err f)) (sym m)
      (record { cs = w.cs; shown = w.shown; few = low; ranges = w.ranges; leads = stops _ T _ _ _ _ w x (number_of k) e (d T q); line = refl })

pub loop-l-init : goal.loop-l-init
loop-l-init c =
    let e = c.empty-claims.ensures in
    (omega arith, omega arith, omega (arith, e.1), λ T q. walk_begin _ T _ _ _ q e.0 e.1)

pub returns-then-l-ge-PROOF : goal.returns-then-l-ge-PROOF
returns-then-l-ge-PROOF c = λ T q.
    let v = c.loop-l.invariant.3 T q in
    record {
      cs = v.cs;
      shown = v.shown;
      few = c.loop-l.invariant.2;
      ranges = v.ranges;
      leads = subst (λ (s : Section). ClaimsLead c.args.text.now T c.args.start v.cs (c.loop-l.n + 1) c.in-Found.next (Ok s)) (sym c.section.ensures)
          (turns _ T _ _ _ _ v _ _ (sym c.read.ensures ∙ c.in-Found.is) c.if-l-ge-PROOF.true);
    }

pub next_claim-requires : goal.next_claim-requires
next_claim-requires c = ((word (when_found _ _ _ _ _ (sym c.read.ensures ∙ c.in-Found.is))).0, c.if-l-ge-PROOF.false)

pub returns-in-Err : goal.returns-in-Err
returns-in-Err c =
    let r = sym c.read.ensures ∙ c.in-Found.is in
    stopped _ _ _ _ _ _ c.loop-l.invariant.2 c.loop-l.invariant.3 _ _ r
    (λ T q. fails _ T _ _ _ _ (c.loop-l.invariant.3 T q) _ _ r c.if-l-ge-PROOF.false c.args.entries _ q
    (subst (λ z. row_number z ≡ refusal (claim_rows c.args.entries c.loop-l.claims.count c.in-Found.l)) c.in-Err.is c.next_claim.ensures.row) (number_some c.in-Err.refusal))
    _ c.stopped.ensures

pub loop-l-smaller : goal.loop-l-smaller
loop-l-smaller c = let f = when_found _ _ _ _ _ (sym c.read.ensures ∙ c.in-Found.is) in omega (arith, f.later, f.within)

pub loop-l-preserved : goal.loop-l-preserved
loop-l-preserved c =
    let i = c.loop-l.invariant in
    let r = sym c.read.ensures ∙ c.in-Found.is in
    let f = when_found _ _ _ _ _ r in
    let w = c.with-claims.ensures in (
      f.within,
      omega (arith, f.later, i.1),
      with_count _ _ i.2 w.1,
      λ T q.
          let v = i.3 T q in
          let z = (passed _ _ _ _ c.in-Ok.is c.next_claim.ensures.row c.next_claim.ensures.claim).0 in
          let less = room _ T _ _ _ _ v _ _ r c.if-l-ge-PROOF.false c.args.entries q c.requires.2 z in
          walk_more _ T _ _ _ _ v _ _ r c.if-l-ge-PROOF.false c.args.entries q c.requires.2 z c.with-claims.result _ (passed _ _ _ _ c.in-Ok.is c.next_claim.ensures.row c.next_claim.ensures.claim).1
          (with_more c.loop-l.claims.count _ _ _ less w.0) (with_more c.loop-l.claims.count _ _ _ less w.1),
    )

pub returns-in-Bad : goal.returns-in-Bad
returns-in-Bad c = stopped _ _ _ _ _ _ c.loop-l.invariant.2 c.loop-l.invariant.3 Malformed Bad (sym c.read.ensures ∙ c.in-Bad.is) (λ T q. wrong) _ c.stopped-in-Bad.ensures

pub returns-in-End : goal.returns-in-End
returns-in-End c = stopped _ _ _ _ _ _ c.loop-l.invariant.2 c.loop-l.invariant.3 Unfinished End (sym c.read.ensures ∙ c.in-End.is) (λ T q. over) _ c.stopped-in-End.ensures
