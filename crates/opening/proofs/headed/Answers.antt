-- `opening::headed` meets its contract: the claims are read from where the table ends, and behind them it is what follows. Assumes nothing.
use Rattle.std.proofs.Common.{sym, subst, arith}
use Rattle.alc.specs.Shown.{answered}
use Rattle.alc.specs.declared.Answer.{Answer}
use Rattle.opening.specs.Opened.{Ends, Begins}
use Rattle.opening.proofs.Leading.{bounds, no_claims, ranged, further, begins, modelled}
use Rattle.opening.proofs.headed.Goals as goal

pub read_claims-requires : goal.read_claims-requires
read_claims-requires c =
    let b = bounds c.args.text.now c.args.listed.table c.args.listed.at c.requires.listing in
    (b.0, omega (arith, b.1, c.len.ensures.count), omega (arith, c.len.ensures.count, c.len.ensures.few))

pub judge_model-requires : goal.judge_model-requires
judge_model-requires c =
    let T = c.args.listed.table in
    let r = c.requires.listing in
    let h = c.in-Ok.ensures T (sym c.len.ensures.count) in
    let f = further c.args.text.now T c.args.listed.at r c.in-Ok.heading h in
    record { within = f.0; counted = f.1; few = h.few; ranges = ranged c.args.text.now T c.args.listed.at r c.in-Ok.heading h }

pub returns-in-Proof : goal.returns-in-Proof
returns-in-Proof c =
    let T = c.args.listed.table in
    subst (Begins c.args.text.now T) (sym c.begun.ensures)
    (begins c.args.text.now T c.args.listed.at c.requires.listing c.in-Ok.heading (c.in-Ok.ensures T (sym c.len.ensures.count)) c.len.ensures.few c.in-Proof.is)

pub returns-in-Model : goal.returns-in-Model
returns-in-Model c =
    let T = c.args.listed.table in
    modelled c.args.text.now T c.args.listed.at c.requires.listing c.in-Ok.heading (c.in-Ok.ensures T (sym c.len.ensures.count)) _ c.judge_model.ensures c.in-Model.is

pub returns-in-Err : goal.returns-in-Err
returns-in-Err c =
    let T = c.args.listed.table in
    subst (λ (a : Answer). Ends c.args.text.now (answered a)) (sym c.from.ensures)
    (no_claims c.args.text.now T c.args.listed.at c.requires.listing c.in-Err.no_claims (c.in-Err.ensures T (sym c.len.ensures.count)))
