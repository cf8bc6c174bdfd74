-- `turns::turned` meets its contract: where all rows are passed there is room for what comes, and not too many goals are open. Assumes nothing.
use Rattle.std.proofs.Common.{◌≡◌, rules, sym, arith}
use Rattle.std.proofs.lemmas.Grind.{common_steps}
use Rattle.alc.specs.Shown.{records}
use Rattle.alc.specs.Entries.{kind_of}
use Rattle.alc.specs.Rows.{refusal}
use Rattle.goals.specs.Records.{ruling_by, kept_by, cut_at, record_rows}
use Rattle.goals.proofs.RecordLaws.{cut_leaving}
use Rattle.goals.proofs.Steps.{all_small, all_open}
use Rattle.turns.proofs.turned.Goals as goal

pub returns-clause-makes : goal.returns-clause-makes
returns-clause-makes c =
    let l = records c.args.g.now in
    let u = ruling_by (kind_of c.args.kind) c.args.p in
    let z : refusal (record_rows u l c.args.waiting) ≡ 0 = sym c.in_ok-refused.ensures in
    let cut : cut_at c.leaving-goes.result l ≡ kept_by u l = grind (arith, common_steps, cut_leaving) in
    (record { place = search rules; kept = c.staying-kept.ensures; room = rw cut (all_small u l _ z) }, all_open u l _ z)
