-- `extents::all_in` meets its contract: no edge leads out of the set just if every edge leads into it. Assumes nothing.
use Rattle.sets.specs.Bit.{bit}
use Rattle.models.specs.Shown.{world_of}
use Rattle.extents.proofs.ExtentLaws.{all_bits}
use Rattle.extents.proofs.all_in.Goals as goal

pub returns : goal.returns
returns c =
    let m = c.args.model.now in
    all_bits (world_of m) c.args.r.0 c.outside.result c.reaching.result c.outside-2.result (bit c.args.s) m.size.sized.most c.outside.ensures c.reaching.ensures c.outside-2.ensures
