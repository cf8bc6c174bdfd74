-- `extents::some_in` meets its contract: an edge into the set is an edge to some element that is in it. Assumes nothing.
use Rattle.sets.specs.Bit.{bit}
use Rattle.models.specs.Shown.{world_of}
use Rattle.extents.proofs.ExtentLaws.{some_bits}
use Rattle.extents.proofs.some_in.Goals as goal

pub returns : goal.returns
returns c =
    let m = c.args.model.now in
    some_bits (world_of m) c.args.r.0 c.inside.result c.reaching.result (bit c.args.s) m.size.sized.most c.inside.ensures c.reaching.ensures
