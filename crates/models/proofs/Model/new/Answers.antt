-- `models::Model::new` meets its contract: blank arrays tell no fact. Assumes nothing.
use Rattle.models.proofs.Stores.{blank_seats, blank_inside, blank_world}
use Rattle.models.proofs.Model.new.Goals as goal

pub returns-clause-tells : goal.returns-clause-tells
returns-clause-tells c = record { world = blank_world c.args.size.count; seats = blank_seats; inside = blank_inside c.args.size.count }
