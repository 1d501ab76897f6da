use Rattle.model.proofs.Demand3.{demand_3}
use Rattle.model.proofs.theorems.histories_hold.Goals as goal

pub returns : goal.returns
returns c = demand_3
