use Rattle.model.proofs.Demand3.{counter_calls}
use Rattle.model.proofs.theorems.counter_calls_hold.Goals as goal

pub returns : goal.returns
returns c = counter_calls
