use Rattle.model.proofs.Idle.{idle_unseen}
use Rattle.model.proofs.theorems.idle_steps_are_unseen.Goals as goal

pub returns : goal.returns
returns c = idle_unseen
