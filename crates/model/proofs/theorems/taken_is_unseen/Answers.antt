use Rattle.model.proofs.Taken.{taken_unseen}
use Rattle.model.proofs.theorems.taken_is_unseen.Goals as goal

pub returns : goal.returns
returns c = taken_unseen
