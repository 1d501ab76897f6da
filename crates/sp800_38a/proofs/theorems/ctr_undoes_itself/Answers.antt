use Rattle.sp800_38a.proofs.Ctr.{ctr_twice}
use Rattle.sp800_38a.proofs.theorems.ctr_undoes_itself.Goals as goal

pub returns : goal.returns
returns c = ctr_twice
