use Rattle.sp800_38a.proofs.Ctr.{ctr-append}
use Rattle.sp800_38a.proofs.theorems.ctr_in_two_parts.Goals as goal

pub returns : goal.returns
returns c = ctr-append
