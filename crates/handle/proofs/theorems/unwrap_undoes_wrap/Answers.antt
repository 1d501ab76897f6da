use Rattle.handle.proofs.Wrap.{unwrap_wrap}
use Rattle.handle.proofs.theorems.unwrap_undoes_wrap.Goals as goal

pub returns : goal.returns
returns c = unwrap_wrap
