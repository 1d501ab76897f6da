use Rattle.handle.proofs.Wrap.{unwrap_opens}
use Rattle.handle.proofs.theorems.unwrapped_key_has_the_tag.Goals as goal

pub returns : goal.returns
returns c = unwrap_opens
