use Rattle.std.proofs.Common.{refl, arith}
use Rattle.keyring.proofs.Written.{copied_more, copied_all}
use Rattle.keyring.proofs.zero_filled.Goals as goal

pub loop-i-init : goal.loop-i-init
loop-i-init c = record { within = omega arith; size = refl; same = refl; front = refl }

pub loop-i-preserved : goal.loop-i-preserved
loop-i-preserved c = copied_more c.loop-i.invariant c.loop-i-test.true

pub returns : goal.returns
returns c = copied_all c.loop-i.invariant c.loop-i-test.false c.requires
