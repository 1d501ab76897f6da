use Prim.Native.Nat.{◌^◌}
use lib.Dec.{lit<}
use Rattle.aes.proofs.Xtime.{xtimes}
use Rattle.aes.proofs.mix.xtime.Goals as goal

pub returns : goal.returns
returns c = xtimes 4 (2 ^ 32) c.args.x (lit< tt)
