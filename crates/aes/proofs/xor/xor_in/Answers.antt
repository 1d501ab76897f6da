use mathlib.Core.Path.{◌∙◌}
use Prim.Native.Nat.{◌<◌}
use native.Mathlib.Omega.{arith}
use lib.Bits.{bit_xor}
use lib.ListN.{length, get_or, length-set}
use Rattle.bits.proofs.Xor.{xored_more}
use Rattle.aes.proofs.xor.xor_in.Goals as goal

pub loop-i-preserved : goal.loop-i-preserved
loop-i-preserved c =
    let s₀ = c.args.s.now in
    let other = c.args.other.now in
    let s = c.loop-i.s in
    let i = c.loop-i.i in
    let in_range : i < length s₀ = omega arith in (
      omega arith,
      length-set s i (bit_xor (get_or s i 0) (get_or other i 0)) ∙ c.loop-i.invariant.1,
      xored_more i s₀ other s in_range c.requires c.loop-i.invariant.2,
    )
