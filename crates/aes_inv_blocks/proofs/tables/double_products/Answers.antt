use mathlib.Core.Path.{◌≡◌, ◌∙◌}
use Prim.Native.Nat.{◌-◌}
use native.Mathlib.Omega.{arith}
use lib.Bits.{bit_xor}
use lib.ListN.{get_or, length-set}
use Rattle.bits.specs.Words.{le_bytes}
use Rattle.bits.proofs.Lists.{filled}
use Rattle.aes_blocks.specs.Tables.{part}
use Rattle.aes_inv_blocks.proofs.Products.{sum_part}
use Rattle.aes_inv_blocks.proofs.tables.double_products.Goals as goal

pub loop-i-preserved : goal.loop-i-preserved
loop-i-preserved c =
    let m = c.loop-i.products in
    let i = c.loop-i.i in
    let k = c.args.k in
    let x = c.args.x in
    let y = get_or m (i - k) 0 in (
      length-set m i (bit_xor y x) ∙ c.loop-i.invariant.0,
      λ q e p h t.
          let rule = c.loop-i.invariant.1 q e p h t in
          filled (λ j z. le_bytes 4 z ≡ part q j 0) m i (bit_xor y x) (omega (arith, c.loop-i.invariant.0)) rule
          (sum_part q e x y p (omega arith) c.loop-i.auto.i (omega arith) h (rule (i - k) (omega arith))),
    )
