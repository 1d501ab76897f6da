use mathlib.Core.Path.{◌≡◌, ◌∙◌}
use native.Mathlib.Omega.{arith}
use lib.ListN.{get_or, length-set}
use Rattle.bits.specs.Words.{le_bytes}
use Rattle.bits.proofs.Lists.{filled}
use Rattle.fips197.specs.InvCipher.{inv_mix_row}
use Rattle.aes_blocks.specs.Tables.{part}
use Rattle.aes_inv_blocks.proofs.tables.inv_mix_table.Goals as goal

pub loop-i-preserved : goal.loop-i-preserved
loop-i-preserved c =
    let t = c.args.inverse.now in
    let r = c.loop-i.mixed in
    let i = c.loop-i.i in
    let x = get_or c.inv_products.new.products (get_or t i 0) 0 in (
      length-set r i x ∙ c.loop-i.invariant.0,
      filled (λ k y. le_bytes 4 y ≡ part inv_mix_row (get_or t k 0) 0) r i x (omega (arith, c.loop-i.invariant.0)) c.loop-i.invariant.1
          (c.inv_products.ensures (get_or t i 0) (c.fits-inverse i)),
    )
