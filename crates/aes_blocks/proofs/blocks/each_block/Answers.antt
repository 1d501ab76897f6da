use Rattle.std.proofs.Common.{◌+◌, ◌*◌, ◌≤◌, length, rules, arith}
use Rattle.bits.proofs.Blocks.{map_blocks_stored}
use Rattle.aes_blocks.proofs.blocks.each_block.Goals as goal

pub loop-i-preserved : goal.loop-i-preserved
loop-i-preserved g c =
    let t = g.C.BlockCipher in
    let cipher = c.args.cipher.now in
    let fits : 16 * c.loop-i.i + 16 ≤ length c.args.bytes.now = grind arith in
    record {
      size = search rules;
      done = λ h. map_blocks_stored (t.makes cipher) (t.makes_block cipher) c.loop-i.i c.args.bytes.now fits (c.loop-i.invariant.done h) c.block_at.ensures (c.block-made.ensures h) c.put_block.ensures;
    }
