use Rattle.std.proofs.Common.{◌+◌, refl, ◌∙◌, arith}
use Rattle.aes.specs.Meaning.{bytes_of}
use Rattle.aes.proofs.Tables.{block_bytes}
use Rattle.ctr.specs.Meaning.{counter_bytes}
use Rattle.ctr.proofs.Masking.{counted, stored_length, masked_stored}
use Rattle.ctr.proofs.mask_blocks.Goals as goal

pub loop-i-preserved : goal.loop-i-preserved
loop-i-preserved g c =
    let t = g.C.BlockCipher in
    let cipher = c.args.cipher.now in
    let c₀ = counter_bytes c.from-counter.result in
    let inv = c.loop-i.invariant in
    let i = c.loop-i.i in
    record {
      size = stored_length c.loop-i.bytes (bytes_of c.xor-masked.result) _ c.put_block.ensures ∙ inv.size;
      counter = counted c₀ i 1 (i + 1) refl inv.counter c.next-counter.ensures;
      masked = λ h.
          masked_stored (t.makes cipher) (t.makes_block cipher) c₀ c.args.bytes.now i (omega (arith, c.requires)) (inv.masked h) (block_bytes c.from.result)
          (omega (arith, c.requires)) (c.from.ensures ∙ inv.counter) c.block_at.ensures (c.block-stream.ensures h) c.xor-masked.ensures.bytes c.put_block.ensures;
    }
