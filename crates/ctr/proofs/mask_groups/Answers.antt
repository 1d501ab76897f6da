use Rattle.std.proofs.Common.{◌≡◌, ◌+◌, ◌-◌, ◌*◌, sym, refl, arith, rules}
use Rattle.aes.specs.Meaning.{bytes_of}
use Rattle.aes.proofs.Tables.{block_bytes}
use Rattle.aes_blocks.specs.TableCipher.{cipher-length}
use Rattle.aes_ttables.specs.Meaning.{cipher_of}
use Rattle.sp800_38a.proofs.Counters.{counter_none}
use Rattle.ctr.proofs.Masking.{counted, masked_none, masked_more}
use Rattle.ctr.proofs.mask_groups.Goals as goal

pub loop-i-init : goal.loop-i-init
loop-i-init c =
    let a = c.args in
    record { size = refl; counter = sym (counter_none (bytes_of a.c) (block_bytes a.c)); masked = λ rule. masked_none _ _ _ }

pub loop-i-preserved : goal.loop-i-preserved
loop-i-preserved c =
    let a = c.args in
    let inv = c.loop-i.invariant in
    let i = c.loop-i.i in
    let more : 8 * (i + 1) ≡ 8 * i + 8 = omega arith in
    record {
      size = search rules;
      counter = counted (bytes_of a.c) (8 * i) 8 (8 * (i + 1)) more inv.counter c.mask_group-counter.ensures.behind;
      masked = λ rule.
          masked_more (cipher_of a.cipher.now.one) (cipher-length _ _ _ _) (bytes_of a.c) a.bytes.now (8 * i)
          (omega (arith, c.requires)) (inv.masked rule) 8 (8 * (i + 1)) (128 * i) (128 * i + 128 - 128 * i) (omega arith) (omega arith) more (omega (arith, c.requires)) inv.counter
          (c.mask_group-counter.ensures.masked rule) refl;
    }
