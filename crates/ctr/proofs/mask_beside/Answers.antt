use Rattle.std.proofs.Common.{◌≡◌, ℕ, ◌/◌, length, refl, ap, arith, rules}
use Rattle.aes.specs.Meaning.{bytes_of}
use Rattle.ctr.proofs.Groups.{all_masked}
use Rattle.ctr.proofs.mask_beside.Goals as goal

pub returns : goal.returns
returns g c h =
    let a = c.args in
    let n = length a.stream.now / 16 in
    let same : length c.put_counters.new.s ≡ length a.stream.now = search rules in
    all_masked (bytes_of a.c) refl (g.C.BlockCipher.makes a.cipher.now) a.bytes.now n
    (length c.put_counters.new.s / 16) (omega (arith, c.requires)) (ap (λ (k : ℕ). k / 16) same) c.put_counters.ensures.blocks (c.each_block.ensures h)
    c.xor_in.ensures
