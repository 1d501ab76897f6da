use Rattle.std.proofs.Common.{◌≡◌, ◌∙◌, ◌+◌, ◌*◌, ℕ, refl, ap, arith, rules}
use Rattle.bits.specs.Blocks.{map_blocks}
use Rattle.fips197.specs.Sizes.{nr}
use Rattle.aes.specs.Meaning.{schedule}
use Rattle.aes_blocks.specs.TableCipher.{table_cipher, cipher-length}
use Rattle.aes_ttables.proofs.Pairs.{pair_stored}
use Rattle.aes_ttables.proofs.encrypt_eight.Goals as goal

pub loop-i-init : goal.loop-i-init
loop-i-init c = record { size = c.told-bytes; done = λ t rule. refl }

pub loop-i-preserved : goal.loop-i-preserved
loop-i-preserved c =
    let inv = c.loop-i.invariant in
    let i = c.loop-i.i in
    let a = c.args.cipher.now.one in
    let w = a.schedule.now in
    let more : 2 * i + 2 ≡ 2 * (i + 1) = omega arith in
    record {
      size = search rules;
      done = λ t rule.
          let f = table_cipher t a.tables.sbox.now (schedule w.size w.words) (nr w.size) in
          pair_stored f (cipher-length _ _ _ _) (2 * i) c.args.bytes.now (omega arith) (inv.done t rule) c.block_at.ensures c.block_at-in-loop-i.ensures
          (c.cipher_two.ensures.first t rule) (c.cipher_two.ensures.second t rule) c.put_block.ensures c.put_block-in-loop-i.ensures
          ∙ ap (λ (m : ℕ). map_blocks f m c.args.bytes.now) more;
    }

pub returns : goal.returns
returns c t rule =
    let a = c.args.cipher.now.one in
    let w = a.schedule.now in
    let e : 2 * c.loop-i.i ≡ 8 = omega arith in
    c.loop-i.invariant.done t rule
    ∙ ap (λ (m : ℕ). map_blocks (table_cipher t a.tables.sbox.now (schedule w.size w.words) (nr w.size)) m c.args.bytes.now) e
