use Rattle.std.proofs.Common.{refl, arith}
use Rattle.bits.specs.Words.{le_words}
use Rattle.aes.specs.Meaning.{bytes_of}
use Rattle.aes_blocks.specs.TableCipher.{table_rounds}
use Rattle.aes_blocks.proofs.TableCipher.{rounds_more, cipher_ends}
use Rattle.aes_blocks.proofs.cipher.cipher.Goals as goal

pub loop-i-init : goal.loop-i-init
unfolding table_rounds
loop-i-init c = refl

pub loop-i-preserved : goal.loop-i-preserved
loop-i-preserved c =
    rounds_more c.args.mixed.now (le_words 4 c.args.w.now.words) c.loop-i.i _ c.loop-i.auto.i c.loop-i.invariant c.round_key-in-loop-i.ensures
    c.table_round-s.ensures

pub returns : goal.returns
returns c =
    cipher_ends c.args.mixed.now c.args.sbox.now (le_words 4 c.args.w.now.words) c.args.rounds c.loop-i.i (bytes_of c.args.b) (omega arith)
    c.round_key.ensures c.xor-s.ensures.round_key c.loop-i.invariant c.round_key-2.ensures c.final_round.ensures
