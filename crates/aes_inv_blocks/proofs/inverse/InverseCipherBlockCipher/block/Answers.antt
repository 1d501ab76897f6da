use Rattle.std.proofs.Common.{◌∙◌, ◌-◌, refl, arith}
use Rattle.bits.specs.Words.{le_words}
use Rattle.aes.specs.Meaning.{bytes_of}
use Rattle.aes.proofs.Rounds.{inv_rounds_more, inv_cipher_ends}
use Rattle.aes.proofs.Tables.{block_bytes}
use Rattle.aes.proofs.KeySchedule.{inv_cipher-schedule}
use Rattle.aes_inv_blocks.proofs.inverse.InverseCipherBlockCipher.block.Goals as goal

pub loop-i-preserved : goal.loop-i-preserved
loop-i-preserved g c h =
    let w = le_words 4 c.args.self.now.schedule.now.words in
    inv_rounds_more w (c.loop-i.i - 1) (bytes_of c.loop-i.s) (omega arith) (c.loop-i.invariant h) refl (c.round-s.ensures h)

pub returns : goal.returns
returns g c h =
    let a = c.args.self.now in
    let w = a.schedule.now in
    inv_cipher_ends (le_words 4 w.words) a.inverse.now h.0 c.rounds-rounds.result (c.loop-i.i - 1) _ _ (block_bytes c.loop-i.s) (omega arith) c.round_key.ensures
    c.xor-s.ensures.round_key (c.loop-i.invariant h.1) c.round_key-2.ensures c.inv_final_round.ensures
    ∙ inv_cipher-schedule w.size w.words c.rounds-rounds.ensures (bytes_of c.args.b)
