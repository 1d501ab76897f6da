use Rattle.std.proofs.Common.{◌∙◌, refl, arith}
use Rattle.bits.specs.Words.{le_words}
use Rattle.aes.specs.Meaning.{bytes_of}
use Rattle.aes_blocks.specs.TableCipher.{table_rounds}
use Rattle.aes_blocks.proofs.TableCipher.{rounds_more, cipher_ends, cipher-schedule}
use Rattle.aes_ttables.proofs.encrypt_block.Goals as goal

pub loop-i-init : goal.loop-i-init
unfolding table_rounds
loop-i-init c t rule = refl

pub loop-i-preserved : goal.loop-i-preserved
loop-i-preserved c t rule =
    let a = c.args.cipher.now.one in
    rounds_more t (le_words 4 a.schedule.now.words) c.loop-i.i _ c.loop-i.auto.i (c.loop-i.invariant t rule) c.round_key-in-loop-i.ensures
    (c.tables_round-s.ensures t rule)

pub returns : goal.returns
returns c t rule =
    let a = c.args.cipher.now.one in
    let f = a.tables.sbox.now in
    let w = a.schedule.now in
    cipher_ends t f (le_words 4 w.words) c.rounds-rounds.result c.loop-i.i (bytes_of c.args.b) (omega arith)
    c.round_key.ensures c.xor-s.ensures.round_key (c.loop-i.invariant t rule) c.round_key-2.ensures c.final_round.ensures
    ∙ cipher-schedule t f w.size w.words c.rounds-rounds.ensures (bytes_of c.args.b)
