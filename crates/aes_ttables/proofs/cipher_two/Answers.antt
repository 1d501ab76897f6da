use Rattle.std.proofs.Common.{◌∙◌, refl, arith}
use Rattle.bits.specs.Words.{le_words}
use Rattle.aes.specs.Meaning.{bytes_of}
use Rattle.aes_blocks.specs.TableCipher.{table_rounds}
use Rattle.aes_blocks.proofs.TableCipher.{rounds_more, cipher_ends, cipher-schedule}
use Rattle.aes_ttables.proofs.cipher_two.Goals as goal

pub loop-i-init : goal.loop-i-init
unfolding table_rounds
loop-i-init c = record { first = λ t rule. refl; second = λ t rule. refl }

pub loop-i-preserved : goal.loop-i-preserved
loop-i-preserved c =
    let w = le_words 4 c.args.cipher.now.one.schedule.now.words in
    let inv = c.loop-i.invariant in
    record {
      first = λ t rule. rounds_more t w c.loop-i.i _ c.loop-i.auto.i (inv.first t rule) c.round_key-k.ensures (c.tables_round-s.ensures t rule);
      second = λ t rule. rounds_more t w c.loop-i.i _ c.loop-i.auto.i (inv.second t rule) c.round_key-k.ensures (c.tables_round-t.ensures t rule);
    }

pub returns-clause-first : goal.returns-clause-first
returns-clause-first c t rule =
    let a = c.args.cipher.now.one in
    let w = a.schedule.now in
    cipher_ends t a.tables.sbox.now (le_words 4 w.words) c.rounds-rounds.result c.loop-i.i (bytes_of c.args.b) (omega arith)
    c.round_key-key.ensures c.xor-s.ensures.round_key (c.loop-i.invariant.first t rule) c.round_key-last.ensures c.final_round.ensures
    ∙ cipher-schedule t a.tables.sbox.now w.size w.words c.rounds-rounds.ensures (bytes_of c.args.b)

pub returns-clause-second : goal.returns-clause-second
returns-clause-second c t rule =
    let a = c.args.cipher.now.one in
    let w = a.schedule.now in
    cipher_ends t a.tables.sbox.now (le_words 4 w.words) c.rounds-rounds.result c.loop-i.i (bytes_of c.args.c) (omega arith)
    c.round_key-key.ensures c.xor-t.ensures.round_key (c.loop-i.invariant.second t rule) c.round_key-last.ensures c.final_round-2.ensures
    ∙ cipher-schedule t a.tables.sbox.now w.size w.words c.rounds-rounds.ensures (bytes_of c.args.c)
