-- Assumes nothing.
use Rattle.bits.proofs.Lists.{four}
use Rattle.bits.proofs.Words.{le_xor}
use Rattle.fips197.specs.Cipher.{add_round_key}
use Rattle.aes.proofs.Block.xor.Goals as goal

pub returns-clause-bytes : goal.returns-clause-bytes
returns-clause-bytes c =
    let s = c.args.self in
    let k = c.args.other in
    four (le_xor 4 s.a k.a) (le_xor 4 s.b k.b) (le_xor 4 s.c k.c) (le_xor 4 s.d k.d)

pub returns-clause-round_key : goal.returns-clause-round_key
unfolding add_round_key
returns-clause-round_key c = returns-clause-bytes c
