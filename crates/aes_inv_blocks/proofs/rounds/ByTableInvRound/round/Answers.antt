use Rattle.std.proofs.Common.{◌∙◌, List, ℕ, ap}
use Rattle.fips197.specs.Cipher.{add_round_key}
use Rattle.fips197.specs.Sizes.{nr}
use Rattle.aes.specs.Meaning.{bytes_of}
use Rattle.aes_inv_blocks.proofs.Equivalent.{equivalent_round}
use Rattle.aes_inv_blocks.proofs.rounds.ByTableInvRound.round.Goals as goal

pub returns : goal.returns
returns c rule =
    equivalent_round c.args._w.now.words c.args.self.now.keys.now.words (nr c.args._w.now.size) c.args.i c.requires.1 rule.1 (bytes_of c.args.s)
    c.round_key.ensures (c.xor.ensures.round_key ∙ ap (λ (x : List ℕ). add_round_key x (bytes_of c.round_key.result)) (c.inv_shift_sub_mix.ensures rule.0))
