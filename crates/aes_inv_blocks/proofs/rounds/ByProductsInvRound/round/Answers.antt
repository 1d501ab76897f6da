use Rattle.std.proofs.Common.{◌∙◌, ap}
use Rattle.fips197.specs.InvCipher.{inv_mix_columns, inv_round, inv_final_round}
use Rattle.aes.specs.Meaning.{bytes_of}
use Rattle.aes.proofs.Tables.{block_bytes, inv_final_round_by}
use Rattle.aes_inv_blocks.proofs.rounds.ByProductsInvRound.round.Goals as goal

pub returns : goal.returns
unfolding inv_round
returns c rule =
    let s = c.args.s in
    c.inv_mix_by.ensures rule.0
    ∙ ap inv_mix_columns
    (c.inv_final_round.ensures ∙ inv_final_round_by c.args.self.now.inverse.now (bytes_of s) (bytes_of c.round_key.result) (block_bytes s) rule.1
    ∙ ap (inv_final_round (bytes_of s)) c.round_key.ensures)
