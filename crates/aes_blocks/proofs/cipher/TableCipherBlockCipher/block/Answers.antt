use Rattle.std.proofs.Common.{◌∙◌}
use Rattle.aes.specs.Meaning.{bytes_of}
use Rattle.aes_blocks.proofs.TableCipher.{cipher-schedule}
use Rattle.aes_blocks.proofs.cipher.TableCipherBlockCipher.block.Goals as goal

pub returns : goal.returns
returns c h =
    let w = c.args.self.now.schedule.now in
    c.cipher.ensures ∙ cipher-schedule _ _ w.size w.words c.rounds-rounds.ensures (bytes_of c.args.b)
