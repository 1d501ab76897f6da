use Rattle.std.proofs.Common.{◌∙◌}
use Rattle.aes.specs.Meaning.{bytes_of}
use Rattle.keywrap.proofs.siv.Keys.encrypt.Goals as goal

pub returns : goal.returns
returns c = c.encrypt_block.ensures ∙ c.args.self.now.expanded (bytes_of c.args.b)
