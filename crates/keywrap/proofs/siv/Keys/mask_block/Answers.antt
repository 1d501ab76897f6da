use Rattle.std.proofs.Common.{◌∙◌, ap}
use Rattle.bits.specs.Bytes.{xor_bytes}
use Rattle.fips197.specs.Aes.{encrypt}
use Rattle.aes.specs.Meaning.{bytes_of}
use Rattle.keywrap.proofs.siv.Keys.mask_block.Goals as goal

pub returns : goal.returns
returns c = c.xor.ensures.bytes ∙ ap (xor_bytes (bytes_of c.args.b)) (c.encrypt.ensures ∙ ap (encrypt 8 c.args.self.now.encryption.now) c.counter_block.ensures)
