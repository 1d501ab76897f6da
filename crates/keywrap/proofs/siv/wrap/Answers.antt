use Rattle.std.proofs.Common.{refl}
use Rattle.aes.specs.Meaning.{bytes_of, key_bytes}
use Rattle.keywrap.proofs.Ends.{expanded, wrap_ends}
use Rattle.keywrap.proofs.siv.wrap.Goals as goal

pub invariant_of-keys : goal.invariant_of-keys
invariant_of-keys c =
    record { expanded = expanded c.expand-schedule.result c.from.result c.args.encryption.now c.expand-schedule.ensures.size c.expand-schedule.ensures.words c.from.ensures }

pub returns : goal.returns
returns c =
    wrap_ends c.args.integrity.now c.args.encryption.now (bytes_of c.args.aad) (key_bytes c.args.size c.args.key.now) _ _ refl c.tag-tag.ensures c.mask-ciphertext.ensures
