use Rattle.std.proofs.Common.{◌∙◌, Bool, ℕ, take, ap, refl}
use mathlib.Core.Bool.{cond}
use Rattle.std.proofs.Math.Option.{none, some}
use Rattle.aes.specs.Meaning.{bytes_of, key_bytes}
use Rattle.keywrap.specs.Meaning.{whole_key, opened}
use Rattle.keywrap.proofs.Ends.{expanded, unwrap_ends, opened_is}
use Rattle.keywrap.proofs.Sizes.{count, count_few, key_length, words_bytes}
use Rattle.keywrap.proofs.siv.unwrap.Goals as goal

pub invariant_of-keys : goal.invariant_of-keys
invariant_of-keys c =
    record { expanded = expanded c.expand-schedule.result c.from.result c.args.encryption.now c.expand-schedule.ensures.size c.expand-schedule.ensures.words c.from.ensures }

pub returns : goal.returns
returns c =
    let size = c.args.size in
    let h = c.args.handle.now in
    let key = c.mask-key.result in
    let part = ap (λ (n : ℕ). take n (whole_key key)) (words_bytes size) in
    ap opened c.then_some.ensures
    ∙ opened_is c.same.result key
    ∙ ap (λ (b : Bool). cond b (some (whole_key key)) none) c.same.ensures
    ∙ unwrap_ends c.args.integrity.now c.args.encryption.now (bytes_of h.aad) (bytes_of h.tag) (key_bytes size h.ciphertext) (whole_key key) (key_bytes size key) (count size)
    refl refl (key_length size h.ciphertext) (count_few size) c.mask-key.ensures part (bytes_of c.tag-tag.result) c.tag-tag.ensures
