use Rattle.std.proofs.Common.{◌≡◌, ◌∙◌, List, ℕ, ◌++◌, length, take, sym, ap, ap₂, arith, rules}
use Rattle.std.proofs.lemmas.List.{length-take}
use Rattle.bits.specs.Bytes.{xor_bytes}
use Rattle.bits.proofs.Lists.{part_add}
use Rattle.bits.proofs.Xor.{xor_append}
use Rattle.aes.specs.Meaning.{bytes_of}
use Rattle.model.specs.Numbers.{part}
use Rattle.loadiwkey.proofs.mixed.Goals as goal

pub returns : goal.returns
returns c =
    let k = c.args.k.now in
    let random = c.args.random.now in
    let size : length random ≡ 48 = search rules in
    let front : 16 ≡ length (take 16 random) = simp (length-take) (omega (arith, size)) in
    let low = c.xor.ensures.bytes ∙ ap (xor_bytes (bytes_of c.from-encryption.result.low)) c.block_at.ensures in
    let high = c.xor-2.ensures.bytes ∙ ap (xor_bytes (bytes_of c.from-encryption.result.high)) c.block_at-2.ensures in
    let encryption =
    c.into-2.ensures ∙ ap₂ (λ (x y : List ℕ). x ++ y) low high
    ∙ sym (xor_append (bytes_of c.from-encryption.result.low) (bytes_of c.from-encryption.result.high) (part 16 0 random) (part 16 16 random) front)
    ∙ ap₂ xor_bytes c.from-encryption.ensures (sym (part_add random 0 16 16)) in
    let integrity = c.into.ensures ∙ c.xor-3.ensures.bytes ∙ ap₂ xor_bytes c.from-integrity.ensures c.block_at-3.ensures in
    λ j. record { integrity = integrity j; encryption = encryption j; source = k.source; no_backup = k.no_backup }
