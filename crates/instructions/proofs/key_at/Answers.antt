use Rattle.std.proofs.Common.{◌∙◌, ◌++◌, ◌*◌, List, ℕ, sym, ap, ap₂}
use Rattle.bits.proofs.Lists.{part_add}
use Rattle.fips197.specs.Sizes.{nk}
use Rattle.fips197.specs.declared.KeySize.{KeySize}
use Rattle.aes.specs.Meaning.{key_bytes}
use Rattle.aes.specs.declared.Key.{Key}
use Rattle.model.specs.Numbers.{part}
use Rattle.instructions.proofs.key_at.Goals as goal

pub returns-in-Aes256 : goal.returns-in-Aes256
returns-in-Aes256 c =
    let s = c.args.memory.now in
    let at = c.args.at in
    let key : Key = record { low = c.block_at-low.result; high = c.block_at.result } in
    ap (λ (z : KeySize). key_bytes z key) c.in-Aes256.is
    ∙ ap₂ (λ (x y : List ℕ). x ++ y) c.block_at-low.ensures c.block_at.ensures
    ∙ sym (part_add s at 16 16)
    ∙ ap (λ (z : KeySize). part (4 * nk z) at s) (sym c.in-Aes256.is)
