use Rattle.std.proofs.Common.{◌≡◌, ◌∙◌, ◌++◌, List, ℕ, length, sym, ap₂, take_all, rules, arith}
use Rattle.bits.proofs.Lists.{part_add}
use Rattle.aes.proofs.bytes.KeyFromArrayU832.from.Goals as goal

pub returns : goal.returns
returns c =
    let b = c.args.bytes in
    let e : length b ≡ 32 = search rules in
    ap₂ (λ (x y : List ℕ). x ++ y) c.block_at-low.ensures c.block_at-high.ensures ∙ sym (part_add b 0 16 16) ∙ take_all 32 b (omega arith)
