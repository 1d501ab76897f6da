use Rattle.std.proofs.Common.{ℕ, List, ◌++◌, ap₂}
use Rattle.ctr.proofs.Halves.{in_words}
use Rattle.ctr.proofs.counting.BlockFromCounter.from.Goals as goal

pub returns : goal.returns
returns c =
    let a = c.args.c in
    ap₂ (λ (x y : List ℕ). x ++ y) (in_words a.high c.swap.ensures c.first_half.ensures c.swap-2.ensures c.last_half.ensures)
    (in_words a.low c.swap-3.ensures c.first_half-2.ensures c.swap-4.ensures c.last_half-2.ensures)
