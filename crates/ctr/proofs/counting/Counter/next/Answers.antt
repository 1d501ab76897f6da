use Rattle.std.proofs.Common.{◌^◌, ◌<◌, refl, rules}
use Rattle.ctr.proofs.Halves.{high_counts}
use Rattle.ctr.proofs.counting.Counter.next.Goals as goal

pub returns-then-low-eq0 : goal.returns-then-low-eq0
returns-then-low-eq0 c =
    let high : c.args.self.high < 2 ^ 64 = search rules in
    let low : c.args.self.low < 2 ^ 64 = search rules in
    high_counts c.args.self.high c.args.self.low high low _ _ refl c.if-low-eq0.true refl
