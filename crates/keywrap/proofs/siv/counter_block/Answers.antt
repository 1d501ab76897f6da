use Rattle.std.proofs.Common.{rules}
use Rattle.keywrap.proofs.Words.{counter_block_lem}
use Rattle.keywrap.proofs.siv.counter_block.Goals as goal

pub returns : goal.returns
returns c =
    let t = c.args.tag in
    counter_block_lem t.a t.b t.c t.d c.args.i (search rules)
