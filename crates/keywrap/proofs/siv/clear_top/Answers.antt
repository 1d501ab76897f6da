use Rattle.keywrap.proofs.Words.{clear_top_lem}
use Rattle.keywrap.proofs.siv.clear_top.Goals as goal

pub returns : goal.returns
returns c = clear_top_lem c.args.b.a c.args.b.b c.args.b.c c.args.b.d
