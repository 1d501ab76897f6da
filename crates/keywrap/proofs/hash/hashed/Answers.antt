use Rattle.std.proofs.Common.{◌∙◌}
use Rattle.keywrap.proofs.Message.{hash_ends}
use Rattle.keywrap.proofs.hash.hashed.Goals as goal

pub returns : goal.returns
returns c =
    c.polyval.ensures
    ∙ hash_ends c.args.size c.args.integrity.now c.args.aad c.args.key.now c.length_block.result c.words.ensures c.from.ensures c.put_block.ensures
    c.put_block-2.ensures c.put_block-3.ensures c.put_block-4.ensures c.length_block.ensures
