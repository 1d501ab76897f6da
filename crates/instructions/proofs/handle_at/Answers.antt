use Rattle.std.proofs.Common.{◌*◌}
use Rattle.fips197.specs.Sizes.{nk}
use Rattle.instructions.proofs.Handles.{three_parts}
use Rattle.instructions.proofs.handle_at.Goals as goal

pub returns : goal.returns
returns c = three_parts c.args.memory.now c.args.at (4 * nk c.args.size) c.block_at.ensures c.block_at-2.ensures c.key_at.ensures
