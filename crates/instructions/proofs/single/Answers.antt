use Rattle.std.proofs.Common.{◌∙◌}
use Rattle.model.specs.Forms.{single}
use Rattle.instructions.proofs.Handles.{used_read}
use Rattle.instructions.proofs.single.Goals as goal

pub returns : goal.returns
returns c =
    let a = c.args in
    λ bytes p. c.use_single.ensures ∙ used_read a.memory.now a.at bytes (single a.u.now) a.k.now a.cpu.now _ c.handle_at-h.ensures p
