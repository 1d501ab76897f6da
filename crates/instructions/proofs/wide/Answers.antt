use Rattle.std.proofs.Common.{◌∙◌}
use Rattle.model.specs.Forms.{wide}
use Rattle.instructions.proofs.Handles.{used_read}
use Rattle.instructions.proofs.wide.Goals as goal

pub returns : goal.returns
returns c =
    let a = c.args in
    λ bytes p. c.use_wide.ensures ∙ used_read a.memory.now a.at bytes (wide a.u.now) a.k.now a.cpu.now _ c.handle_at-h.ensures p
