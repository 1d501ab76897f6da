use Rattle.std.proofs.Common.{◌∙◌, ℕ, ◌+◌, ◌*◌, List, replicate, ap}
use Rattle.std.proofs.lemmas.List.Edits.{sets}
use Rattle.model.specs.Cpu.{xmm_at, with_register, with_zf}
use Rattle.model.specs.Instructions.{encoded}
use Rattle.encodekey.proofs.encode.Goals as goal

pub returns : goal.returns
unfolding encoded
returns c =
    let k = c.args.k.now in
    c.put_zf.ensures
    ∙ ap (with_zf 0)
    (c.put_register.ensures
    ∙ ap (with_register c.args.e.now.destination (k.no_backup + 2 * k.source))
    (c.clear_xmm.ensures
    ∙ ap (λ (l : List ℕ). sets l (xmm_at 4) (replicate (3 * 16) 0))
    (c.put_handle.ensures ∙ ap (sets c.args.cpu.now (xmm_at 0)) c.handle_of-h.ensures)))
