use Rattle.std.proofs.Common.{◌∙◌, ap, ap₂}
use Rattle.handle.specs.Format.{aad}
use Rattle.handle.specs.Wrap.{wrap_key}
use Rattle.keywrap.specs.Meaning.{padded}
use Rattle.model.specs.Cpu.{register}
use Rattle.model.specs.Instructions.{type_of, encoded_handle}
use Rattle.model.proofs.Uses.{handle_length_lem}
use Rattle.encodekey.proofs.Handles.{key_read, handle_read}
use Rattle.encodekey.proofs.handle_of.Goals as goal

pub returns : goal.returns
returns c =
    let e = c.args.e.now in
    let k = c.args.k.now in
    let cpu = c.args.cpu.now in
    let named = c.aad_of.ensures ∙ ap (aad (type_of e.size)) (c.register-source.ensures ∙ ap (λ n. register n cpu) c.register_of.ensures) in
    handle_read e.size c.wrap.result (encoded_handle e k cpu)
    (c.wrap.ensures ∙ ap (padded 64) (ap₂ (wrap_key k.integrity k.encryption) named (key_read e.size c.key_in.result cpu c.key_in.ensures)))
    (handle_length_lem e k cpu c.told-cpu)
