use Rattle.std.proofs.Common.{◌∙◌, List, ℕ, take, sym, ap}
use Rattle.std.proofs.lemmas.List.Edits.{sets}
use Rattle.fips197.specs.declared.KeySize.{KeySize}
use Rattle.keywrap.specs.Meaning.{handle_bytes}
use Rattle.encodekey.proofs.put_handle.Goals as goal

pub returns-in-Aes128 : goal.returns-in-Aes128
returns-in-Aes128 c =
    let cpu = c.args.cpu.now in
    c.put_part.ensures
    ∙ ap (sets cpu 0) (c.part.ensures ∙ ap (λ (l : List ℕ). take 48 l) c.into-bytes.ensures)
    ∙ ap (λ (z : KeySize). sets cpu 0 (handle_bytes z c.args.h.now)) (sym c.in-Aes128.is)

pub returns-in-Aes256 : goal.returns-in-Aes256
returns-in-Aes256 c =
    let cpu = c.args.cpu.now in
    c.put_part-in-Aes256.ensures ∙ ap (sets cpu 0) c.into-bytes.ensures ∙ ap (λ (z : KeySize). sets cpu 0 (handle_bytes z c.args.h.now)) (sym c.in-Aes256.is)
