use Rattle.std.proofs.Common.{◌≡◌, ◌∙◌, ◌+◌, ◌*◌, List, ℕ, take, ap}
use Rattle.fips197.specs.Sizes.{nk}
use Rattle.fips197.specs.declared.KeySize.{KeySize}
use Rattle.handle.specs.Wrap.{unwrap_key}
use Rattle.keywrap.specs.Meaning.{padded_key, handle_bytes, whole_handle}
use Rattle.keywrap.specs.declared.Handle.{Handle}
use Rattle.keywrap.proofs.Sizes.{first_bytes}
use Rattle.keywrap_c.specs.Answer as answer
use Rattle.keywrap_c.proofs.keywrap_unwrap.Goals as goal

-- unwrapping reads the bytes that a handle of the size has
opened : (i e : List ℕ) (size : KeySize) (h : Handle) {z : KeySize} {b : List ℕ} → size ≡ z → whole_handle h ≡ b
    → padded_key (unwrap_key i e (handle_bytes size h)) ≡ padded_key (unwrap_key i e (take (32 + 4 * nk z) b))
opened i e size h f g =
    ap (λ (l : List ℕ). padded_key (unwrap_key i e l)) (first_bytes size h) ∙ (λ j. padded_key (unwrap_key i e (take (32 + 4 * nk (f j)) (g j))))

pub returns-in-Some : goal.returns-in-Some
returns-in-Some c =
    let u = c.in-Some.ensures ∙ opened c.args.integrity.now c.args.encryption.now _ _ c.key_size.ensures c.from.ensures in
    record { code = ap answer.code u; key = c.from-in-Some.ensures ∙ ap answer.bytes u }

pub returns-in-None : goal.returns-in-None
returns-in-None c =
    let u = c.in-None.ensures ∙ opened c.args.integrity.now c.args.encryption.now _ _ c.key_size.ensures c.from.ensures in
    record { code = ap answer.code u; key = ap answer.bytes u }
