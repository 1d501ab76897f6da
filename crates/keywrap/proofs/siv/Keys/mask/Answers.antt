use Rattle.std.proofs.Common.{◌∙◌, ◌++◌, [], List, ℕ, ap, ap₂, sym, refl, replicate}
use mathlib.Core.List.{flat_map}
use Rattle.fips197.specs.Aes.{encrypt}
use Rattle.fips197.proofs.Undo.{encrypt-length}
use Rattle.aes.specs.Meaning.{bytes_of, key_bytes}
use Rattle.fips197.specs.declared.KeySize.{KeySize}
use Rattle.handle.specs.Wrap.{counter_block, keystream, masked}
use Rattle.keywrap.specs.Meaning.{padded}
use Rattle.keywrap.proofs.Parts.{mask_blocks, last_block}
use Rattle.keywrap.proofs.siv.Keys.mask.Goals as goal

pub returns-in-Aes128 : goal.returns-in-Aes128
unfolding flat_map keystream
returns-in-Aes128 c =
    let key = c.args.key.now in
    let tag = bytes_of c.args.tag in
    let e = c.args.self.now.encryption.now in
    ap (λ (l : List ℕ). l ++ replicate 16 0) c.mask_block-low.ensures
    ∙ mask_blocks (bytes_of key.low) (encrypt 8 e (counter_block tag 0)) [] [] _ refl (encrypt-length 8 e (counter_block tag 0)) refl
    ∙ ap (λ (z : KeySize). padded 32 (masked e tag (key_bytes z key))) (sym c.in-Aes128.is)

pub returns-in-Aes256 : goal.returns-in-Aes256
unfolding flat_map keystream
returns-in-Aes256 c =
    let key = c.args.key.now in
    let tag = bytes_of c.args.tag in
    let e = c.args.self.now.encryption.now in
    let high = bytes_of key.high in
    let f : ℕ → List ℕ = λ i. encrypt 8 e (counter_block tag i) in
    ap₂ (λ (l m : List ℕ). l ++ m) c.mask_block-low.ensures c.mask_block.ensures
    ∙ mask_blocks (bytes_of key.low) (f 0) high (f 1 ++ []) _ refl (encrypt-length 8 e (counter_block tag 0)) (last_block high (f 1) refl (encrypt-length 8 e (counter_block tag 1)))
    ∙ ap (λ (z : KeySize). padded 32 (masked e tag (key_bytes z key))) (sym c.in-Aes256.is)
