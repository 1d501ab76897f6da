use Rattle.std.proofs.Common.{◌∙◌, ◌/◌, List, ℕ, length, sym, ap}
use Rattle.bits.specs.Blocks.{map_blocks}
use Rattle.fips197.specs.declared.Direction.{Direction}
use Rattle.aes.specs.Meaning.{key_bytes}
use Rattle.model.specs.Instructions.{aes}
use Rattle.aeskl.proofs.Ciphers.{enciphered, deciphered}
use Rattle.aeskl.proofs.Openings.{illegal_used, none_used, key_used}
use Rattle.aeskl.proofs.use_blocks.Goals as goal

pub returns-then-illegal : goal.returns-then-illegal
returns-then-illegal c =
    let a = c.args in
    let f : List ℕ → List ℕ → List ℕ = λ key. map_blocks (aes a.direction a.size key) (length a.blocks.now / 16) in
    illegal_used a.k.now a.cpl a.size a.direction a.h.now f a.blocks.now (sym c.illegal.ensures ∙ c.if-illegal.true)

pub returns-in_default : goal.returns-in_default
returns-in_default c =
    let a = c.args in
    let f : List ℕ → List ℕ → List ℕ = λ key. map_blocks (aes a.direction a.size key) (length a.blocks.now / 16) in
    none_used a.k.now a.cpl a.size a.direction a.h.now f a.blocks.now (sym c.illegal.ensures ∙ c.if-illegal.false) c.in_default.is c.unwrap.ensures

pub returns-in-Encrypt : goal.returns-in-Encrypt
returns-in-Encrypt c =
    let a = c.args in
    let n = length a.blocks.now / 16 in
    let key = c.in-Some.key in
    let f : List ℕ → List ℕ → List ℕ = λ key. map_blocks (aes a.direction a.size key) n in
    key_used a.k.now a.cpl a.size a.direction a.h.now f a.blocks.now key (sym c.illegal.ensures ∙ c.if-illegal.false) c.in-Some.is c.unwrap.ensures
    (c.encrypt_blocks.ensures ∙ enciphered a.size key c.expand-w.result c.expand-w.ensures.size c.expand-w.ensures.words n a.blocks.now
    ∙ ap (λ (d : Direction). map_blocks (aes d a.size (key_bytes a.size key)) n a.blocks.now) (sym c.in-Encrypt.is))

pub returns-in-Decrypt : goal.returns-in-Decrypt
returns-in-Decrypt c =
    let a = c.args in
    let n = length a.blocks.now / 16 in
    let key = c.in-Some.key in
    let f : List ℕ → List ℕ → List ℕ = λ key. map_blocks (aes a.direction a.size key) n in
    key_used a.k.now a.cpl a.size a.direction a.h.now f a.blocks.now key (sym c.illegal.ensures ∙ c.if-illegal.false) c.in-Some.is c.unwrap.ensures
    (c.decipher.ensures ∙ deciphered a.size key c.expand-w.result c.expand-w.ensures.size c.expand-w.ensures.words n a.blocks.now
    ∙ ap (λ (d : Direction). map_blocks (aes d a.size (key_bytes a.size key)) n a.blocks.now) (sym c.in-Decrypt.is))
