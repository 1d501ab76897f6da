-- AES-256 at three blocks, by FIPS 197's definitions: the example of its appendix C.3, enciphered and deciphered, and under an all-zero key the two
-- encryptions that make the handle of Intel 343965-001US chapter 6. They are apart from `fips197` and `handle`, so computed once and not again with each of
-- their edits.
-- Assumes nothing.
use mathlib.Core.Path.{◌≡◌, ◌∙◌, refl, sym, ap}
use mathlib.Core.List.{List, [], ◌∷◌}
use Prim.Native.Nat.{ℕ}
use native.Mathlib.Omega.{arith}
use lib.ListN.{replicate}
use Rattle.bits.proofs.Lists.{alike-eq}
use Rattle.fips197.specs.Aes.{encrypt, decrypt}
use Rattle.fips197.proofs.Undo.{decrypt-encrypt}
use Rattle.fips197.proofs.Examples.{computed, plaintext}

-- C.3: AES-256
abbrev pub key_256 : List ℕ
key_256 =
    0x00 ∷ 0x01 ∷ 0x02 ∷ 0x03 ∷ 0x04 ∷ 0x05 ∷ 0x06 ∷ 0x07 ∷ 0x08 ∷ 0x09 ∷ 0x0a ∷ 0x0b ∷ 0x0c ∷ 0x0d ∷ 0x0e ∷ 0x0f
    ∷ 0x10 ∷ 0x11 ∷ 0x12 ∷ 0x13 ∷ 0x14 ∷ 0x15 ∷ 0x16 ∷ 0x17 ∷ 0x18 ∷ 0x19 ∷ 0x1a ∷ 0x1b ∷ 0x1c ∷ 0x1d ∷ 0x1e ∷ 0x1f ∷ []

abbrev pub ciphertext_256 : List ℕ
ciphertext_256 = 0x8e ∷ 0xa2 ∷ 0xb7 ∷ 0xca ∷ 0x51 ∷ 0x67 ∷ 0x45 ∷ 0xbf ∷ 0xea ∷ 0xfc ∷ 0x49 ∷ 0x90 ∷ 0x4b ∷ 0x49 ∷ 0x60 ∷ 0x89 ∷ []

pub encrypt_256 : encrypt 8 key_256 plaintext ≡ ciphertext_256
unfolding computed
encrypt_256 = alike-eq (computed 8 key_256 plaintext) ciphertext_256 tt

pub decrypt_256 : decrypt 8 key_256 ciphertext_256 ≡ plaintext
decrypt_256 = ap (decrypt 8 key_256) (sym encrypt_256) ∙ decrypt-encrypt 8 key_256 plaintext (omega arith) (omega arith) refl

-- the all-zero key
abbrev pub first : List ℕ
first = 0xdc ∷ 0x95 ∷ 0xc0 ∷ 0x78 ∷ 0xa2 ∷ 0x40 ∷ 0x89 ∷ 0x89 ∷ 0xad ∷ 0x48 ∷ 0xa2 ∷ 0x14 ∷ 0x92 ∷ 0x84 ∷ 0x20 ∷ 0x87 ∷ []

abbrev pub second : List ℕ
second = 0x08 ∷ 0xc3 ∷ 0x74 ∷ 0x84 ∷ 0x8c ∷ 0x22 ∷ 0x82 ∷ 0x33 ∷ 0xc2 ∷ 0xb3 ∷ 0x4f ∷ 0x33 ∷ 0x2b ∷ 0xd2 ∷ 0xe9 ∷ 0xd3 ∷ []

pub of_zero : encrypt 8 (replicate 32 0) (replicate 16 0) ≡ first
unfolding computed
of_zero = alike-eq (computed 8 (replicate 32 0) (replicate 16 0)) first tt

pub of_first : encrypt 8 (replicate 32 0) first ≡ second
unfolding computed
of_first = alike-eq (computed 8 (replicate 32 0) first) second tt
