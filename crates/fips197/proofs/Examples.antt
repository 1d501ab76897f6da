-- FIPS 197 appendix C.1: the definitions give the document's example vectors. C.3 is in `aes256_examples`.
-- Assumes nothing.
use mathlib.Core.Path.{◌≡◌}
use mathlib.Core.List.{List, [], ◌∷◌}
use Prim.Native.Nat.{ℕ}
use Rattle.bits.proofs.Lists.{alike-eq}
use Rattle.bits.specs.Polynomials.{multiply_bits}
use Rattle.fips197.specs.Field.{xtime}
use Rattle.fips197.specs.Sbox.{square, next, inverse, bit, byte_of_bits, affine, sbox}
use Rattle.fips197.specs.Cipher.{sub_bytes, shift_rows, matrix_row, mix_by, mix_columns, add_round_key, round, final_round, rounds, cipher}
use Rattle.fips197.specs.KeyExpansion.{word_at, round_key, add_words, sub_word, rot_word, power, rcon, transformed, next_word, expanded, key_expansion}
use Rattle.fips197.specs.Aes.{encrypt}

-- encrypt, with all that it computes by
unfoldable pub computed : ℕ → List ℕ → List ℕ → List ℕ
unfolding encrypt cipher rounds final_round round add_round_key mix_columns mix_by matrix_row shift_rows sub_bytes
    word_at round_key add_words sub_word rot_word power rcon transformed next_word expanded key_expansion
    xtime multiply_bits square next inverse bit byte_of_bits affine sbox
computed nk key b = encrypt nk key b

abbrev pub plaintext : List ℕ
plaintext = 0x00 ∷ 0x11 ∷ 0x22 ∷ 0x33 ∷ 0x44 ∷ 0x55 ∷ 0x66 ∷ 0x77 ∷ 0x88 ∷ 0x99 ∷ 0xaa ∷ 0xbb ∷ 0xcc ∷ 0xdd ∷ 0xee ∷ 0xff ∷ []

-- C.1: AES-128
abbrev pub key_128 : List ℕ
key_128 = 0x00 ∷ 0x01 ∷ 0x02 ∷ 0x03 ∷ 0x04 ∷ 0x05 ∷ 0x06 ∷ 0x07 ∷ 0x08 ∷ 0x09 ∷ 0x0a ∷ 0x0b ∷ 0x0c ∷ 0x0d ∷ 0x0e ∷ 0x0f ∷ []

abbrev pub ciphertext_128 : List ℕ
ciphertext_128 = 0x69 ∷ 0xc4 ∷ 0xe0 ∷ 0xd8 ∷ 0x6a ∷ 0x7b ∷ 0x04 ∷ 0x30 ∷ 0xd8 ∷ 0xcd ∷ 0xb7 ∷ 0x80 ∷ 0x70 ∷ 0xb4 ∷ 0xc5 ∷ 0x5a ∷ []

pub encrypt_128 : encrypt 4 key_128 plaintext ≡ ciphertext_128
unfolding computed
encrypt_128 = alike-eq (computed 4 key_128 plaintext) ciphertext_128 tt
