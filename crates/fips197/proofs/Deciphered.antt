-- FIPS 197 appendix C, the other way round.
-- Assumes nothing.
use mathlib.Core.Path.{◌≡◌, refl, sym, ap, ◌∙◌}
use native.Mathlib.Omega.{arith}
use Rattle.fips197.specs.Aes.{decrypt}
use Rattle.fips197.proofs.Examples.{plaintext, key_128, ciphertext_128, encrypt_128}
use Rattle.fips197.proofs.Undo.{decrypt-encrypt}

pub decrypt_128 : decrypt 4 key_128 ciphertext_128 ≡ plaintext
decrypt_128 = ap (decrypt 4 key_128) (sym encrypt_128) ∙ decrypt-encrypt 4 key_128 plaintext (omega arith) (omega arith) refl
