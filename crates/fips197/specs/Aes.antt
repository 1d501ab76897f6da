-- FIPS 197 section 5: AES under a key of nk words, 4 for AES-128 and 8 for AES-256. The number of rounds is nk + 6.
-- Assumes nothing.
use Rattle.std.specs.Prelude.{List, ℕ, ◌+◌}
use Rattle.fips197.specs.Cipher.{cipher}
use Rattle.fips197.specs.InvCipher.{inv_cipher}
use Rattle.fips197.specs.KeyExpansion.{key_expansion}

-- 5.1: a block enciphered under a key
unfoldable pub encrypt : ℕ → List ℕ → List ℕ → List ℕ
encrypt nk key b = cipher (key_expansion nk key) (nk + 6) b

-- 5.3: a block deciphered under a key
unfoldable pub decrypt : ℕ → List ℕ → List ℕ → List ℕ
decrypt nk key b = inv_cipher (key_expansion nk key) (nk + 6) b
