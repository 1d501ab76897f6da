-- The tables of the inverse cipher, and round keys for the equivalent inverse cipher.
-- Assumes nothing.
use Rattle.std.specs.Prelude.{◌≡◌, List, ℕ, ◌<◌, get_or}
use Rattle.bits.specs.Words.{le_bytes}
use Rattle.fips197.specs.Sbox.{inv_sbox}
use Rattle.fips197.specs.InvCipher.{inv_mix_row}
use Rattle.aes.specs.Columns.{mixed}
use Rattle.aes_blocks.specs.Tables.{part, MixTable}

-- the products of column 0 of the matrix with the first n bytes
abbrev pub Products : List ℕ → ℕ → List ℕ → Type 0
Products q n m = (i : ℕ) → i < n → le_bytes 4 (get_or m i 0) ≡ part q i 0

-- FIPS 197 sections 5.3.2 and 5.3.3: the table of the inverse cipher
abbrev pub InvMixedTable : List ℕ → Type 0
InvMixedTable t = MixTable inv_mix_row inv_sbox 256 t

-- FIPS 197 section 5.3.5: the first n words of a schedule with InvMixColumns applied
abbrev pub InvMixed : List ℕ → ℕ → List ℕ → Type 0
InvMixed w n v = (i : ℕ) → i < n → le_bytes 4 (get_or v i 0) ≡ mixed inv_mix_row (le_bytes 4 (get_or w i 0))
