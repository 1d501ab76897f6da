-- Tables of mixed columns.
-- Assumes nothing.
use Rattle.std.specs.Prelude.{◌≡◌, List, ℕ, ◌+◌, ◌-◌, ◌%◌, ◌<◌, get_or}
use Rattle.bits.specs.Words.{le_bytes}
use Rattle.fips197.specs.Field.{multiply}
use Rattle.fips197.specs.State.{word}
use Rattle.fips197.specs.Sbox.{sbox}
use Rattle.fips197.specs.Cipher.{mix_row}

-- what the byte s in row k makes of a mixed column: column k of the matrix, times s
abbrev pub part : List ℕ → ℕ → ℕ → List ℕ
part q s k = word (λ r. multiply s (get_or q ((4 + k - r) % 4) 0))

-- the first n entries of a table: at i, the part that f of i makes in row 0
abbrev pub MixTable : List ℕ → (ℕ → ℕ) → ℕ → List ℕ → Type 0
MixTable q f n t = (i : ℕ) → i < n → le_bytes 4 (get_or t i 0) ≡ part q (f i) 0

-- FIPS 197 sections 5.1.1 and 5.1.3: the table of the cipher
abbrev pub MixedTable : List ℕ → Type 0
MixedTable t = MixTable mix_row sbox 256 t
