-- A column of the state as one word of 32 bits, its byte 0 lowest.
-- Assumes nothing.
use Rattle.std.specs.Prelude.{List, [], ◌∷◌, map, ℕ, ◌+◌, ◌%◌, get_or}
use Rattle.bits.specs.Words.{le_bytes}
use Rattle.fips197.specs.Field.{add, multiply}
use Rattle.fips197.specs.State.{word}
use Rattle.fips197.specs.Cipher.{matrix_row}

-- FIPS 197 section 4.2: every byte times k
unfoldable pub scaled : ℕ → List ℕ → List ℕ
scaled k l = map (λ (b : ℕ). multiply b k) l

-- the sum that makes a mixed column, as the code takes it: byte j is the sum of byte j of a, byte j + 1 of b, byte j + 2 of c and byte j + 3 of d
unfoldable pub staggered : List ℕ → List ℕ → List ℕ → List ℕ → List ℕ
staggered a b c d =
    word (λ j. add (add (add (get_or a j 0) (get_or b ((j + 1) % 4) 0)) (get_or c ((j + 2) % 4) 0)) (get_or d ((j + 3) % 4) 0))

-- FIPS 197 sections 5.1.3 and 5.3.3: a column times the matrix whose row 0 is q
unfoldable pub mixed : List ℕ → List ℕ → List ℕ
mixed q l = word (λ r. matrix_row q r (get_or l 0 0) (get_or l 1 0) (get_or l 2 0) (get_or l 3 0))

-- FIPS 197 sections 5.1.1 and 5.1.2: a column after SubBytes and ShiftRows: byte 0 of a, byte 1 of b, byte 2 of c and byte 3 of d, each through f
abbrev pub diagonal : (ℕ → ℕ) → ℕ → ℕ → ℕ → ℕ → List ℕ
diagonal f a b c d =
    f (get_or (le_bytes 4 a) 0 0) ∷ f (get_or (le_bytes 4 b) 1 0) ∷ f (get_or (le_bytes 4 c) 2 0) ∷ f (get_or (le_bytes 4 d) 3 0) ∷ []
