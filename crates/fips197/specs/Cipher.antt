-- FIPS 197 section 5.1: the cipher.
-- Assumes nothing.
use Rattle.std.specs.Prelude.{List, [], ◌∷◌, ℕ, zero, suc, ◌+◌, ◌-◌, ◌%◌, get_or}
use Rattle.fips197.specs.Field.{add, multiply}
use Rattle.fips197.specs.Sbox.{sbox}
use Rattle.fips197.specs.State.{at, state}
use Rattle.fips197.specs.KeyExpansion.{round_key}

-- 5.1.1
unfoldable pub sub_bytes : List ℕ → List ℕ
sub_bytes s = state (λ r c. sbox (at s r c))

-- 5.1.2: row r moves left by r
unfoldable pub shift_rows : List ℕ → List ℕ
shift_rows s = state (λ r c. at s r ((c + r) % 4))

-- 5.1.3 and 5.3.3: byte r of a column times the matrix whose row 0 is q and whose other rows are the one above moved right by one
unfoldable pub matrix_row : List ℕ → ℕ → ℕ → ℕ → ℕ → ℕ → ℕ
matrix_row q r s0 s1 s2 s3 =
    add (add (add (multiply s0 (get_or q ((4 - r) % 4) 0)) (multiply s1 (get_or q ((5 - r) % 4) 0))) (multiply s2 (get_or q ((6 - r) % 4) 0)))
    (multiply s3 (get_or q ((7 - r) % 4) 0))

-- 5.1.3 and 5.3.3: every column times that matrix
unfoldable pub mix_by : List ℕ → List ℕ → List ℕ
mix_by q s = state (λ r c. matrix_row q r (at s 0 c) (at s 1 c) (at s 2 c) (at s 3 c))

-- 5.1.3, equation (5.6)
abbrev pub mix_row : List ℕ
mix_row = 0x02 ∷ 0x03 ∷ 0x01 ∷ 0x01 ∷ []

-- 5.1.3
unfoldable pub mix_columns : List ℕ → List ℕ
mix_columns s = mix_by mix_row s

-- 5.1.4
unfoldable pub add_round_key : List ℕ → List ℕ → List ℕ
add_round_key s k = state (λ r c. add (at s r c) (at k r c))

-- 5.1, figure 5: a round, and the final round, which has no MixColumns
unfoldable pub round : List ℕ → List ℕ → List ℕ
round s k = add_round_key (mix_columns (shift_rows (sub_bytes s))) k

unfoldable pub final_round : List ℕ → List ℕ → List ℕ
final_round s k = add_round_key (shift_rows (sub_bytes s)) k

-- 5.1, figure 5: rounds 1 to n
unfoldable pub rounds : List ℕ → ℕ → List ℕ → List ℕ
rounds w zero s = s
rounds w (suc n) s = round (rounds w n s) (round_key w (n + 1))

-- 5.1, figure 5: the cipher of nr rounds under the key schedule w
unfoldable pub cipher : List ℕ → ℕ → List ℕ → List ℕ
cipher w nr s = final_round (rounds w (nr - 1) (add_round_key s (round_key w 0))) (round_key w nr)
