-- FIPS 197 section 5.3: the inverse cipher.
-- Assumes nothing.
use Rattle.std.specs.Prelude.{List, [], ◌∷◌, ℕ, zero, suc, ◌+◌, ◌-◌, ◌%◌}
use Rattle.fips197.specs.Sbox.{inv_sbox}
use Rattle.fips197.specs.State.{at, state}
use Rattle.fips197.specs.Cipher.{mix_by, add_round_key}
use Rattle.fips197.specs.KeyExpansion.{round_key}

-- 5.3.1: row r moves right by r
unfoldable pub inv_shift_rows : List ℕ → List ℕ
inv_shift_rows s = state (λ r c. at s r ((c + 4 - r) % 4))

-- 5.3.2
unfoldable pub inv_sub_bytes : List ℕ → List ℕ
inv_sub_bytes s = state (λ r c. inv_sbox (at s r c))

-- 5.3.3, equation (5.10)
abbrev pub inv_mix_row : List ℕ
inv_mix_row = 0x0e ∷ 0x0b ∷ 0x0d ∷ 0x09 ∷ []

-- 5.3.3
unfoldable pub inv_mix_columns : List ℕ → List ℕ
inv_mix_columns s = mix_by inv_mix_row s

-- 5.3, figure 12: the last round, which has no InvMixColumns
unfoldable pub inv_final_round : List ℕ → List ℕ → List ℕ
inv_final_round s k = add_round_key (inv_sub_bytes (inv_shift_rows s)) k

-- 5.3, figure 12: a round
unfoldable pub inv_round : List ℕ → List ℕ → List ℕ
inv_round s k = inv_mix_columns (inv_final_round s k)

-- 5.3, figure 12: rounds n down to 1
unfoldable pub inv_rounds : List ℕ → ℕ → List ℕ → List ℕ
inv_rounds w zero s = s
inv_rounds w (suc n) s = inv_rounds w n (inv_round s (round_key w (n + 1)))

-- 5.3, figure 12: the inverse cipher of nr rounds under the key schedule w
unfoldable pub inv_cipher : List ℕ → ℕ → List ℕ → List ℕ
inv_cipher w nr s = inv_final_round (inv_rounds w (nr - 1) (add_round_key s (round_key w nr))) (round_key w 0)
