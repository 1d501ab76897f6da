-- Steps of the ciphers by a lent table of bytes in the S-box's place, whatever it holds.
-- Assumes nothing.
use Rattle.std.specs.Prelude.{List, ℕ, get_or}
use Rattle.fips197.specs.State.{at, state}
use Rattle.fips197.specs.Cipher.{shift_rows, add_round_key}
use Rattle.fips197.specs.InvCipher.{inv_shift_rows}

-- FIPS 197 sections 5.1.1 and 5.3.2: each byte of the state looked up
unfoldable pub table_sub_bytes : List ℕ → List ℕ → List ℕ
table_sub_bytes t s = state (λ r c. get_or t (at s r c) 0)

-- FIPS 197 section 5.1, figure 5: the final round
unfoldable pub table_final_round : List ℕ → List ℕ → List ℕ → List ℕ
table_final_round t s k = add_round_key (shift_rows (table_sub_bytes t s)) k

-- FIPS 197 section 5.3, figure 12: the last round
unfoldable pub table_inv_final_round : List ℕ → List ℕ → List ℕ → List ℕ
table_inv_final_round t s k = add_round_key (table_sub_bytes t (inv_shift_rows s)) k
