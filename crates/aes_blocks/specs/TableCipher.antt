-- The cipher of FIPS 197 by lent tables, whatever they hold: t of 256 words, in the place of SubBytes and MixColumns, and f of 256 bytes, in the S-box's.
-- Assumes nothing.
use Rattle.std.specs.Prelude.{◌≡◌, List, ℕ, zero, suc, ◌+◌, ◌-◌, length, get_or}
use mathlib.Core.Path.{refl}
use Rattle.bits.specs.Words.{le_bytes}
use Rattle.fips197.specs.State.{at, word, state}
use Rattle.fips197.specs.Cipher.{shift_rows, add_round_key}
use Rattle.fips197.specs.KeyExpansion.{round_key}
use Rattle.aes.specs.Columns.{staggered}
use Rattle.aes.specs.Tables.{table_final_round}

-- the four bytes of an entry
abbrev pub entry_bytes : List ℕ → ℕ → List ℕ
entry_bytes t i = le_bytes 4 (get_or t i 0)

-- 5.1.1 and 5.1.3: a column is the sum of the entries at its four bytes, where the entry of row k is moved down by k rows
unfoldable pub table_column : List ℕ → List ℕ → List ℕ
table_column t l = staggered (entry_bytes t (get_or l 0 0)) (entry_bytes t (get_or l 3 0)) (entry_bytes t (get_or l 2 0)) (entry_bytes t (get_or l 1 0))

-- 5.1.1 and 5.1.3: every column
unfoldable pub table_columns : List ℕ → List ℕ → List ℕ
table_columns t s = state (λ r c. get_or (table_column t (word (λ k. at s k c))) r 0)

-- 5.1, figure 5: a round
unfoldable pub table_round : List ℕ → List ℕ → List ℕ → List ℕ
table_round t s k = add_round_key (table_columns t (shift_rows s)) k

-- 5.1, figure 5: rounds 1 to n
unfoldable pub table_rounds : List ℕ → List ℕ → ℕ → List ℕ → List ℕ
table_rounds t w zero s = s
table_rounds t w (suc n) s = table_round t (table_rounds t w n s) (round_key w (n + 1))

-- 5.1, figure 5: the cipher of nr rounds under the key schedule w
unfoldable pub table_cipher : List ℕ → List ℕ → List ℕ → ℕ → List ℕ → List ℕ
table_cipher t f w nr s = table_final_round f (table_rounds t w (nr - 1) (add_round_key s (round_key w 0))) (round_key w nr)

-- it makes a block
pub cipher-length : (t f w : List ℕ) (n : ℕ) (b : List ℕ) → length (table_cipher t f w n b) ≡ 16
unfolding table_cipher table_final_round add_round_key
cipher-length t f w n b = refl
