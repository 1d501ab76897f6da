-- MixColumns and InvMixColumns give bytes and distribute over AddRoundKey, and InvMixColumns undoes MixColumns.
-- Assumes nothing.
use mathlib.Core.Path.{◌≡◌, sym, ◌∙◌}
use mathlib.Core.List.{List}
use Prim.Native.Nat.{ℕ, zero, suc, ◌+◌, ◌-◌, ◌%◌, ◌<◌}
use native.Mathlib.Nat.{mod-lt}
use native.Mathlib.Omega.{arith}
use lib.Bits.{bit_xor, xor_zero_r}
use lib.Dec.{lit<}
use lib.ListN.{get_or}
use Rattle.bits.specs.Bytes.{Bytes}
use Rattle.bits.proofs.Lists.{bytes_at}
use Rattle.bits.specs.Polynomials.{multiply_bits}
use Rattle.fips197.specs.Field.{xtime, multiply}
use Rattle.fips197.specs.State.{at, state}
use Rattle.fips197.specs.Cipher.{matrix_row, mix_by, mix_row, mix_columns, add_round_key}
use Rattle.fips197.specs.InvCipher.{inv_mix_row, inv_mix_columns}
use Rattle.bits.proofs.Field.{times-lt, times_xor, times_xor_right, times_assoc}
use Rattle.fips197.proofs.Field.{gf256}
use Rattle.fips197.proofs.State.{at_byte, state_ext, state_bytes}
use Rattle.fips197.proofs.Sum.{sum, sum_ext, sum_xor, sum_byte, sum_map, transpose}

-- ---- one row of the matrix times the column x

abbrev row : List ℕ → ℕ → (ℕ → ℕ) → ℕ
row q r x = matrix_row q r (x 0) (x 1) (x 2) (x 3)

-- the matrix in row r and column i
abbrev entry : List ℕ → ℕ → ℕ → ℕ
entry q r i = get_or q ((4 + i - r) % 4) 0

row_byte : (q : List ℕ) (r : ℕ) (x : ℕ → ℕ) → ((i : ℕ) → x i < 256) → row q r x < 256
unfolding matrix_row
row_byte q r x h = sum_byte (λ i. multiply (x i) (entry q r i)) (λ i. times-lt gf256 (x i) (entry q r i) (h i))

row-add : (q : List ℕ) (r : ℕ) (x y : ℕ → ℕ) → ((i : ℕ) → x i < 256) → ((i : ℕ) → y i < 256)
    → row q r (λ i. bit_xor (x i) (y i)) ≡ bit_xor (row q r x) (row q r y)
unfolding matrix_row
row-add q r x y hx hy =
    sum_ext (λ i. times_xor gf256 (x i) (y i) (entry q r i) (hx i) (hy i))
    ∙ sym (sum_xor (λ i. multiply (x i) (entry q r i)) (λ i. multiply (y i) (entry q r i)))

-- ---- two such matrices, one after the other

-- their product in row r and column j
abbrev product : List ℕ → List ℕ → ℕ → ℕ → ℕ
product p q r j = sum (λ i. multiply (entry q i j) (entry p r i))

row-row : (p q : List ℕ) (r : ℕ) (x : ℕ → ℕ) → Bytes q → ((i : ℕ) → x i < 256)
    → row p r (λ i. row q i x) ≡ sum (λ j. multiply (x j) (product p q r j))
unfolding matrix_row
row-row p q r x hq h =
    sum_ext (λ i.
    sum_map (λ j. multiply (x j) (entry q i j)) (λ j. times-lt gf256 (x j) (entry q i j) (h j)) (λ y. multiply y (entry p r i))
    (λ y z. times_xor gf256 y z (entry p r i))
    ∙ sum_ext (λ j. times_assoc gf256 (x j) (entry q i j) (entry p r i) (h j) (entry_byte i j)))
    ∙ transpose (λ i j. multiply (x j) (multiply (entry q i j) (entry p r i)))
    ∙ sum_ext (λ j.
    sym (sum_map (λ i. multiply (entry q i j) (entry p r i)) (λ i. times-lt gf256 (entry q i j) (entry p r i) (entry_byte i j)) (multiply (x j))
    (λ y z g k. times_xor_right gf256 (x j) y z)))
  where
    entry_byte : (i j : ℕ) → entry q i j < 256
    entry_byte i j = bytes_at q hq ((4 + j - i) % 4)

-- the matrix of InvMixColumns times that of MixColumns has 1 where the row is the column, and 0 elsewhere
unmix_row : (r : ℕ) (x : ℕ → ℕ) → ((i : ℕ) → x i < 256) → r < 4 → row inv_mix_row r (λ i. row mix_row i x) ≡ x r
unfolding multiply_bits xtime
unmix_row zero x h p =
    row-row inv_mix_row mix_row 0 x (omega arith) h ∙ xor_zero_r (bit_xor (bit_xor (x 0) 0) 0) ∙ xor_zero_r (bit_xor (x 0) 0) ∙ xor_zero_r (x 0)
unmix_row (suc zero) x h p = row-row inv_mix_row mix_row 1 x (omega arith) h ∙ xor_zero_r (bit_xor (x 1) 0) ∙ xor_zero_r (x 1)
unmix_row (suc (suc zero)) x h p = row-row inv_mix_row mix_row 2 x (omega arith) h ∙ xor_zero_r (x 2)
unmix_row (suc (suc (suc zero))) x h p = row-row inv_mix_row mix_row 3 x (omega arith) h
unmix_row (suc (suc (suc (suc r)))) x h p = absurd (omega arith)

-- ---- on states

pub mix_bytes : (q s : List ℕ) → Bytes s → Bytes (mix_by q s)
unfolding mix_by
mix_bytes q s h = state_bytes _ (λ r c. row_byte q r (λ i. at s i c) (λ i. at_byte s h i c))

pub mix_add : (q s k : List ℕ) → Bytes s → Bytes k → mix_by q (add_round_key s k) ≡ add_round_key (mix_by q s) (mix_by q k)
unfolding mix_by add_round_key
mix_add q s k hs hk = state_ext (λ r c. row-add q r (λ i. at s i c) (λ i. at k i c) (λ i. at_byte s hs i c) (λ i. at_byte k hk i c))

pub unmix : (s : List ℕ) → Bytes s → inv_mix_columns (mix_columns s) ≡ state (at s)
unfolding inv_mix_columns mix_columns mix_by
unmix s h = state_ext (λ r c. unmix_row (r % 4) (λ i. at s i c) (λ i. at_byte s h i c) (mod-lt r (lit< tt)))
