-- Products of a column of the matrix with bytes: how a table of them is built.
-- Assumes nothing.
use mathlib.Core.Path.{◌≡◌, sym, ap, ap₂, ◌∙◌}
use mathlib.Core.List.{List, [], ◌∷◌}
use Prim.Native.Nat.{ℕ, ◌+◌, ◌-◌, ◌*◌, ◌^◌, ◌≤◌, ◌<◌}
use native.Mathlib.Omega.{arith}
use lib.Bits.{bit_xor, xor_comm, xor_zero_r, xor_shifted}
use lib.ListN.{get_or}
use Rattle.bits.specs.Bytes.{xor_bytes}
use Rattle.bits.specs.Words.{le_bytes}
use Rattle.bits.proofs.Field.{zero-times, times_xor}
use Rattle.bits.proofs.Lists.{list4}
use Rattle.bits.proofs.Words.{le_xor}
use Rattle.fips197.specs.Field.{multiply}
use Rattle.fips197.specs.Cipher.{matrix_row}
use Rattle.fips197.proofs.Field.{gf256}
use Rattle.aes.specs.Columns.{mixed}
use Rattle.aes_blocks.specs.Tables.{part}
use Rattle.aes_inv_blocks.specs.Tables.{Products}

-- a column with a byte in row 0 alone
pub first_part : (q : List ℕ) (s : ℕ) → s < 256 → mixed q (le_bytes 4 s) ≡ part q s 0
unfolding mixed matrix_row
first_part q s h =
    let alone : le_bytes 4 s ≡ s ∷ 0 ∷ 0 ∷ 0 ∷ [] = list4 (omega arith) (omega arith) (omega arith) (omega arith) in
    ap (mixed q) alone ∙ simp (zero-times gf256, xor_zero_r)

-- the products with 0
pub no_products : (q m : List ℕ) → get_or m 0 0 ≡ 0 → Products q 1 m
no_products q m e i h =
    let z : i ≡ 0 = omega arith in
    ap (λ (j : ℕ). le_bytes 4 (get_or m j 0)) z ∙ ap (le_bytes 4) e ∙ sym (list4 (zero-times gf256 _) (zero-times gf256 _) (zero-times gf256 _) (zero-times gf256 _))
    ∙ ap (λ (s : ℕ). part q s 0) (sym z)

-- above a power of two, the part of a byte is a sum of two
pub sum_part : (q : List ℕ) (e : ℕ) {k i : ℕ} (x y : ℕ) → k ≡ 2 ^ e → k ≤ 128 → k ≤ i → i < 2 * k → le_bytes 4 x ≡ part q k 0
    → le_bytes 4 y ≡ part q (i - k) 0 → le_bytes 4 (bit_xor y x) ≡ part q i 0
sum_part q e {k} {i} x y power few h l ex ey =
    let j = i - k in
    let one : k ≡ 1 * 2 ^ e = omega (arith, power) in
    let whole : k + j ≡ i = omega arith in
    let sum : bit_xor j k ≡ i = xor_comm j k ∙ ap (λ (n : ℕ). bit_xor n j) one ∙ xor_shifted 1 e j (omega (arith, power)) ∙ ap (λ (n : ℕ). n + j) (sym one) ∙ whole in
    let row : (c : ℕ) → bit_xor (multiply j c) (multiply k c) ≡ multiply (bit_xor j k) c = λ c. sym (times_xor gf256 j k c (omega arith) (omega arith)) in
    le_xor 4 y x ∙ ap₂ xor_bytes ey ex ∙ list4 (row _) (row _) (row _) (row _) ∙ ap (λ (s : ℕ). part q s 0) sum
