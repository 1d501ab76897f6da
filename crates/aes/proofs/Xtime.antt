-- xtime of every byte of a word at once, over the width: n is the number of bytes.
-- Assumes nothing.
use mathlib.Core.Path.{◌≡◌, refl, ap, ap₂, ◌∙◌}
use Prim.Native.Nat.{ℕ, zero, suc, ◌+◌, ◌*◌, ◌/◌, ◌%◌, ◌<◌}
use native.Mathlib.Nat.{mod-eq_of_lt}
use native.Mathlib.Omega.{arith}
use lib.Arith.{digits_div, digits_mod}
use lib.Bits.{bit_xor, bit_and, and_mask, and_high, and_shr, and_mod, and_zero_r, and_le_r, xor_shr, xor_mod}
use lib.Dec.{lit<}
use Rattle.bits.specs.Words.{le_bytes}
use Rattle.bits.proofs.Lists.{cons}
use Rattle.bits.specs.Polynomials.{multiply_bits}
use Rattle.fips197.specs.Field.{xtime}
use Rattle.aes.specs.Columns.{scaled}

-- the word of n bytes m
abbrev mask : ℕ → ℕ → ℕ
mask zero m = 0
mask (suc n) m = m + 256 * mask n m

module _ (n m w : ℕ) (h : m < 256) where
  mask_low : bit_and w (mask (suc n) m) % 256 ≡ bit_and (w % 256) m
  mask_low =
      let e : (m + 256 * mask n m) % 256 ≡ m = omega arith in
      and_mod w (mask (suc n) m) 8 ∙ ap (bit_and (w % 256)) e

  mask_high : bit_and w (mask (suc n) m) / 256 ≡ bit_and (w / 256) (mask n m)
  mask_high =
      let e : (m + 256 * mask n m) / 256 ≡ mask n m = omega arith in
      and_shr w (mask (suc n) m) 8 ∙ ap (bit_and (w / 256)) e

-- the low seven bits of a byte, and its top bit
low : (b : ℕ) → bit_and b 127 ≡ b % 128
low b = and_mask b 7

top : (b : ℕ) → b < 256 → bit_and b 128 ≡ b / 128 * 128
top b h = and_high b 1 7 ∙ ap (λ (x : ℕ). x * 128) (mod-eq_of_lt (omega arith))

-- the top bits leave the low seven bits of the lowest byte clear
mask_clear : (n : ℕ) → mask n 128 % 128 ≡ 0
mask_clear zero = refl
mask_clear (suc n) = omega arith

clear : (n w : ℕ) → bit_and w (mask n 128) % 128 ≡ 0
clear n w = and_mod w (mask n 128) 7 ∙ ap (bit_and (w % 128)) (mask_clear n) ∙ and_zero_r (w % 128)

-- the low seven bits of a byte move up within it, and 27 times its top bit fits it: no byte reaches its neighbour
spread : (n w : ℕ) → le_bytes n (bit_xor (bit_and w (mask n 127) * 2) (bit_and w (mask n 128) / 128 * 27)) ≡ scaled 2 (le_bytes n w)
unfolding scaled multiply_bits xtime
spread zero w = refl
spread (suc n) w =
    let a = bit_and w (mask (suc n) 127) in
    let b = bit_and w (mask (suc n) 128) in
    let al : a % 256 ≡ w % 256 % 128 = mask_low n 127 w (lit< tt) ∙ low (w % 256) in
    let ah : a / 256 ≡ bit_and (w / 256) (mask n 127) = mask_high n 127 w (lit< tt) in
    let bl : b % 256 ≡ w % 256 / 128 * 128 = mask_low n 128 w (lit< tt) ∙ top (w % 256) (omega arith) in
    let bh : b / 256 ≡ bit_and (w / 256) (mask n 128) = mask_high n 128 w (lit< tt) in
    let bc : b / 256 % 128 ≡ 0 = ap (λ (x : ℕ). x % 128) bh ∙ clear n (w / 256) in
    let q = b / 256 / 128 * 27 in
    let r = w % 256 / 128 * 27 in
    let s : r < 256 = omega arith in
    let bd : b / 128 * 27 ≡ q * 256 + r = omega arith in
    let e : a * 2 % 256 ≡ w % 256 * 2 % 256 = omega arith in
    let f : b / 128 * 27 % 256 ≡ r = ap (λ (x : ℕ). x % 256) bd ∙ digits_mod q s in
    let g : a * 2 / 256 ≡ bit_and (w / 256) (mask n 127) * 2 = omega arith in
    let k : b / 128 * 27 / 256 ≡ bit_and (w / 256) (mask n 128) / 128 * 27 =
    ap (λ (x : ℕ). x / 256) bd ∙ digits_div q s ∙ ap (λ (x : ℕ). x / 128 * 27) bh in
    cons (xor_mod (a * 2) (b / 128 * 27) 8 ∙ ap₂ bit_xor e f)
    (ap (le_bytes n) (xor_shr (a * 2) (b / 128 * 27) 8 ∙ ap₂ bit_xor g k) ∙ spread n (w / 256))

-- as the code computes it, modulo m
module _ (n m w : ℕ) where
  pub xtimes : mask n 127 * 2 < m → le_bytes n (bit_xor (bit_and w (mask n 127) * 2 % m) (bit_and w (mask n 128) / 128 * 27)) ≡ scaled 2 (le_bytes n w)
  xtimes h =
      let fits : bit_and w (mask n 127) * 2 < m = omega (arith, and_le_r w (mask n 127)) in
      ap (λ (x : ℕ). le_bytes n (bit_xor x (bit_and w (mask n 128) / 128 * 27))) (mod-eq_of_lt fits) ∙ spread n w

  pub top_fits : mask n 128 / 128 * 27 < m → bit_and w (mask n 128) / 128 * 27 < m
  top_fits h = omega (arith, and_le_r w (mask n 128))
