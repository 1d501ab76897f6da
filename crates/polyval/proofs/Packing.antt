-- Elements, their words and their bytes.
-- Assumes nothing.
use mathlib.Core.Path.{◌≡◌, refl, sym, ap, ap₂, ◌∙◌}
use mathlib.Core.List.{List, ◌++◌}
use Prim.Native.Nat.{ℕ, ◌+◌, ◌*◌, ◌/◌, ◌%◌, ◌^◌, ◌<◌}
use native.Mathlib.Nat.{add_comm, mul-add, mul_assoc, mul-one, mod-lt, mod-eq_of_lt}
use native.Mathlib.Omega.{arith}
use lib.Bits.{bit_xor}
use lib.Pow.{pow_pos, shl_lt, split}
use Rattle.bits.specs.Words.{le_bytes, le_value}
use Rattle.bits.proofs.Words.{le-append, value_of_le}
use Rattle.rfc8452.specs.Field.{times_x}
use Rattle.polyval.proofs.Halves.{xor_halves, halves_lt, moved_low, moved_high}

-- two words of four bytes as one of eight
pub joined : (a b : ℕ) → a < 2 ^ 32 → b < 2 ^ 32 → le_bytes 8 (a + b * 2 ^ 32 % 2 ^ 64) ≡ le_bytes 4 a ++ le_bytes 4 b
joined a b p q =
    ap (λ (n : ℕ). le_bytes 8 (a + n)) (mod-eq_of_lt (shl_lt 32 32 q)) ∙ ap (le_bytes 8) (add_comm a (b * 2 ^ 32)) ∙ le-append 4 4 a b p

-- a word of eight bytes as two of four
parted : (x : ℕ) → le_bytes 8 x ≡ le_bytes 4 (x % 2 ^ 32) ++ le_bytes 4 (x / 2 ^ 32)
parted x = ap (le_bytes 8) (sym (split x 32)) ∙ le-append 4 4 (x % 2 ^ 32) (x / 2 ^ 32) (mod-lt x (pow_pos 32))

-- an element of two words, and the bytes of its block
pub packed : (hi lo : ℕ) (l h : List ℕ) → hi < 2 ^ 64 → lo < 2 ^ 64 → le_bytes 8 lo ≡ l → le_bytes 8 hi ≡ h → hi * 2 ^ 64 + lo ≡ le_value (l ++ h)
packed hi lo l h p q e f =
    sym (value_of_le 16 (hi * 2 ^ 64 + lo) (halves_lt hi lo p q)) ∙ ap le_value (le-append 8 8 lo hi q ∙ ap₂ (λ (x y : List ℕ). x ++ y) e f)

pub unpacked : (hi lo : ℕ) → lo < 2 ^ 64
    → le_bytes 4 (lo % 2 ^ 32) ++ le_bytes 4 (lo / 2 ^ 32) ++ le_bytes 4 (hi % 2 ^ 32) ++ le_bytes 4 (hi / 2 ^ 32) ≡ le_bytes 16 (hi * 2 ^ 64 + lo)
unpacked hi lo q = sym (le-append 8 8 lo hi q ∙ ap₂ (λ (x y : List ℕ). x ++ y) (parted lo) (parted hi))

-- an element times x, in words
pub times_x_lem : (hi lo : ℕ) → hi < 2 ^ 64 → lo < 2 ^ 64
    → bit_xor (hi * 2 % 2 ^ 64 + lo / 2 ^ 63) (hi / 2 ^ 63 * 0xC200_0000_0000_0000) * 2 ^ 64 + bit_xor (lo * 2 % 2 ^ 64) (hi / 2 ^ 63)
    ≡ times_x (hi * 2 ^ 64 + lo)
unfolding times_x
times_x_lem hi lo p q =
    let t = hi / 2 ^ 63 in
    let small : t < 2 ^ 64 = omega arith in
    xor_halves (hi * 2 % 2 ^ 64 + lo / 2 ^ 63) (lo * 2 % 2 ^ 64) (t * 0xC200_0000_0000_0000) t (mod-lt (lo * 2) (pow_pos 64)) small
    ∙ ap₂ bit_xor (sym (moved_low 63 1 hi lo refl q))
    (sym (spread t 0xC200_0000_0000_0000 (2 ^ 64)) ∙ ap (λ (n : ℕ). n * (0xC200_0000_0000_0000 * 2 ^ 64 + 1)) (sym (moved_high 63 1 hi lo refl q)))
  where
    spread : (t k m : ℕ) → t * (k * m + 1) ≡ t * k * m + t
    spread t k m = mul-add t (k * m) 1 ∙ ap₂ (λ (a b : ℕ). a + b) (sym (mul_assoc t k m)) (mul-one t)
