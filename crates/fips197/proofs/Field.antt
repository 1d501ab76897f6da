-- GF(2^8) is a field of bits/proofs/Field; the inverse is the multiplicative inverse, and its own inverse.
-- Assumes nothing.
use mathlib.Core.Path.{◌≡◌, refl, sym, ap, ◌∙◌}
use Prim.Native.Nat.{ℕ, zero, suc, ◌*◌, ◌/◌, ◌%◌, ◌^◌, ◌<◌, min}
use native.Mathlib.Omega.{arith}
use lib.Dec.{lit<}
use Rattle.bits.specs.Polynomials.{multiply_bits}
use Rattle.bits.proofs.Field.{Field, times-lt, times-one, one-times, times_assoc}
use Rattle.bits.proofs.Table.{bytes, same}
use Rattle.fips197.specs.Field.{add, xtime, multiply}
use Rattle.fips197.specs.Sbox.{square, next, inverse}

-- xtime as the field has it
pub xtime_shifts : (b : ℕ) → b < 2 ^ 8 → xtime b ≡ add (b * 2 % 2 ^ 8) (b * 2 / 2 ^ 8 * 0x1b)
unfolding xtime
xtime_shifts b h =
    let e : b / 128 ≡ b * 2 / 256 = omega arith in
    ap (λ (n : ℕ). add (b * 2 % 256) (n * 0x1b)) e

abbrev pub gf256 : Field
gf256 = record { times_x = xtime; degree = 8; rest = 0x1b; positive = lit< tt; small = lit< tt; shifts = xtime_shifts }

-- ---- the inverse

pub inverse_byte : (a : ℕ) → a < 256 → inverse a < 256
unfolding inverse square next
inverse_byte a h = times-lt gf256 (next a (next a (next a (next a (next a (next a a)))))) _ (times-lt gf256 a _ h)

pub inverse_is : (a : ℕ) → 0 < a → a < 256 → multiply a (inverse a) ≡ 1
unfolding bytes inverse next square multiply_bits xtime
inverse_is a p h = same (λ x. multiply x (inverse x)) (λ x. min x 1) tt a h ∙ omega arith

inverse-zero : inverse 0 ≡ 0
unfolding inverse next square multiply_bits xtime
inverse-zero = refl

-- a factor of 1 is not 0
factor : (a b : ℕ) → multiply a b ≡ 1 → 0 < b
unfolding multiply_bits
factor a zero e = omega arith
factor a (suc b) e = omega arith

pub inverse-inverse : (a : ℕ) → a < 256 → inverse (inverse a) ≡ a
inverse-inverse zero h = ap inverse inverse-zero ∙ inverse-zero
inverse-inverse (suc n) h =
    let a = suc n in
    let b = inverse a in
    let hb = inverse_byte a h in
    let c = inverse b in
    let ab = inverse_is a (omega arith) h in
    let bc = inverse_is b (factor a b ab) hb in
    sym (one-times gf256 c (inverse_byte b hb)) ∙ ap (λ (x : ℕ). multiply x c) (sym ab) ∙ times_assoc gf256 a b c h hb
    ∙ ap (multiply a) bc ∙ times-one gf256 a h
