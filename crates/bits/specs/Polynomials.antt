-- Polynomials over bits: a number is a polynomial, bit i the coefficient of x^i. What the fields of FIPS 197 and RFC 8452 share.
-- Assumes nothing.
use Rattle.std.specs.Prelude.{ℕ, zero, suc, ◌/◌, ◌%◌}
use Rattle.std.specs.Int.Bits.{bit_xor}

-- a added where the bit is 1
abbrev pub add_if : ℕ → ℕ → ℕ → ℕ
add_if zero a r = r
add_if (suc bit) a r = bit_xor r a

-- a times the n low bits of b, by repeated multiplication by x
unfoldable pub multiply_bits : (ℕ → ℕ) → ℕ → ℕ → ℕ → ℕ
multiply_bits times_x zero a b = 0
multiply_bits times_x (suc n) a b = add_if (b % 2) a (multiply_bits times_x n (times_x a) (b / 2))

-- a times x^n
unfoldable pub times_power : (ℕ → ℕ) → ℕ → ℕ → ℕ
times_power times_x zero a = a
times_power times_x (suc n) a = times_x (times_power times_x n a)
