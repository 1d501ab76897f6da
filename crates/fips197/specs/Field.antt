-- FIPS 197 section 4: the finite field GF(2^8). A byte is a polynomial, bit i the coefficient of x^i.
-- Assumes nothing.
use Rattle.std.specs.Prelude.{ℕ, ◌*◌, ◌/◌, ◌%◌}
use Rattle.std.specs.Int.Bits.{bit_xor}
use Rattle.bits.specs.Polynomials.{multiply_bits}

-- 4.1: the sum of two bytes
abbrev pub add : ℕ → ℕ → ℕ
add a b = bit_xor a b

-- 4.2.1: a byte times x, modulo x^8 + x^4 + x^3 + x + 1: a shift, and 0x1b added where bit 7 was set
unfoldable pub xtime : ℕ → ℕ
xtime b = add (b * 2 % 256) (b / 128 * 0x1b)

-- 4.2: the product of two bytes, by repeated xtime (4.2.1)
abbrev pub multiply : ℕ → ℕ → ℕ
multiply a b = multiply_bits xtime 8 a b
