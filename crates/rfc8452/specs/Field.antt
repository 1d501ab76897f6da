-- RFC 8452 section 3: the field of POLYVAL, polynomials over bits modulo x^128 + x^127 + x^126 + x^121 + 1. A polynomial is a number, bit i the
-- coefficient of x^i; a block is the number of its bytes, the first lowest.
-- Assumes nothing.
use Rattle.std.specs.Prelude.{ℕ, ◌+◌, ◌*◌, ◌^◌, ◌/◌, ◌%◌}
use Rattle.std.specs.Int.Bits.{bit_xor}
use Rattle.bits.specs.Polynomials.{multiply_bits, times_power}

-- section 3: the sum of two elements
abbrev pub add : ℕ → ℕ → ℕ
add a b = bit_xor a b

-- section 3: an element times x: a shift, and x^127 + x^126 + x^121 + 1 added where the term x^128 appears
unfoldable pub times_x : ℕ → ℕ
times_x a = add (a * 2 % 2 ^ 128) (a * 2 / 2 ^ 128 * (2 ^ 127 + 2 ^ 126 + 2 ^ 121 + 1))

-- section 3: the product of two elements
abbrev pub multiply : ℕ → ℕ → ℕ
multiply a b = multiply_bits times_x 128 a b

-- section 3: an element times x^n
abbrev pub times_x_to : ℕ → ℕ → ℕ
times_x_to n a = times_power times_x n a

-- section 3: x^-128 = x^127 + x^124 + x^121 + x^114 + 1
abbrev pub inverse_x128 : ℕ
inverse_x128 = 2 ^ 127 + 2 ^ 124 + 2 ^ 121 + 2 ^ 114 + 1

-- section 3: dot(a, b) = a * b * x^-128
unfoldable pub dot : ℕ → ℕ → ℕ
dot a b = multiply (multiply a b) inverse_x128
