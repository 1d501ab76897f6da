-- FIPS 197 sections 5.1.1 and 5.3.2: the S-box and its inverse.
-- Assumes nothing.
use Rattle.std.specs.Prelude.{◌≡◌, List, ℕ, ◌+◌, ◌*◌, ◌/◌, ◌%◌, ◌^◌, ◌<◌, get_or}
use Rattle.fips197.specs.Field.{multiply}

-- 4.2: powers of a byte, on the way to its inverse
unfoldable pub square : ℕ → ℕ
square a = multiply a a

-- 4.2: from a^(2^k - 1) to a^(2^(k+1) - 1)
unfoldable pub next : ℕ → ℕ → ℕ
next a p = multiply a (square p)

-- 4.2: the multiplicative inverse, with 0 mapped to itself, as a^254, the square of a^127.
-- proofs/Field.antt shows that it is the inverse.
unfoldable pub inverse : ℕ → ℕ
inverse a = square (next a (next a (next a (next a (next a (next a a))))))

-- 3.2: bit i of a byte, i counted modulo 8
unfoldable pub bit : ℕ → ℕ → ℕ
bit b i = b / 2 ^ (i % 8) % 2

-- 3.2: the byte whose bit i is the parity of f i
unfoldable pub byte_of_bits : (ℕ → ℕ) → ℕ
byte_of_bits f =
    f 0 % 2 + f 1 % 2 * 2 + f 2 % 2 * 4 + f 3 % 2 * 8 + f 4 % 2 * 16 + f 5 % 2 * 32 + f 6 % 2 * 64 + f 7 % 2 * 128

-- 5.1.1, equation (5.1): the affine map
unfoldable pub affine : ℕ → ℕ
affine b = byte_of_bits (λ i. bit b i + bit b (i + 4) + bit b (i + 5) + bit b (i + 6) + bit b (i + 7) + bit 0x63 i)

-- 5.1.1: the inverse, then the affine map
unfoldable pub sbox : ℕ → ℕ
sbox b = affine (inverse b)

-- 5.3.2: the inverse of the affine map; proofs/Sbox.antt shows that it is
unfoldable pub inv_affine : ℕ → ℕ
inv_affine b = byte_of_bits (λ i. bit b (i + 2) + bit b (i + 5) + bit b (i + 7) + bit 0x05 i)

-- 5.3.2: the inverse of the affine map, then the inverse in the field
unfoldable pub inv_sbox : ℕ → ℕ
inv_sbox b = inverse (inv_affine b)

-- 5.1.1, figure 7, and 5.3.2, figure 14: a table has f of each byte at that byte's place
abbrev pub TableOf : (ℕ → ℕ) → List ℕ → Type 0
TableOf f t = (b : ℕ) → b < 256 → get_or t b 0 ≡ f b

abbrev pub SboxTable : List ℕ → Type 0
SboxTable t = TableOf sbox t

abbrev pub InvSboxTable : List ℕ → Type 0
InvSboxTable t = TableOf inv_sbox t
