-- RFC 8452's field is a field of bits/proofs/Field, x^-128 is what its name says, and dot is known by its product with x^128.
-- Assumes nothing.
use mathlib.Core.Path.{◌≡◌, refl, sym, ap, ◌∙◌}
use Prim.Native.Nat.{ℕ, ◌+◌, ◌*◌, ◌/◌, ◌%◌, ◌^◌, ◌<◌}
use lib.Dec.{eqb→eq, lit<}
use Rattle.bits.specs.Polynomials.{times_power}
use Rattle.bits.proofs.Field.{Field, times-lt, times-one, times_comm, times_power_lem, power-times, zero-times, times_zero}
use Rattle.rfc8452.specs.Field.{add, times_x, times_x_to, multiply, inverse_x128, dot}

pub times_x_shifts : (r : ℕ) → r < 2 ^ 128 → times_x r ≡ add (r * 2 % 2 ^ 128) (r * 2 / 2 ^ 128 * (2 ^ 127 + 2 ^ 126 + 2 ^ 121 + 1))
unfolding times_x
times_x_shifts r h = refl

abbrev pub gf128 : Field
gf128 = record {
  times_x = times_x;
  degree = 128;
  rest = 2 ^ 127 + 2 ^ 126 + 2 ^ 121 + 1;
  positive = lit< tt;
  small = lit< tt;
  shifts = times_x_shifts;
}

x_128 : times_x_to 128 inverse_x128 ≡ 1
unfolding times_x times_power
x_128 = eqb→eq (times_x_to 128 inverse_x128) 1 tt

-- x^-128 undoes x^128
undo : (r : ℕ) → r < 2 ^ 128 → multiply (times_x_to 128 r) inverse_x128 ≡ r
undo r h =
    sym (power-times gf128 128 r inverse_x128 h)
    ∙ sym (times_power_lem gf128 128 r inverse_x128 h (lit< tt))
    ∙ ap (multiply r) x_128
    ∙ times-one gf128 r h

pub dot-lt : (a b : ℕ) → a < 2 ^ 128 → dot a b < 2 ^ 128
unfolding dot
dot-lt a b h = times-lt gf128 (multiply a b) inverse_x128 (times-lt gf128 a b h)

-- what times x^128 is the product is the dot product
pub dot_is : (a b r : ℕ) → a < 2 ^ 128 → b < 2 ^ 128 → r < 2 ^ 128 → times_x_to 128 r ≡ multiply b a → r ≡ dot a b
unfolding dot
dot_is a b r ha hb hr e = sym (undo r hr) ∙ ap (λ (p : ℕ). multiply p inverse_x128) (e ∙ times_comm gf128 b a hb ha)

-- and the dot product times x^128 is the product
pub dot_product : (a b : ℕ) → a < 2 ^ 128 → times_x_to 128 (dot a b) ≡ multiply a b
unfolding dot
dot_product a b h =
    let p = multiply a b in
    let l : p < 2 ^ 128 = times-lt gf128 a b h in
    sym (times_power_lem gf128 128 p inverse_x128 l (lit< tt)) ∙ ap (multiply p) x_128 ∙ times-one gf128 p l

-- the dot product with x^128 times an element is the product with it
pub dot_shifted : (a b : ℕ) → a < 2 ^ 128 → b < 2 ^ 128 → dot a (times_x_to 128 b) ≡ multiply a b
unfolding dot
dot_shifted a b ha hb =
    ap (λ (p : ℕ). multiply p inverse_x128) (times_power_lem gf128 128 a b ha hb) ∙ undo (multiply a b) (times-lt gf128 a b ha)

pub dot-zero : (a : ℕ) → dot a 0 ≡ 0
unfolding dot
dot-zero a = ap (λ (p : ℕ). multiply p inverse_x128) (times_zero gf128 a) ∙ zero-times gf128 inverse_x128
