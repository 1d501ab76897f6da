-- Products that are not yet reduced: a shift by a byte with two multiples added, and the division by x^64.
-- Assumes nothing.
use mathlib.Core.Path.{◌≡◌, refl, sym, ap, ap₂, subst, ◌∙◌}
use Prim.Native.Nat.{ℕ, ◌+◌, ◌*◌, ◌/◌, ◌%◌, ◌^◌, ◌≤◌, ◌<◌}
use native.Mathlib.Nat.{zero-add, add_comm, add_assoc, add-mul, mul_assoc, one-mul, mod-lt, div-eq_of_lt, lt_of_lt_of_le, lt_of_le_of_lt, le-mul_of_pos_right}
use native.Mathlib.Omega.{arith}
use lib.Arith.{digits_div, digits_mod}
use lib.Bits.{bit_xor, xor_lt, xor_shifted}
use lib.Dec.{eqb→eq, lit<}
use lib.Pow.{pow_pos, pow_mono, shl_lt, shr_lt}
use Rattle.bits.specs.Polynomials.{times_power}
use Rattle.bits.proofs.Xor.{xor_assoc, interchange}
use Rattle.bits.proofs.Field.{power-lt, power_xor, power-add, power_shift, power-split, times-lt, times_power_lem, times_xor_right, times-one, times_shift}
use Rattle.rfc8452.specs.Field.{add, times_x, times_x_to, multiply}
use Rattle.rfc8452.proofs.Field.{gf128}
use Rattle.polyval.proofs.Halves.{xor_halves, xor_high, xor_low, halves_lt, moved_div, moved_mod, moved_halves, middle-lt, moved, moved_high, moved_low}

wide : (x : ℕ) → x < 2 ^ 64 → x < 2 ^ 128
wide x h = lt_of_lt_of_le h (pow_mono {i = 64} {j = 128} (omega arith))

-- an element n places up
up : (i n x : ℕ) → i + n ≡ 128 → x < 2 ^ 128 → times_x_to n x ≡ add (times_x_to 128 (x * 2 ^ n / 2 ^ 128)) (x * 2 ^ n % 2 ^ 128)
up i n x e h =
    power-split gf128 i n x e h
    ∙ ap₂ (λ (p q : ℕ). add (times_x_to 128 p) q) (sym (ap (λ (m : ℕ). x * 2 ^ n / 2 ^ m) (sym e) ∙ moved_div i n x))
    (sym (ap (λ (m : ℕ). x * 2 ^ n % 2 ^ m) (sym e) ∙ moved_mod i n x))

-- two elements n places up, the first above x^128: what goes over from the second joins it
pub carried : (n h l t m : ℕ) → n ≤ 128 → h * 2 ^ n < 2 ^ 128 → l < 2 ^ 128 → t < 2 ^ n → times_x_to n l ≡ add (times_x_to 128 t) m
    → times_x_to n (add (times_x_to 128 h) l) ≡ add (times_x_to 128 (h * 2 ^ n + t)) m
carried n h l t m le fits hl small e =
    let hh : h < 2 ^ 128 = lt_of_le_of_lt (le-mul_of_pos_right h (pow_pos n)) fits in
    let ht : t < 2 ^ 128 = lt_of_lt_of_le small (pow_mono le) in
    power_xor gf128 n (times_x_to 128 h) l (power-lt gf128 128 h hh) hl
    ∙ ap₂ bit_xor (sym (power-add gf128 n 128 h) ∙ ap (λ (j : ℕ). times_x_to j h) (add_comm n 128) ∙ power-add gf128 128 n h ∙ ap (times_x_to 128) (power_shift gf128 n h fits)) e
    ∙ sym (xor_assoc (times_x_to 128 (h * 2 ^ n)) (times_x_to 128 t) m)
    ∙ ap (λ (x : ℕ). bit_xor x m) (sym (power_xor gf128 128 (h * 2 ^ n) t fits ht) ∙ ap (times_x_to 128) (xor_shifted h n t small))

-- one word up
up_64 : (h l : ℕ) → h < 2 ^ 64 → l < 2 ^ 64 → times_x_to 64 (h * 2 ^ 64 + l) ≡ add (times_x_to 128 h) (l * 2 ^ 64)
up_64 h l p q =
    let e : (h * 2 ^ 64 + l) * 2 ^ 64 ≡ h * 2 ^ 128 + l * 2 ^ 64 = add-mul (h * 2 ^ 64) l (2 ^ 64) ∙ ap (λ (n : ℕ). n + l * 2 ^ 64) (mul_assoc h (2 ^ 64) (2 ^ 64)) in
    let r : l * 2 ^ 64 < 2 ^ 128 = shl_lt 64 64 q in
    up 64 64 (h * 2 ^ 64 + l) refl (halves_lt h l p q)
    ∙ ap₂ (λ (x y : ℕ). add (times_x_to 128 x) y) (ap (λ (n : ℕ). n / 2 ^ 128) e ∙ digits_div h r) (ap (λ (n : ℕ). n % 2 ^ 128) e ∙ digits_mod h r)

-- four words a byte up
module _ (w3 w2 w1 w0 : ℕ) (fits : w3 * 256 < 2 ^ 64) (p : w2 < 2 ^ 64) (q : w1 < 2 ^ 64) (r : w0 < 2 ^ 64) where
  abbrev top : ℕ
  top = w3 * 256 % 2 ^ 64 + w2 / 2 ^ 56

  abbrev high : ℕ
  high = top * 2 ^ 64 + (w2 * 256 % 2 ^ 64 + w1 / 2 ^ 56)

  abbrev low : ℕ
  low = (w1 * 256 % 2 ^ 64 + w0 / 2 ^ 56) * 2 ^ 64 + w0 * 256 % 2 ^ 64

  shifted : times_x_to 8 (add (times_x_to 128 (w3 * 2 ^ 64 + w2)) (w1 * 2 ^ 64 + w0)) ≡ add (times_x_to 128 high) low
  shifted =
      let h = w3 * 2 ^ 64 + w2 in
      let l = w1 * 2 ^ 64 + w0 in
      let t = w1 / 2 ^ 56 in
      let m = w2 * 256 % 2 ^ 64 in
      let hl : l < 2 ^ 128 = halves_lt w1 w0 q r in
      let e : h * 2 ^ 8 ≡ top * 2 ^ 64 + m = moved 56 8 w3 w2 refl p ∙ ap (λ (n : ℕ). n * 2 ^ 128 + (top * 2 ^ 64 + m)) (div-eq_of_lt (omega arith)) ∙ zero-add (top * 2 ^ 64 + m) in
      let big : h * 2 ^ 8 < 2 ^ 128 = subst (λ (n : ℕ). n < 2 ^ 128) (sym e) (halves_lt top m (middle-lt 56 8 w3 w2 refl p) (mod-lt (w2 * 256) (pow_pos 64))) in
      carried 8 h l t low (omega arith) big hl (shr_lt 8 56 q)
      (up 120 8 l refl hl ∙ ap₂ (λ (x y : ℕ). bit_xor (times_x_to 128 x) y) (moved_high 56 8 w1 w0 refl r) (moved_low 56 8 w1 w0 refl r))
      ∙ ap (λ (n : ℕ). add (times_x_to 128 n) low) (ap (λ (n : ℕ). n + t) e ∙ add_assoc (top * 2 ^ 64) m t)

  -- and two elements added, one of them a word up
  pub shift_added : (nh nl mh ml : ℕ) → nh < 2 ^ 64 → nl < 2 ^ 64 → ml < 2 ^ 64
      → add (times_x_to 128 (top * 2 ^ 64 + bit_xor (w2 * 256 % 2 ^ 64 + w1 / 2 ^ 56) nh))
      (bit_xor (bit_xor (w1 * 256 % 2 ^ 64 + w0 / 2 ^ 56) nl) mh * 2 ^ 64 + bit_xor (w0 * 256 % 2 ^ 64) ml)
      ≡ add (times_x_to 8 (add (times_x_to 128 (w3 * 2 ^ 64 + w2)) (w1 * 2 ^ 64 + w0))) (add (times_x_to 64 (nh * 2 ^ 64 + nl)) (mh * 2 ^ 64 + ml))
  shift_added nh nl mh ml hn hl hm =
      let m2 = w2 * 256 % 2 ^ 64 + w1 / 2 ^ 56 in
      let m1 = w1 * 256 % 2 ^ 64 + w0 / 2 ^ 56 in
      let m0 = w0 * 256 % 2 ^ 64 in
      let l0 : m0 < 2 ^ 64 = mod-lt (w0 * 256) (pow_pos 64) in
      let l2 : m2 < 2 ^ 64 = middle-lt 56 8 w2 w1 refl q in
      let m = mh * 2 ^ 64 + ml in
      let x = times_x_to 128 high in
      let y = times_x_to 128 nh in
      let z = nl * 2 ^ 64 in
      ap₂ bit_xor
      (ap (times_x_to 128) (xor_low top m2 nh l2 hn) ∙ power_xor gf128 128 high nh (halves_lt top m2 (middle-lt 56 8 w3 w2 refl p) l2) (wide nh hn))
      (xor_halves (bit_xor m1 nl) m0 mh ml l0 hm ∙ ap (λ (n : ℕ). bit_xor n m) (xor_high m1 m0 nl l0))
      ∙ sym (xor_assoc (bit_xor x y) (bit_xor low z) m)
      ∙ ap (λ (n : ℕ). bit_xor n m) (interchange x y low z ∙ ap₂ bit_xor (sym shifted) (sym (up_64 nh nl hn hl)))
      ∙ xor_assoc (times_x_to 8 (add (times_x_to 128 (w3 * 2 ^ 64 + w2)) (w1 * 2 ^ 64 + w0))) (times_x_to 64 (nh * 2 ^ 64 + nl)) m

-- ---- the division by x^64

-- x^-64 = x^64 + x^63 + x^62 + x^57
abbrev inverse_x64 : ℕ
inverse_x64 = bit_xor (bit_xor (bit_xor (2 ^ 64) (2 ^ 63)) (2 ^ 62)) (2 ^ 57)

x_64 : times_x_to 64 inverse_x64 ≡ 1
unfolding times_x times_power
x_64 = eqb→eq (times_x_to 64 inverse_x64) 1 tt

module _ (u : ℕ) (h : u < 2 ^ 64) where
  by_power : (j : ℕ) → j ≤ 64 → multiply u (2 ^ j) ≡ u * 2 ^ j
  by_power j l =
      let fits : u * 2 ^ j < 2 ^ 128 = lt_of_lt_of_le (shl_lt 64 j h) (pow_mono {i = 64 + j} {j = 128} (omega arith)) in
      let one : 1 * 2 ^ j < 2 ^ 128 = lt_of_lt_of_le (shl_lt 1 j (lit< tt)) (pow_mono {i = 1 + j} {j = 128} (omega arith)) in
      ap (multiply u) (sym (one-mul (2 ^ j))) ∙ times_shift gf128 j u 1 (wide u h) one
      ∙ ap (times_x_to j) (times-one gf128 u (wide u h)) ∙ power_shift gf128 j u fits

  by_inverse : multiply u inverse_x64 ≡ bit_xor (bit_xor (bit_xor (u * 2 ^ 64) (u * 2 ^ 63)) (u * 2 ^ 62)) (u * 2 ^ 57)
  by_inverse =
      times_xor_right gf128 u (bit_xor (bit_xor (2 ^ 64) (2 ^ 63)) (2 ^ 62)) (2 ^ 57)
      ∙ ap₂ bit_xor
      (times_xor_right gf128 u (bit_xor (2 ^ 64) (2 ^ 63)) (2 ^ 62)
      ∙ ap₂ bit_xor (times_xor_right gf128 u (2 ^ 64) (2 ^ 63) ∙ ap₂ bit_xor (by_power 64 (omega arith)) (by_power 63 (omega arith))) (by_power 62 (omega arith)))
      (by_power 57 (omega arith))

  undone : times_x_to 64 (multiply u inverse_x64) ≡ u
  undone = sym (times_power_lem gf128 64 u inverse_x64 (wide u h) (lit< tt)) ∙ ap (multiply u) x_64 ∙ times-one gf128 u (wide u h)

-- two words over w0, divided by x^64
module _ (w2 w1 u : ℕ) (h2 : w2 < 2 ^ 64) (h1 : w1 < 2 ^ 64) (h : u < 2 ^ 64) where
  abbrev whole : ℕ
  whole = w2 * 2 ^ 64 + w1

  -- what the code computes is the sum of the two words and the multiple of x^-64
  summed : bit_xor (bit_xor (bit_xor (bit_xor w2 u) (u / 2)) (u / 4)) (u / 2 ^ 7) * 2 ^ 64
      + bit_xor (bit_xor (bit_xor w1 (u * 2 ^ 63 % 2 ^ 64)) (u * 2 ^ 62 % 2 ^ 64)) (u * 2 ^ 57 % 2 ^ 64)
      ≡ bit_xor (w2 * 2 ^ 64 + w1) (multiply u inverse_x64)
  summed =
      let m : (j : ℕ) → u * 2 ^ j % 2 ^ 64 < 2 ^ 64 = λ j. mod-lt (u * 2 ^ j) (pow_pos 64) in
      let l1 = xor_lt 64 w1 (u * 2 ^ 63 % 2 ^ 64) h1 (m 63) in
      let l2 = xor_lt 64 (bit_xor w1 (u * 2 ^ 63 % 2 ^ 64)) (u * 2 ^ 62 % 2 ^ 64) l1 (m 62) in
      xor_halves (bit_xor (bit_xor (bit_xor w2 u) (u / 2)) (u / 4)) (bit_xor (bit_xor w1 (u * 2 ^ 63 % 2 ^ 64)) (u * 2 ^ 62 % 2 ^ 64)) (u / 2 ^ 7) (u * 2 ^ 57 % 2 ^ 64) l2 (m 57)
      ∙ ap₂ bit_xor
      (xor_halves (bit_xor (bit_xor w2 u) (u / 2)) (bit_xor w1 (u * 2 ^ 63 % 2 ^ 64)) (u / 4) (u * 2 ^ 62 % 2 ^ 64) l1 (m 62)
      ∙ ap₂ bit_xor (xor_halves (bit_xor w2 u) w1 (u / 2) (u * 2 ^ 63 % 2 ^ 64) h1 (m 63) ∙ ap₂ bit_xor (xor_high w2 w1 u h1) (moved_halves 1 63 u refl)) (moved_halves 2 62 u refl))
      (moved_halves 7 57 u refl)
      ∙ regroup whole (u * 2 ^ 64) (u * 2 ^ 63) (u * 2 ^ 62) (u * 2 ^ 57)
      ∙ ap (bit_xor whole) (sym (by_inverse u h))
    where
      regroup : (a b c d e : ℕ) → bit_xor (bit_xor (bit_xor (bit_xor a b) c) d) e ≡ bit_xor a (bit_xor (bit_xor (bit_xor b c) d) e)
      regroup a b c d e =
          ap (λ (n : ℕ). bit_xor (bit_xor n d) e) (xor_assoc a b c) ∙ ap (λ (n : ℕ). bit_xor n e) (xor_assoc a (bit_xor b c) d) ∙ xor_assoc a (bit_xor (bit_xor b c) d) e

  pub reduced : times_x_to 64 (bit_xor (bit_xor (bit_xor (bit_xor w2 u) (u / 2)) (u / 4)) (u / 2 ^ 7) * 2 ^ 64
      + bit_xor (bit_xor (bit_xor w1 (u * 2 ^ 63 % 2 ^ 64)) (u * 2 ^ 62 % 2 ^ 64)) (u * 2 ^ 57 % 2 ^ 64))
      ≡ add (times_x_to 128 w2) (w1 * 2 ^ 64 + u)
  reduced =
      ap (times_x_to 64) summed
      ∙ power_xor gf128 64 whole (multiply u inverse_x64) (halves_lt w2 w1 h2 h1) (times-lt gf128 u inverse_x64 (wide u h))
      ∙ ap₂ bit_xor (up_64 w2 w1 h2 h1) (undone u h)
      ∙ xor_assoc (times_x_to 128 w2) (w1 * 2 ^ 64) u
      ∙ ap (bit_xor (times_x_to 128 w2)) (xor_shifted w1 64 u h)
