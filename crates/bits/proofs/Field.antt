-- The field of polynomials over bits modulo one of degree k: its product distributes over sums, is commutative and associative. The laws of GF(2^8) and
-- of RFC 8452's field are these.
-- Assumes nothing.
use mathlib.Core.Path.{◌≡◌, refl, sym, ap, ap₂, subst, ◌∙◌}
use Prim.Native.Nat.{ℕ, zero, suc, ◌+◌, ◌*◌, ◌/◌, ◌%◌, ◌^◌, ◌≤◌, ◌<◌}
use native.Mathlib.Nat.{add-zero, zero-mul, one-mul, mul-one, add-mul, zero-add, suc-add, mod-lt, mod-eq_of_lt, div-eq_of_lt, pow-suc, mul_assoc, mul_comm, lt_of_le_of_lt, mod-le, div-mul-le_self, le-mul_of_pos_right}
use native.Mathlib.Numerals.{add-one}
use native.Mathlib.Omega.{arith}
use lib.Arith.{lt-one}
use lib.Pow.{pow_pos, pow-lt, split, shl_lt, shr_lt}
use lib.Bits.{bit_xor, xor_block, xor_mod, xor_shr, xor_lt, xor_self, xor_zero_r, xor_comm, xor_shifted}
use lib.Dec.{lit<}
use Rattle.bits.specs.Polynomials.{add_if, multiply_bits, times_power}
use Rattle.bits.proofs.Xor.{no_bit, xor_assoc, interchange}

-- times_x multiplies by x: a shift, and rest, which is x^degree, added where the term x^degree appears
pub record Field : Type 0 where
  pub times_x : ℕ → ℕ
  pub degree : ℕ
  pub rest : ℕ
  pub positive : 0 < degree
  pub small : rest < 2 ^ degree
  pub shifts : (r : ℕ) → r < 2 ^ degree → times_x r ≡ bit_xor (r * 2 % 2 ^ degree) (r * 2 / 2 ^ degree * rest)

-- a bit times c
bit_lt : (b c k : ℕ) → b < 2 → c < 2 ^ k → b * c < 2 ^ k
bit_lt zero c k h l = subst (λ (n : ℕ). n < 2 ^ k) (sym (zero-mul c)) (pow_pos k)
bit_lt (suc zero) c k h l = subst (λ (n : ℕ). n < 2 ^ k) (sym (one-mul c)) l
bit_lt (suc (suc b)) c k h l = no_bit h

bit_xor_lem : (p q c : ℕ) → p < 2 → q < 2 → bit_xor p q * c ≡ bit_xor (p * c) (q * c)
bit_xor_lem zero q c h k = ap (λ (n : ℕ). bit_xor n (q * c)) (sym (zero-mul c))
bit_xor_lem (suc zero) zero c h k = sym (ap (bit_xor (1 * c)) (zero-mul c) ∙ xor_zero_r (1 * c))
bit_xor_lem (suc zero) (suc zero) c h k = zero-mul c ∙ sym (xor_self (1 * c))
bit_xor_lem (suc zero) (suc (suc q)) c h k = no_bit k
bit_xor_lem (suc (suc p)) q c h k = no_bit h

double_xor : (x y : ℕ) → bit_xor x y * 2 ≡ bit_xor (x * 2) (y * 2)
double_xor x y =
    sym (add-zero (bit_xor x y * 2)) ∙ sym (xor_block 1 x y 0 0 (lit< tt) (lit< tt)) ∙ ap₂ bit_xor (add-zero (x * 2)) (add-zero (y * 2))

add_if_xor : (b x y u v : ℕ) → add_if b (bit_xor x y) (bit_xor u v) ≡ bit_xor (add_if b x u) (add_if b y v)
add_if_xor zero x y u v = refl
add_if_xor (suc b) x y u v = interchange u v x y

add_if_bits : (p q x u v : ℕ) → p < 2 → q < 2 → add_if (bit_xor p q) x (bit_xor u v) ≡ bit_xor (add_if p x u) (add_if q x v)
add_if_bits zero zero x u v hp hq = refl
add_if_bits zero (suc zero) x u v hp hq = xor_assoc u v x
add_if_bits zero (suc (suc q)) x u v hp hq = no_bit hq
add_if_bits (suc zero) zero x u v hp hq = xor_assoc u v x ∙ ap (bit_xor u) (xor_comm v x) ∙ sym (xor_assoc u x v)
add_if_bits (suc zero) (suc zero) x u v hp hq =
    sym (interchange u x v x ∙ ap (bit_xor (bit_xor u v)) (xor_self x) ∙ xor_zero_r (bit_xor u v))
add_if_bits (suc zero) (suc (suc q)) x u v hp hq = no_bit hq
add_if_bits (suc (suc p)) q x u v hp hq = no_bit hp

-- the lowest bit of b and the rest of it, i places up
add_if_low : (b i : ℕ) → add_if (b % 2) (2 ^ i) (b / 2 * 2 ^ suc i) ≡ b * 2 ^ i
add_if_low b i = go (b % 2) (mod-lt b (lit< tt)) refl where
  whole : (r : ℕ) → b % 2 ≡ r → b / 2 * 2 + r ≡ b
  whole r e = omega arith

  split : (r : ℕ) → b % 2 ≡ r → b * 2 ^ i ≡ b / 2 * 2 ^ suc i + r * 2 ^ i
  split r e =
      let d : 2 ^ suc i ≡ 2 * 2 ^ i = pow-suc 2 i ∙ mul_comm (2 ^ i) 2 in
      let m : (q p : ℕ) → (q * 2 + r) * p ≡ q * (2 * p) + r * p = λ q p. add-mul (q * 2) r p ∙ ap (λ (n : ℕ). n + r * p) (mul_assoc q 2 p) in
      ap (λ (n : ℕ). n * 2 ^ i) (sym (whole r e)) ∙ m (b / 2) (2 ^ i) ∙ ap (λ (n : ℕ). b / 2 * n + r * 2 ^ i) (sym d)

  go : (r : ℕ) → r < 2 → b % 2 ≡ r → add_if r (2 ^ i) (b / 2 * 2 ^ suc i) ≡ b * 2 ^ i
  go zero h e = sym (split 0 e ∙ ap (λ (n : ℕ). b / 2 * 2 ^ suc i + n) (zero-mul (2 ^ i)) ∙ add-zero (b / 2 * 2 ^ suc i))
  go (suc zero) h e =
      xor_shifted (b / 2) (suc i) (2 ^ i) (pow-lt (omega arith)) ∙ sym (split 1 e ∙ ap (λ (n : ℕ). b / 2 * 2 ^ suc i + n) (one-mul (2 ^ i)))
  go (suc (suc r)) h e = no_bit h

-- ---- the field

module _ (F : Field) where
  abbrev doubled : ℕ → ℕ
  doubled = F.times_x

  abbrev k : ℕ
  k = F.degree

  -- every element is below `order`
  abbrev order : ℕ
  order = 2 ^ F.degree

  -- the term that a shift brings out
  top : (x : ℕ) → x < order → x * 2 / order < 2
  top x h = shr_lt 1 k (subst (λ (n : ℕ). x * 2 < 2 ^ n) (omega arith) (shl_lt k 1 h))

  pub times_x-lt : (x : ℕ) → x < order → doubled x < order
  times_x-lt x h =
      subst (λ (n : ℕ). n < order) (sym (F.shifts x h))
      (xor_lt k (x * 2 % order) (x * 2 / order * F.rest) (mod-lt (x * 2) (pow_pos k)) (bit_lt (x * 2 / order) F.rest k (top x h) F.small))

  pub times_x_xor : (x y : ℕ) → x < order → y < order → doubled (bit_xor x y) ≡ bit_xor (doubled x) (doubled y)
  times_x_xor x y h l =
      let r = F.rest in
      F.shifts (bit_xor x y) (xor_lt k x y h l)
      ∙ ap (λ (n : ℕ). bit_xor (n % order) (n / order * r)) (double_xor x y)
      ∙ ap₂ bit_xor (xor_mod (x * 2) (y * 2) k) (ap (λ (n : ℕ). n * r) (xor_shr (x * 2) (y * 2) k) ∙ bit_xor_lem (x * 2 / order) (y * 2 / order) r (top x h) (top y l))
      ∙ interchange (x * 2 % order) (y * 2 % order) (x * 2 / order * r) (y * 2 / order * r)
      ∙ sym (ap₂ bit_xor (F.shifts x h) (F.shifts y l))

  -- where no term x^degree appears, a shift
  pub times_x_shift : (x : ℕ) → x * 2 < order → doubled x ≡ x * 2
  times_x_shift x h =
      F.shifts x (omega arith)
      ∙ ap₂ bit_xor (mod-eq_of_lt h) (ap (λ (n : ℕ). n * F.rest) (div-eq_of_lt h) ∙ zero-mul F.rest) ∙ xor_zero_r (x * 2)

  abbrev pub power : ℕ → ℕ → ℕ
  power n x = times_power doubled n x

  pub power-lt : (n x : ℕ) → x < order → power n x < order
  unfolding times_power
  power-lt zero x h = h
  power-lt (suc n) x h = times_x-lt (power n x) (power-lt n x h)

  pub power_xor : (n x y : ℕ) → x < order → y < order → power n (bit_xor x y) ≡ bit_xor (power n x) (power n y)
  unfolding times_power
  power_xor zero x y h l = refl
  power_xor (suc n) x y h l = ap doubled (power_xor n x y h l) ∙ times_x_xor (power n x) (power n y) (power-lt n x h) (power-lt n y l)

  pub power-add : (m n x : ℕ) → power (m + n) x ≡ power m (power n x)
  unfolding times_power
  power-add zero n x = ap (λ (j : ℕ). power j x) (zero-add n)
  power-add (suc m) n x = ap (λ (j : ℕ). power j x) (suc-add m n) ∙ ap doubled (power-add m n x)

  -- one place more, as a loop counts
  pub power_more : (n x : ℕ) → power (n + 1) x ≡ doubled (power n x)
  unfolding times_power
  power_more n x = ap (λ (j : ℕ). power j x) (add-one n)

  pub power_shift : (n x : ℕ) → x * 2 ^ n < order → power n x ≡ x * 2 ^ n
  unfolding times_power
  power_shift zero x h = sym (mul-one x)
  power_shift (suc n) x h =
      let e : x * 2 ^ suc n ≡ x * 2 ^ n * 2 = ap (λ (p : ℕ). x * p) (pow-suc 2 n) ∙ sym (mul_assoc x (2 ^ n) 2) in
      let l : x * 2 ^ n * 2 < order = subst (λ (p : ℕ). p < order) e h in
      ap doubled (power_shift n x (omega arith)) ∙ times_x_shift (x * 2 ^ n) l ∙ sym e

  -- ---- products

  abbrev pub times : ℕ → ℕ → ℕ
  times a b = multiply_bits doubled k a b

  add_if-lt : (b a r : ℕ) → a < order → r < order → add_if b a r < order
  add_if-lt zero a r h l = l
  add_if-lt (suc b) a r h l = xor_lt k r a l h

  bits_lt : (n x y : ℕ) → x < order → multiply_bits doubled n x y < order
  unfolding multiply_bits
  bits_lt zero x y h = pow_pos k
  bits_lt (suc n) x y h = add_if-lt (y % 2) x (multiply_bits doubled n (doubled x) (y / 2)) h (bits_lt n (doubled x) (y / 2) (times_x-lt x h))

  pub times-lt : (x y : ℕ) → x < order → times x y < order
  times-lt x y h = bits_lt k x y h

  -- on both sides a product distributes over sums
  bits_xor : (n x y z : ℕ) → x < order → y < order → multiply_bits doubled n (bit_xor x y) z ≡ bit_xor (multiply_bits doubled n x z) (multiply_bits doubled n y z)
  unfolding multiply_bits
  bits_xor zero x y z hx hy = refl
  bits_xor (suc n) x y z hx hy =
      ap (λ (m : ℕ). add_if (z % 2) (bit_xor x y) (multiply_bits doubled n m (z / 2))) (times_x_xor x y hx hy)
      ∙ ap (add_if (z % 2) (bit_xor x y)) (bits_xor n (doubled x) (doubled y) (z / 2) (times_x-lt x hx) (times_x-lt y hy))
      ∙ add_if_xor (z % 2) x y (multiply_bits doubled n (doubled x) (z / 2)) (multiply_bits doubled n (doubled y) (z / 2))

  pub times_xor : (x y z : ℕ) → x < order → y < order → times (bit_xor x y) z ≡ bit_xor (times x z) (times y z)
  times_xor x y z hx hy = bits_xor k x y z hx hy

  bits_xor_right : (n x y z : ℕ) → multiply_bits doubled n x (bit_xor y z) ≡ bit_xor (multiply_bits doubled n x y) (multiply_bits doubled n x z)
  unfolding multiply_bits
  bits_xor_right zero x y z = refl
  bits_xor_right (suc n) x y z =
      ap₂ (λ (p q : ℕ). add_if p x (multiply_bits doubled n (doubled x) q)) (xor_mod y z 1) (xor_shr y z 1)
      ∙ ap (add_if (bit_xor (y % 2) (z % 2)) x) (bits_xor_right n (doubled x) (y / 2) (z / 2))
      ∙ add_if_bits (y % 2) (z % 2) x (multiply_bits doubled n (doubled x) (y / 2)) (multiply_bits doubled n (doubled x) (z / 2)) (omega arith) (omega arith)

  pub times_xor_right : (x y z : ℕ) → times x (bit_xor y z) ≡ bit_xor (times x y) (times x z)
  times_xor_right x y z = bits_xor_right k x y z

  pub zero-times : (y : ℕ) → times 0 y ≡ 0
  zero-times y = times_xor 0 0 y (pow_pos k) (pow_pos k) ∙ xor_self (times 0 y)

  pub times_zero : (x : ℕ) → times x 0 ≡ 0
  times_zero x = times_xor_right x 0 0 ∙ xor_self (times x 0)

  -- 1 times y
  bits_one : (n i y : ℕ) → i + n ≤ k → y < 2 ^ n → multiply_bits doubled n (2 ^ i) y ≡ y * 2 ^ i
  unfolding multiply_bits
  bits_one zero i y h l = sym (ap (λ (j : ℕ). j * 2 ^ i) (lt-one l) ∙ zero-mul (2 ^ i))
  bits_one (suc zero) i y h l =
      let e : y / 2 ≡ 0 = omega arith in
      ap (add_if (y % 2) (2 ^ i)) (sym (ap (λ (j : ℕ). j * 2 ^ suc i) e ∙ zero-mul (2 ^ suc i))) ∙ add_if_low y i
  bits_one (suc (suc n)) i y h l =
      let half : y / 2 < 2 ^ suc n = shr_lt (suc n) 1 (subst (λ (j : ℕ). y < 2 ^ j) (sym (add-one (suc n))) l) in
      let e : doubled (2 ^ i) ≡ 2 ^ suc i = times_x_shift (2 ^ i) (subst (λ (p : ℕ). p < order) (pow-suc 2 i) (pow-lt (omega arith))) ∙ sym (pow-suc 2 i) in
      ap (add_if (y % 2) (2 ^ i))
      (ap (λ (p : ℕ). multiply_bits doubled (suc n) p (y / 2)) e ∙ bits_one (suc n) (suc i) (y / 2) (omega arith) half)
      ∙ add_if_low y i

  pub one-times : (y : ℕ) → y < order → times 1 y ≡ y
  one-times y h = bits_one k 0 y (omega arith) h ∙ mul-one y

  -- a map that distributes over sums
  abbrev pub Additive : (ℕ → ℕ) → Type 0
  Additive f = (x y : ℕ) → x < order → y < order → f (bit_xor x y) ≡ bit_xor (f x) (f y)

  -- such a map that commutes with times_x commutes with products
  module _ (f : ℕ → ℕ) (sums : Additive f) (turns : (x : ℕ) → x < order → f (doubled x) ≡ doubled (f x)) where
    add_if_map : (b a r : ℕ) → a < order → r < order → f (add_if b a r) ≡ add_if b (f a) (f r)
    add_if_map zero a r h l = refl
    add_if_map (suc b) a r h l = sums r a l h

    bits_map : (n x y : ℕ) → x < order → f (multiply_bits doubled n x y) ≡ multiply_bits doubled n (f x) y
    unfolding multiply_bits
    bits_map zero x y h = sums 0 0 (pow_pos k) (pow_pos k) ∙ xor_self (f 0)
    bits_map (suc n) x y h =
        add_if_map (y % 2) x (multiply_bits doubled n (doubled x) (y / 2)) h (bits_lt n (doubled x) (y / 2) (times_x-lt x h))
        ∙ ap (add_if (y % 2) (f x)) (bits_map n (doubled x) (y / 2) (times_x-lt x h) ∙ ap (λ (z : ℕ). multiply_bits doubled n z (y / 2)) (turns x h))

    pub times_map : (x y : ℕ) → x < order → f (times x y) ≡ times (f x) y
    times_map x y h = bits_map k x y h

  power_turn : (n x : ℕ) → power n (doubled x) ≡ doubled (power n x)
  unfolding times_power
  power_turn zero x = refl
  power_turn (suc n) x = ap doubled (power_turn n x)

  pub power-times : (n x y : ℕ) → x < order → power n (times x y) ≡ times (power n x) y
  power-times n x y h = times_map (power n) (power_xor n) (λ z l. power_turn n z) x y h

  one : 1 < order
  one = pow-lt F.positive

  pub times_comm : (x y : ℕ) → x < order → y < order → times x y ≡ times y x
  unfolding times_power
  times_comm x y h l =
      let f : ℕ → ℕ = λ z. times z y in
      ap f (sym (one-times x h))
      ∙ times_map f (λ u v p q. times_xor u v y p q) (λ z p. sym (power-times 1 z y p)) 1 x one
      ∙ ap (λ (z : ℕ). times z x) (one-times y l)

  pub times-one : (x : ℕ) → x < order → times x 1 ≡ x
  times-one x h = times_comm x 1 h one ∙ one-times x h

  pub times_power_lem : (n x y : ℕ) → x < order → y < order → times x (power n y) ≡ power n (times x y)
  times_power_lem n x y h l =
      times_comm x (power n y) h (power-lt n y l) ∙ sym (power-times n y x l) ∙ ap (power n) (times_comm y x l h)

  pub times_assoc : (x y z : ℕ) → x < order → y < order → times (times x y) z ≡ times x (times y z)
  unfolding times_power
  times_assoc x y z h l = sym (times_map (times x) (λ u v p q. times_xor_right x u v) (λ u p. times_power_lem 1 x u h p) y z l)

  -- n places up: what stays below the degree, and the part above it times x^degree
  pub power-split : (i n x : ℕ) → i + n ≡ k → x < order → power n x ≡ bit_xor (power k (x / 2 ^ i)) (x % 2 ^ i * 2 ^ n)
  power-split i n x e h =
      let q = x / 2 ^ i in
      let r = x % 2 ^ i in
      let whole : bit_xor (q * 2 ^ i) r ≡ x = xor_shifted q i r (mod-lt x (pow_pos i)) ∙ split x i in
      let hr : r < order = lt_of_le_of_lt (mod-le x (2 ^ i)) h in
      let hq : q * 2 ^ i < order = lt_of_le_of_lt (div-mul-le_self x (2 ^ i)) h in
      let moved : r * 2 ^ n < order = subst (λ (m : ℕ). r * 2 ^ n < 2 ^ m) e (shl_lt i n (mod-lt x (pow_pos i))) in
      let f : n + i ≡ k = omega arith in
      ap (power n) (sym whole)
      ∙ power_xor n (q * 2 ^ i) r hq hr
      ∙ ap₂ bit_xor (ap (power n) (sym (power_shift i q hq)) ∙ sym (power-add n i q) ∙ ap (λ (m : ℕ). power m q) f) (power_shift n r moved)

  -- a product with a power of x that brings out no term x^degree
  pub times_shift : (n x y : ℕ) → x < order → y * 2 ^ n < order → times x (y * 2 ^ n) ≡ power n (times x y)
  times_shift n x y h l =
      ap (times x) (sym (power_shift n y l)) ∙ times_power_lem n x y h (lt_of_le_of_lt (le-mul_of_pos_right y (pow_pos n)) l)
