-- Products a byte at a time: the tables of multiples, Horner's rule over them, and the dot product from the four words.
-- Assumes nothing.
use mathlib.Core.Path.{◌≡◌, sym, ap, ap₂, subst, ◌∙◌}
use mathlib.Core.List.{List}
use Prim.Native.Nat.{ℕ, zero, suc, ◌+◌, ◌*◌, ◌/◌, ◌%◌, ◌^◌, ◌≤◌, ◌<◌}
use native.Mathlib.Nat.{add-mul, mul_comm, mul_assoc, mod-lt, div-one, div-eq_of_lt, div-mul-le_self, le_trans, lt_of_lt_of_le, lt_of_le_of_lt, mul-le-mul_left, mul-le-mul_right}
use native.Mathlib.Omega.{arith}
use lib.Bits.{bit_xor, xor_shifted}
use lib.Dec.{lit<}
use lib.ListN.{length, set, replicate}
use lib.Pow.{pow_mono, pow-add, mod-pow-add, shr-shr, shr_le, split, shl_lt}
use lib.Seq.{get_or-set_same, get_or-set_other}
use borrow.Author.Count.{below_more}
use Rattle.bits.specs.Polynomials.{times_power}
use Rattle.bits.proofs.Xor.{no_bit}
use Rattle.bits.proofs.Field.{times_zero, times-one, times_shift, times_xor_right, power-add, power_shift, power-times}
use Rattle.rfc8452.specs.Field.{add, times_x, times_x_to, multiply, dot}
use Rattle.rfc8452.proofs.Field.{gf128, dot_is}
use Rattle.polyval.specs.Meaning.{num, at, first, Multiples, MultiplesTable}
use Rattle.polyval.specs.declared.field.Element.{Element}
use Rattle.polyval.proofs.Halves.{xor_halves, halves_lt, spread}
use Rattle.polyval.proofs.Reduction.{carried}

-- ---- the table

-- the entries below v are multiples of h
abbrev pub Below : ℕ → ℕ → List Element → Type 0
Below h v t = (u : ℕ) → u < v → at t u ≡ multiply h u

pub one_more : (h v : ℕ) (t : List Element) (e : Element) → v < length t → Below h v t → num e ≡ multiply h v → Below h (v + 1) (set t v e)
one_more h v t e l old new =
    below_more (λ u. at (set t v e) u ≡ multiply h u) v (λ u p. ap num (get_or-set_other t v u e _ (λ q. omega arith)) ∙ old u p) (ap num (get_or-set_same t v e _ l) ∙ new)

-- the first two entries, and all of them
pub first_two : (h : Element) → num h < 2 ^ 128 → Below (num h) 2 (set (replicate 16 (record { lo = 0; hi = 0 })) 1 h)
first_two h l zero p = sym (times_zero gf128 (num h))
first_two h l (suc zero) p = sym (times-one gf128 (num h) l)
first_two h l (suc (suc u)) p = no_bit p

pub whole : (h : Element) (t : List Element) → num h < 2 ^ 128 → Below (num h) 16 t → (first t ≡ num h) × MultiplesTable t
whole h t l all =
    let one : first t ≡ num h = all 1 (lit< tt) ∙ times-one gf128 (num h) l in
    (one, (subst (λ (n : ℕ). n < 2 ^ 128) (sym one) l, subst (λ (n : ℕ). Multiples n t) (sym one) all))

-- the multiples by 2 i and 2 i + 1 from that by i
pub even : (h i : ℕ) → h < 2 ^ 128 → i < 8 → multiply h (2 * i) ≡ times_x (multiply h i)
unfolding times_power
even h i l p = ap (multiply h) (mul_comm 2 i) ∙ times_shift gf128 1 h i l (lt_of_lt_of_le (omega arith) (pow_mono {i = 4} {j = 128} (omega arith)))

pub odd : (h i : ℕ) → h < 2 ^ 128 → multiply h (2 * i + 1) ≡ add (multiply h (2 * i)) h
odd h i l =
    let e : 2 * i + 1 ≡ bit_xor (2 * i) 1 = ap (λ (n : ℕ). n + 1) (mul_comm 2 i) ∙ sym (xor_shifted i 1 1 (lit< tt)) ∙ ap (λ (n : ℕ). bit_xor n 1) (mul_comm i 2) in
    ap (multiply h) e ∙ times_xor_right gf128 h (2 * i) 1 ∙ ap (bit_xor (multiply h (2 * i))) (times-one gf128 h l)

-- the multiple by a polynomial from those by its parts above and below place n
by_parts : (n h q r : ℕ) → h < 2 ^ 128 → q * 2 ^ n < 2 ^ 128 → r < 2 ^ n → add (times_x_to n (multiply h q)) (multiply h r) ≡ multiply h (q * 2 ^ n + r)
by_parts n h q r l fits small =
    ap (λ (a : ℕ). add a (multiply h r)) (sym (times_shift gf128 n h q l fits))
    ∙ sym (times_xor_right gf128 h (q * 2 ^ n) r) ∙ ap (multiply h) (xor_shifted q n r small)

-- by a byte, from the tables of h * x^4 and of h
pub by_byte : (h x n m : ℕ) → h < 2 ^ 128 → n ≡ multiply (times_x_to 4 h) (x / 2 ^ 4 % 16) → m ≡ multiply h (x % 16) → add n m ≡ multiply h (x % 256)
by_byte h x n m l e f =
    let u = x / 2 ^ 4 % 16 in
    let fits : u * 2 ^ 4 < 2 ^ 128 = lt_of_lt_of_le (shl_lt 4 4 (mod-lt (x / 2 ^ 4) (lit< tt))) (pow_mono {i = 8} {j = 128} (omega arith)) in
    ap₂ bit_xor (e ∙ sym (power-times gf128 4 h u l)) f ∙ by_parts 4 h u (x % 16) l fits (mod-lt x (lit< tt)) ∙ ap (multiply h) (sym (mod-pow-add x 4 4))

-- ---- Horner's rule

-- the halves of a factor, each without its s low bits
abbrev pub down : ℕ → ℕ → ℕ → ℕ
down hi lo s = hi / 2 ^ s * 2 ^ 64 + lo / 2 ^ s

pub no_bits : (h hi lo : ℕ) → hi < 2 ^ 64 → lo < 2 ^ 64 → add (times_x_to 128 0) 0 ≡ multiply h (down hi lo 64)
no_bits h hi lo p q =
    ap (λ (n : ℕ). add n 0) (power_shift gf128 128 0 (lit< tt))
    ∙ sym (ap₂ (λ (a b : ℕ). multiply h (a * 2 ^ 64 + b)) (div-eq_of_lt p) (div-eq_of_lt q) ∙ times_zero gf128 h)

pub all_bits : (h hi lo : ℕ) → multiply h (down hi lo 0) ≡ multiply h (hi * 2 ^ 64 + lo)
all_bits h hi lo = ap₂ (λ (a b : ℕ). multiply h (a * 2 ^ 64 + b)) (div-one hi) (div-one lo)

-- a byte more of both halves
module _ (hi lo s : ℕ) (p : hi < 2 ^ 64) (q : lo < 2 ^ 64) where
  -- of one half
  byte_more : (x : ℕ) → bit_xor (x / 2 ^ (s + 8) * 2 ^ 8) (x / 2 ^ s % 256) ≡ x / 2 ^ s
  byte_more x =
      xor_shifted (x / 2 ^ (s + 8)) 8 (x / 2 ^ s % 256) (mod-lt (x / 2 ^ s) (lit< tt))
      ∙ ap (λ (a : ℕ). a * 2 ^ 8 + x / 2 ^ s % 256) (sym (shr-shr x s 8)) ∙ split (x / 2 ^ s) 8

  up_lt : (x : ℕ) → x < 2 ^ 64 → x / 2 ^ (s + 8) * 2 ^ 8 < 2 ^ 64
  up_lt x l = subst (λ (a : ℕ). a * 2 ^ 8 < 2 ^ 64) (shr-shr x s 8) (lt_of_le_of_lt (div-mul-le_self (x / 2 ^ s) (2 ^ 8)) (lt_of_le_of_lt (shr_le x s) l))

  pub horner : (h v n m u : ℕ) → u ≡ s + 8 → h < 2 ^ 128 → v ≡ multiply h (down hi lo u) → n ≡ multiply h (hi / 2 ^ s % 256) → m ≡ multiply h (lo / 2 ^ s % 256)
      → add (times_x_to 8 v) (add (times_x_to 64 n) m) ≡ multiply h (down hi lo s)
  horner h v n m u place l start f g =
      let e : v ≡ multiply h (down hi lo (s + 8)) = start ∙ ap (λ (k : ℕ). multiply h (down hi lo k)) place in
      let c = hi / 2 ^ s % 256 in
      let d = lo / 2 ^ s % 256 in
      let a = hi / 2 ^ (s + 8) * 2 ^ 8 in
      let b = lo / 2 ^ (s + 8) * 2 ^ 8 in
      let moved : down hi lo (s + 8) * 2 ^ 8 ≡ a * 2 ^ 64 + b = spread (hi / 2 ^ (s + 8)) (lo / 2 ^ (s + 8)) (2 ^ 64) (2 ^ 8) in
      let l1 : down hi lo (s + 8) * 2 ^ 8 < 2 ^ 128 = subst (λ (k : ℕ). k < 2 ^ 128) (sym moved) (halves_lt a b (up_lt hi p) (up_lt lo q)) in
      let l2 : c * 2 ^ 64 < 2 ^ 128 = lt_of_lt_of_le (shl_lt 8 64 (mod-lt (hi / 2 ^ s) (lit< tt))) (pow_mono {i = 72} {j = 128} (omega arith)) in
      let ld : d < 2 ^ 64 = lt_of_lt_of_le (mod-lt (lo / 2 ^ s) (lit< tt)) (pow_mono {i = 8} {j = 64} (omega arith)) in
      ap₂ bit_xor (ap (times_x_to 8) e ∙ sym (times_shift gf128 8 h (down hi lo (s + 8)) l l1) ∙ ap (multiply h) moved)
      (ap₂ (λ (x y : ℕ). add (times_x_to 64 x) y) f g ∙ by_parts 64 h c d l l2 ld)
      ∙ sym (times_xor_right gf128 h (a * 2 ^ 64 + b) (c * 2 ^ 64 + d))
      ∙ ap (multiply h) (sym (xor_halves a b c d (up_lt lo q) ld) ∙ ap₂ (λ (x y : ℕ). x * 2 ^ 64 + y) (byte_more hi) (byte_more lo))

-- the fourth word stays small
pub fourth_word : (w3 t s u : ℕ) → u ≡ s + 8 → t < 256 → (w3 + 1) * 2 ^ u ≤ 2 ^ 64 → (w3 * 256 + t + 1) * 2 ^ s ≤ 2 ^ 64
fourth_word w3 t s u place h l =
    let e : (w3 + 1) * 2 ^ u ≡ (w3 * 256 + 256) * 2 ^ s =
    ap (λ (n : ℕ). (w3 + 1) * n) (ap (λ (n : ℕ). 2 ^ n) place ∙ pow-add 2 s 8 ∙ mul_comm (2 ^ s) 256) ∙ sym (mul_assoc (w3 + 1) 256 (2 ^ s)) ∙ ap (λ (n : ℕ). n * 2 ^ s) (add-mul w3 1 256) in
    le_trans (mul-le-mul_right (2 ^ s) (omega arith)) (subst (λ (n : ℕ). n ≤ 2 ^ 64) e l)

pub fourth_fits : (w3 s : ℕ) → 8 ≤ s → (w3 + 1) * 2 ^ s ≤ 2 ^ 64 → w3 * 256 < 2 ^ 64
fourth_fits w3 s h l =
    let a : (w3 + 1) * 256 ≤ (w3 + 1) * 2 ^ s = mul-le-mul_left (w3 + 1) (pow_mono {i = 8} h) in
    lt_of_lt_of_le (omega arith) (le_trans a l)

-- ---- the product of a, in four words, divided by x^64 twice

pub twice_reduced : (h a w3 w2 l e r : ℕ) → h < 2 ^ 128 → a < 2 ^ 128 → w3 < 2 ^ 64 → w2 < 2 ^ 64 → e < 2 ^ 128 → r < 2 ^ 128
    → add (times_x_to 128 (w3 * 2 ^ 64 + w2)) l ≡ multiply h a → times_x_to 64 e ≡ add (times_x_to 128 w2) l → times_x_to 64 r ≡ add (times_x_to 128 w3) e → r ≡ dot a h
twice_reduced h a w3 w2 l e r hh ha p q he hr product once twice =
    dot_is a h r ha hh hr
    (power-add gf128 64 64 r ∙ ap (times_x_to 64) twice ∙ carried 64 w3 e w2 l (omega arith) (shl_lt 64 64 p) he q once ∙ product)
