-- Numbers in two words of 64 bits, and shifts of them.
-- Assumes nothing.
use mathlib.Core.Path.{◌≡◌, sym, ap, ap₂, subst, ◌∙◌}
use Prim.Native.Nat.{ℕ, ◌+◌, ◌*◌, ◌/◌, ◌%◌, ◌^◌, ◌<◌}
use native.Mathlib.Nat.{add-zero, zero-add, add_comm, add_assoc, add-mul, mul_assoc, mul_comm, mod-lt, mul-mod_left}
use lib.Arith.{digits_lt, digits_div, digits_mod}
use lib.Bits.{bit_xor, xor_block, xor_zero_r}
use lib.Dec.{lit<}
use lib.Pow.{pow_pos, pow-add, mod-pow-add, shl-shr, shr-shr, shr_lt, split}

-- two sums, word by word
pub xor_halves : (a b c d : ℕ) → b < 2 ^ 64 → d < 2 ^ 64 → bit_xor a c * 2 ^ 64 + bit_xor b d ≡ bit_xor (a * 2 ^ 64 + b) (c * 2 ^ 64 + d)
xor_halves a b c d p q = sym (xor_block 64 a c b d p q)

-- one word added to the first, and to the second
pub xor_high : (a b c : ℕ) → b < 2 ^ 64 → bit_xor a c * 2 ^ 64 + b ≡ bit_xor (a * 2 ^ 64 + b) (c * 2 ^ 64)
xor_high a b c p =
    ap (λ (n : ℕ). bit_xor a c * 2 ^ 64 + n) (sym (xor_zero_r b)) ∙ xor_halves a b c 0 p (lit< tt) ∙ ap (bit_xor (a * 2 ^ 64 + b)) (add-zero (c * 2 ^ 64))

pub xor_low : (a b d : ℕ) → b < 2 ^ 64 → d < 2 ^ 64 → a * 2 ^ 64 + bit_xor b d ≡ bit_xor (a * 2 ^ 64 + b) d
xor_low a b d p q =
    ap (λ (n : ℕ). n * 2 ^ 64 + bit_xor b d) (sym (xor_zero_r a)) ∙ xor_halves a b 0 d p q ∙ ap (bit_xor (a * 2 ^ 64 + b)) (zero-add d)

pub halves_lt : (a b : ℕ) → a < 2 ^ 64 → b < 2 ^ 64 → a * 2 ^ 64 + b < 2 ^ 128
halves_lt a b p q = digits_lt {m = 2 ^ 64} {c = 2 ^ 64} p q

-- a number j places up, above and below place i + j
pub moved_div : (i j x : ℕ) → x * 2 ^ j / 2 ^ (i + j) ≡ x / 2 ^ i
moved_div i j x = ap (λ (n : ℕ). x * 2 ^ j / 2 ^ n) (add_comm i j) ∙ sym (shr-shr (x * 2 ^ j) j i) ∙ ap (λ (n : ℕ). n / 2 ^ i) (shl-shr x j)

pub moved_mod : (i j x : ℕ) → x * 2 ^ j % 2 ^ (i + j) ≡ x % 2 ^ i * 2 ^ j
moved_mod i j x =
    mod-pow-add (x * 2 ^ j) i j ∙ ap₂ (λ (p q : ℕ). p % 2 ^ i * 2 ^ j + q) (shl-shr x j) (mul-mod_left x (2 ^ j)) ∙ add-zero (x % 2 ^ i * 2 ^ j)

-- in two words: the second word, and what goes over into the first
pub moved_halves : (i j x : ℕ) → i + j ≡ 64 → x / 2 ^ i * 2 ^ 64 + x * 2 ^ j % 2 ^ 64 ≡ x * 2 ^ j
moved_halves i j x e =
    ap (λ (n : ℕ). n * 2 ^ 64 + x * 2 ^ j % 2 ^ 64) (sym (ap (λ (n : ℕ). x * 2 ^ j / 2 ^ n) (sym e) ∙ moved_div i j x)) ∙ split (x * 2 ^ j) 64

-- two words as one number, times n
pub spread : (x y m n : ℕ) → (x * m + y) * n ≡ x * n * m + y * n
spread x y m n = add-mul (x * m) y n ∙ ap (λ (z : ℕ). z + y * n) (mul_assoc x m n ∙ ap (λ (z : ℕ). x * z) (mul_comm m n) ∙ sym (mul_assoc x n m))

-- over the size m of a word: each word's top part goes over into the next
carry : (t a b l m : ℕ) → (t * m + a) * m + (b * m + l) ≡ t * (m * m) + ((a + b) * m + l)
carry t a b l m =
    ap (λ (n : ℕ). n + (b * m + l)) (add-mul (t * m) a m ∙ ap (λ (n : ℕ). n + a * m) (mul_assoc t m m))
    ∙ add_assoc (t * (m * m)) (a * m) (b * m + l)
    ∙ ap (λ (n : ℕ). t * (m * m) + n) (sym (add_assoc (a * m) (b * m) l) ∙ ap (λ (n : ℕ). n + l) (sym (add-mul a b m)))

-- a number of two words j places up, in three words
module _ (i j h l : ℕ) (e : i + j ≡ 64) (q : l < 2 ^ 64) where
  abbrev middle : ℕ
  middle = h * 2 ^ j % 2 ^ 64 + l / 2 ^ i

  pub middle-lt : middle < 2 ^ 64
  middle-lt =
      let high : h * 2 ^ j % 2 ^ 64 ≡ h % 2 ^ i * 2 ^ j = ap (λ (n : ℕ). h * 2 ^ j % 2 ^ n) (sym e) ∙ moved_mod i j h in
      let f : j + i ≡ 64 = add_comm j i ∙ e in
      let over : l / 2 ^ i < 2 ^ j = shr_lt j i (subst (λ (n : ℕ). l < 2 ^ n) (sym f) q) in
      let size : 2 ^ i * 2 ^ j ≡ 2 ^ 64 = sym (pow-add 2 i j) ∙ ap (λ (n : ℕ). 2 ^ n) e in
      subst (λ (n : ℕ). n + l / 2 ^ i < 2 ^ 64) (sym high)
      (subst (λ (n : ℕ). h % 2 ^ i * 2 ^ j + l / 2 ^ i < n) size (digits_lt (mod-lt h (pow_pos i)) over))

  below : middle * 2 ^ 64 + l * 2 ^ j % 2 ^ 64 < 2 ^ 128
  below = halves_lt middle (l * 2 ^ j % 2 ^ 64) middle-lt (mod-lt (l * 2 ^ j) (pow_pos 64))

  pub moved : (h * 2 ^ 64 + l) * 2 ^ j ≡ h / 2 ^ i * 2 ^ 128 + (middle * 2 ^ 64 + l * 2 ^ j % 2 ^ 64)
  moved =
      spread h l (2 ^ 64) (2 ^ j)
      ∙ ap₂ (λ (x y : ℕ). x * 2 ^ 64 + y) (sym (moved_halves i j h e)) (sym (moved_halves i j l e))
      ∙ carry (h / 2 ^ i) (h * 2 ^ j % 2 ^ 64) (l / 2 ^ i) (l * 2 ^ j % 2 ^ 64) (2 ^ 64)

  pub moved_low : (h * 2 ^ 64 + l) * 2 ^ j % 2 ^ 128 ≡ middle * 2 ^ 64 + l * 2 ^ j % 2 ^ 64
  moved_low = ap (λ (n : ℕ). n % 2 ^ 128) moved ∙ digits_mod (h / 2 ^ i) below

  pub moved_high : (h * 2 ^ 64 + l) * 2 ^ j / 2 ^ 128 ≡ h / 2 ^ i
  moved_high = ap (λ (n : ℕ). n / 2 ^ 128) moved ∙ digits_div (h / 2 ^ i) below
