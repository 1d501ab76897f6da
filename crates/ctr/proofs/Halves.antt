-- Counter blocks in two halves of 64 bits, highest byte first.
-- Assumes nothing.
use Rattle.std.proofs.Common.{◌≡◌, ℕ, ◌+◌, ◌*◌, ◌/◌, ◌%◌, ◌^◌, ◌<◌, List, ◌++◌, reverse, sym, ap, ◌∙◌, ap₂, arith}
use mathlib.Core.List.{reverse-append, reverse-reverse}
use Rattle.bits.specs.Words.{le_bytes, le_value}
use Rattle.bits.proofs.Words.{le-append, value_append, value_of_le}
use Rattle.aes.proofs.Words.{halves, joined}
use Rattle.sp800_38a.specs.Counter.{be_bytes, counter_at}
use Rattle.sp800_38a.proofs.Counters.{le-mod}

-- a half of two words, each in reverse
pub two_words : (a b x y : ℕ) → x < 2 ^ 32 → y < 2 ^ 32 → le_bytes 4 x ≡ reverse (le_bytes 4 a) → le_bytes 4 y ≡ reverse (le_bytes 4 b)
    → be_bytes 8 (y + x * 2 ^ 32 % 2 ^ 64) ≡ le_bytes 4 a ++ le_bytes 4 b
two_words a b x y hx hy ex ey =
    ap reverse (joined y x hy hx ∙ ap₂ (λ (l m : List ℕ). l ++ m) ey ex)
    ∙ reverse-append (reverse (le_bytes 4 b)) (reverse (le_bytes 4 a))
    ∙ ap₂ (λ (l m : List ℕ). l ++ m) (reverse-reverse (le_bytes 4 a)) (reverse-reverse (le_bytes 4 b))

-- and back
pub in_words : (x : ℕ) {p q : List ℕ} {a b : ℕ} → p ≡ reverse (le_bytes 4 a) → a ≡ x / 2 ^ 32 → q ≡ reverse (le_bytes 4 b) → b ≡ x % 2 ^ 32 → p ++ q ≡ be_bytes 8 x
in_words x ep ea eq eb =
    ap₂ (λ (l m : List ℕ). l ++ m) (ep ∙ ap (λ (n : ℕ). reverse (le_bytes 4 n)) ea) (eq ∙ ap (λ (n : ℕ). reverse (le_bytes 4 n)) eb)
    ∙ sym (reverse-append (le_bytes 4 (x % 2 ^ 32)) (le_bytes 4 (x / 2 ^ 32)))
    ∙ ap reverse (halves x)

-- ---- the next one

module _ (h l : ℕ) (small_h : h < 2 ^ 64) (small_l : l < 2 ^ 64) where
  abbrev block : List ℕ
  block = be_bytes 8 h ++ be_bytes 8 l

  backwards : reverse block ≡ le_bytes 8 l ++ le_bytes 8 h
  backwards =
      reverse-append (be_bytes 8 h) (be_bytes 8 l) ∙ ap₂ (λ (p q : List ℕ). p ++ q) (reverse-reverse (le_bytes 8 l)) (reverse-reverse (le_bytes 8 h))

  value : le_value (reverse block) ≡ l + 256 ^ 8 * h
  value =
      ap le_value backwards
      ∙ value_append (le_bytes 8 l) (le_bytes 8 h)
      ∙ ap₂ (λ (x y : ℕ). x + 256 ^ 8 * y) (value_of_le 8 l small_l) (value_of_le 8 h small_h)

  -- a number of two halves, highest byte first
  two_halves : (x y : ℕ) → y < 256 ^ 8 → be_bytes 16 (x * 256 ^ 8 + y) ≡ be_bytes 8 x ++ be_bytes 8 y
  two_halves x y k = ap reverse (le-append 8 8 y x k) ∙ reverse-append (le_bytes 8 y) (le_bytes 8 x)

  counted_to : (x y : ℕ) → y < 256 ^ 8 → l + 256 ^ 8 * h + 1 ≡ x * 256 ^ 8 + y → counter_at block 1 ≡ be_bytes 8 x ++ be_bytes 8 y
  unfolding counter_at
  counted_to x y k e = ap (λ (n : ℕ). be_bytes 16 (n + 1)) value ∙ ap (be_bytes 16) e ∙ two_halves x y k

  pub low_counts : (m : ℕ) → m ≡ (l + 1) % 2 ^ 64 → (m ≡ 0 → ⊥) → be_bytes 8 h ++ be_bytes 8 m ≡ counter_at block 1
  low_counts m e z =
      let same : m ≡ l + 1 = omega arith in
      ap (λ (n : ℕ). be_bytes 8 h ++ be_bytes 8 n) same ∙ sym (counted_to h (l + 1) (omega arith) (omega arith))

  -- the low half becomes 0, and the high one counts, modulo 2^64
  pub high_counts : (m n : ℕ) → m ≡ (l + 1) % 2 ^ 64 → m ≡ 0 → n ≡ (h + 1) % 2 ^ 64 → be_bytes 8 n ++ be_bytes 8 m ≡ counter_at block 1
  high_counts m n e z p =
      ap₂ (λ (x y : ℕ). be_bytes 8 x ++ be_bytes 8 y) p z
      ∙ ap (λ (t : List ℕ). reverse t ++ be_bytes 8 0) (le-mod 8 (h + 1))
      ∙ sym (counted_to (h + 1) 0 (omega arith) (omega arith))
