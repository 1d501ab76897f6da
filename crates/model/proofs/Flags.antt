-- RFLAGS by its bits: to set ZF and clear the other five once more changes nothing.
-- Assumes nothing.
use mathlib.Core.Path.{◌≡◌, ◌∙◌, sym, ap, ap₂, subst}
use Prim.Native.Nat.{ℕ, ◌+◌, ◌*◌, ◌-◌, ◌^◌, ◌/◌, ◌%◌, ◌<◌}
use native.Mathlib.Nat.{zero-add, mul_comm, mul-add, add_assoc, add-sub_cancel, add-mul-div_left, div-eq_of_lt}
use native.Mathlib.Omega.{arith}
use lib.Pow.{pow_pos}
use Rattle.model.specs.Numbers.{clear_bit}
use Rattle.model.specs.Cpu.{six_cleared, flags}

-- the bit t at place i, above low and below high
cut : (i : ℕ) {x y : ℕ} (low t high : ℕ) → x ≡ low + 2 ^ i * (t + 2 * high) → y ≡ low + 2 ^ i * (2 * high) → low < 2 ^ i → t < 2 → clear_bit i x ≡ y
cut i low t high ex ey h k =
    let p = 2 ^ i in
    let n = t + 2 * high in
    let digit : n % 2 ≡ t = omega arith in
    let turn : n ≡ 2 * high + t = omega arith in
    let quotient : (low + p * n) / p ≡ n =
    add-mul-div_left low n (pow_pos i) ∙ ap (λ (a : ℕ). a + n) (div-eq_of_lt h) ∙ zero-add n in
    let apart : low + p * n ≡ low + p * (2 * high) + t * p =
    ap (λ (a : ℕ). low + p * a) turn ∙ ap (λ (a : ℕ). low + a) (mul-add p (2 * high) t ∙ ap (λ (a : ℕ). p * (2 * high) + a) (mul_comm p t))
    ∙ sym (add_assoc low (p * (2 * high)) (t * p)) in
    ap (clear_bit i) ex
    ∙ ap₂ (λ (a b : ℕ). a - b % 2 * p) apart quotient
    ∙ ap (λ (b : ℕ). low + p * (2 * high) + t * p - b * p) digit
    ∙ add-sub_cancel (low + p * (2 * high)) (t * p)
    ∙ sym ey

-- the six flags, and the bits between them
abbrev word : ℕ → ℕ → ℕ → ℕ → ℕ → ℕ → ℕ → ℕ → ℕ → ℕ → ℕ → ℕ
word cf b1 pf b3 af b5 zf sf high of rest =
    cf + 2 * b1 + 4 * pf + 8 * b3 + 16 * af + 32 * b5 + 64 * zf + 128 * sf + 256 * high + 2048 * of + 4096 * rest

below : (k r : ℕ) → k < 4096 → (k + 4096 * r) % 256 ^ 8 ≡ k + 4096 * (r % 2 ^ 52)
below k r h = omega arith

module _ (b1 b3 b5 high : ℕ) (h1 : b1 < 2) (h3 : b3 < 2) (h5 : b5 < 2) (hh : high < 8) where
  word_cleared : (cf pf af zf sf of rest : ℕ) → cf < 2 → pf < 2 → af < 2 → zf < 2 → sf < 2 → of < 2
      → six_cleared (word cf b1 pf b3 af b5 zf sf high of rest) ≡ word 0 b1 0 b3 0 b5 0 0 high 0 rest
  word_cleared cf pf af zf sf of rest hc hp ha hz hs ho =
      let l2 = cf + 2 * b1 in
      let l4 = l2 + 4 * pf + 8 * b3 in
      let l6 = l4 + 16 * af + 32 * b5 in
      let l7 = l6 + 64 * zf in
      let m7 = high + 16 * rest in
      let m4 = b5 + 2 * (2 * (2 * m7)) in
      let m2 = b3 + 2 * (2 * m4) in
      let m0 = b1 + 2 * (2 * m2) in
      ap (λ (x : ℕ). clear_bit 0 (clear_bit 2 (clear_bit 4 (clear_bit 6 (clear_bit 7 x)))))
      (cut 11 {y = l7 + 2 ^ 7 * (sf + 2 * m7)} (l7 + 128 * sf + 256 * high) of rest (omega arith) (omega arith) (omega arith) ho)
      ∙ ap (λ (x : ℕ). clear_bit 0 (clear_bit 2 (clear_bit 4 (clear_bit 6 x))))
      (cut 7 {y = l6 + 2 ^ 6 * (zf + 2 * (2 * m7))} l7 sf m7 (omega arith) (omega arith) (omega arith) hs)
      ∙ ap (λ (x : ℕ). clear_bit 0 (clear_bit 2 (clear_bit 4 x)))
      (cut 6 {y = l4 + 2 ^ 4 * (af + 2 * m4)} l6 zf (2 * m7) (omega arith) (omega arith) (omega arith) hz)
      ∙ ap (λ (x : ℕ). clear_bit 0 (clear_bit 2 x)) (cut 4 {y = l2 + 2 ^ 2 * (pf + 2 * m2)} l4 af m4 (omega arith) (omega arith) (omega arith) ha)
      ∙ ap (clear_bit 0) (cut 2 {y = 0 + 2 ^ 0 * (cf + 2 * m0)} l2 pf m2 (omega arith) (omega arith) (omega arith) hp)
      ∙ cut 0 0 cf m0 (omega arith) (omega arith) (omega arith) hc

  module _ (z : ℕ) (hz : z < 2) where
    -- the same with ZF told
    abbrev told : ℕ → ℕ
    told rest = word 0 b1 0 b3 0 b5 z 0 high 0 rest

    word_flags : (cf pf af zf sf of rest : ℕ) → cf < 2 → pf < 2 → af < 2 → zf < 2 → sf < 2 → of < 2
        → flags z (word cf b1 pf b3 af b5 zf sf high of rest) ≡ told rest
    word_flags cf pf af zf sf of rest hc hp ha hz hs ho =
        ap (λ (a : ℕ). a + z * 2 ^ 6) (word_cleared cf pf af zf sf of rest hc hp ha hz hs ho) ∙ omega arith

    told_stored : (rest : ℕ) → told rest % 256 ^ 8 ≡ told (rest % 2 ^ 52)
    told_stored rest = below (0 + 2 * b1 + 4 * 0 + 8 * b3 + 16 * 0 + 32 * b5 + 64 * z + 128 * 0 + 256 * high + 2048 * 0) rest (omega arith)

    word_again : (cf pf af zf sf of rest : ℕ) → cf < 2 → pf < 2 → af < 2 → zf < 2 → sf < 2 → of < 2
        → let y = flags z (word cf b1 pf b3 af b5 zf sf high of rest) % 256 ^ 8 in flags z y ≡ y
    word_again cf pf af zf sf of rest hc hp ha hf hs ho =
        let stored = ap (λ (a : ℕ). a % 256 ^ 8) (word_flags cf pf af zf sf of rest hc hp ha hf hs ho) ∙ told_stored rest in
        let none : 0 < 2 = omega arith in
        ap (flags z) stored ∙ word_flags 0 0 0 z 0 0 (rest % 2 ^ 52) none none none hz none none ∙ sym stored

-- every number is such a word
nibbles : (x : ℕ) → x % 16 + 16 * (x / 16 % 16) + 256 * (x / 256 % 16) + 4096 * (x / 4096) ≡ x
nibbles x = omega arith

half : (n : ℕ) → n % 2 + 2 * (n / 2) ≡ n
half n = omega arith

nibble : (n : ℕ) → n % 2 + 2 * (n / 2 % 2) + 4 * (n / 2 / 2 % 2) + 8 * (n / 2 / 2 / 2) ≡ n
nibble n = omega (arith, half n, half (n / 2), half (n / 2 / 2))

word_of : (l m h r : ℕ)
    → word (l % 2) (l / 2 % 2) (l / 2 / 2 % 2) (l / 2 / 2 / 2) (m % 2) (m / 2 % 2) (m / 2 / 2 % 2) (m / 2 / 2 / 2) (h % 8) (h / 8) r
    ≡ l + 16 * m + 256 * h + 4096 * r
word_of l m h r = let c : h % 8 + 8 * (h / 8) ≡ h = omega arith in omega (arith, nibble l, nibble m)

-- 64 bits are stored
pub flags_again : (z x : ℕ) → z < 2 → flags z (flags z x % 256 ^ 8) ≡ flags z x % 256 ^ 8
flags_again z x h =
    let l = x % 16 in
    let m = x / 16 % 16 in
    let t = x / 256 % 16 in
    subst (λ (y : ℕ). flags z (flags z y % 256 ^ 8) ≡ flags z y % 256 ^ 8) (word_of l m t (x / 4096) ∙ nibbles x)
    (word_again (l / 2 % 2) (l / 2 / 2 / 2) (m / 2 % 2) (t % 8) (omega arith) (omega arith) (omega arith) (omega arith) z h
    (l % 2) (l / 2 / 2 % 2) (m % 2) (m / 2 / 2 % 2) (m / 2 / 2 / 2) (t / 8) (x / 4096)
    (omega arith) (omega arith) (omega arith) (omega arith) (omega arith) (omega arith))
