-- Tests of every byte of a handle, by its ends.
-- Assumes nothing.
use mathlib.Core.Path.{◌≡◌, refl, sym, ap, ap₂, ◌∙◌}
use mathlib.Core.Bool.{Bool, true, false, not, ◌&&◌, ◌||◌}
use Prim.Native.Nat.{ℕ, zero, suc, ◌+◌, ◌-◌, ◌^◌, ◌/◌, ◌%◌, ◌≤◌, ◌<◌}
use native.Mathlib.Nat.{add-zero, mod-eq_of_lt, not-suc-le-zero, le_of_suc-le-suc, zero-lt-suc}
use native.Mathlib.Omega.{arith}
use lib.Dec.{eqb, leb, ltb, lit<, lit≤}
use borrow.Author.Tests.{eq-eqb, ne_eqb, ltb-true, ltb-false, leb-true, leb-false, lt-ltb, le-ltb, le-leb, lt-leb}
use Rattle.fips197.specs.declared.KeySize.{KeySize}
use Rattle.fips197.specs.declared.KeySize.TheVariants.{Aes128, Aes256}
use Rattle.isa.specs.Ranges.{canonical, handle_length, any_byte, some_not_canonical, some_outside}

-- ---- any of n bytes

pub any_true : (test : ℕ → Bool) (n a i : ℕ) → i < n → test ((a + i) % 2 ^ 64) ≡ true → any_byte test a n ≡ true
any_true test zero a i h e = absurd (not-suc-le-zero h)
any_true test (suc n) a zero h e =
    ap (λ (b : Bool). b || any_byte test (a + 1) n) (ap (λ (x : ℕ). test (x % 2 ^ 64)) (sym (add-zero a)) ∙ e)
any_true test (suc n) a (suc i) h e =
    let f : a + suc i ≡ a + 1 + i = omega arith in
    ap (λ (b : Bool). test (a % 2 ^ 64) || b) (any_true test n (a + 1) i (le_of_suc-le-suc h) (ap (λ (x : ℕ). test (x % 2 ^ 64)) (sym f) ∙ e))
    ∙ or_true (test (a % 2 ^ 64))
  where
    or_true : (b : Bool) → (b || true) ≡ true
    or_true true = refl
    or_true false = refl

pub any_false : (test : ℕ → Bool) (n a : ℕ) → ((i : ℕ) → i < n → test ((a + i) % 2 ^ 64) ≡ false) → any_byte test a n ≡ false
any_false test zero a h = refl
any_false test (suc n) a h =
    ap₂ (λ (p q : Bool). p || q) (ap (λ (x : ℕ). test (x % 2 ^ 64)) (sym (add-zero a)) ∙ h zero (zero-lt-suc n))
    (any_false test n (a + 1) (λ i l.
    let f : a + 1 + i ≡ a + suc i = omega arith in
    ap (λ (x : ℕ). test (x % 2 ^ 64)) f ∙ h (suc i) (omega arith)))

-- ---- canonical bytes

pub canonical_low : (a : ℕ) → a < 2 ^ 47 → canonical a ≡ true
canonical_low a h =
    let e : a / 2 ^ 47 ≡ 0 = omega arith in
    ap (λ (b : Bool). b || eqb (a / 2 ^ 47) (2 ^ 17 - 1)) (eq-eqb (a / 2 ^ 47) 0 e)

canonical_high : (a : ℕ) → 0xFFFF_8000_0000_0000 ≤ a → a < 2 ^ 64 → canonical a ≡ true
canonical_high a h l =
    let e : a / 2 ^ 47 ≡ 2 ^ 17 - 1 = omega arith in
    let n : a / 2 ^ 47 ≡ 0 → ⊥ = λ z. omega arith in
    ap₂ (λ (p q : Bool). p || q) (ne_eqb (a / 2 ^ 47) 0 n) (eq-eqb (a / 2 ^ 47) (2 ^ 17 - 1) e)

not-canonical : (a : ℕ) → 2 ^ 47 ≤ a → a < 0xFFFF_8000_0000_0000 → canonical a ≡ false
not-canonical a h l =
    let m : a / 2 ^ 47 ≡ 0 → ⊥ = λ z. omega arith in
    let n : a / 2 ^ 47 ≡ 2 ^ 17 - 1 → ⊥ = λ z. omega arith in
    ap₂ (λ (p q : Bool). p || q) (ne_eqb (a / 2 ^ 47) 0 m) (ne_eqb (a / 2 ^ 47) (2 ^ 17 - 1) n)

-- from the top of the range a handle runs into the bottom of it
top_byte : (a i : ℕ) → 0xFFFF_8000_0000_0000 ≤ a → a < 2 ^ 64 → i < 2 ^ 47 → canonical ((a + i) % 2 ^ 64) ≡ true
top_byte a i h l k = go (ltb (a + i) (2 ^ 64)) refl where
  go : (b : Bool) → ltb (a + i) (2 ^ 64) ≡ b → canonical ((a + i) % 2 ^ 64) ≡ true
  go true e =
      let p : a + i < 2 ^ 64 = ltb-true (a + i) (2 ^ 64) e in
      let f : (a + i) % 2 ^ 64 ≡ a + i = mod-eq_of_lt p in
      ap canonical f ∙ canonical_high (a + i) (omega arith) p
  go false e =
      let p : 2 ^ 64 ≤ a + i = ltb-false (a + i) (2 ^ 64) e in
      canonical_low ((a + i) % 2 ^ 64) (omega arith)

module _ (a n : ℕ) (l : a < 2 ^ 64) (some : 0 < n) (few : n ≤ 2 ^ 47) where
  abbrev ends : Bool
  ends = not (canonical a && canonical ((a + (n - 1)) % 2 ^ 64))

  low_low : a + (n - 1) < 2 ^ 47 → some_not_canonical a n ≡ ends
  unfolding some_not_canonical
  low_low h =
      let f : (a + (n - 1)) % 2 ^ 64 ≡ a + (n - 1) = mod-eq_of_lt (omega arith) in
      any_false (λ b. not (canonical b)) n a (λ i k.
      let g : (a + i) % 2 ^ 64 ≡ a + i = mod-eq_of_lt (omega arith) in
      ap (λ (b : ℕ). not (canonical b)) g ∙ ap not (canonical_low (a + i) (omega arith)))
      ∙ sym (ap₂ (λ (p q : Bool). not (p && q)) (canonical_low a (omega arith)) (ap canonical f ∙ canonical_low (a + (n - 1)) h))

  low_out : a < 2 ^ 47 → 2 ^ 47 ≤ a + (n - 1) → some_not_canonical a n ≡ ends
  unfolding some_not_canonical
  low_out h k =
      let f : (a + (n - 1)) % 2 ^ 64 ≡ a + (n - 1) = mod-eq_of_lt (omega arith) in
      let e : canonical ((a + (n - 1)) % 2 ^ 64) ≡ false = ap canonical f ∙ not-canonical (a + (n - 1)) k (omega arith) in
      any_true (λ b. not (canonical b)) n a (n - 1) (omega arith) (ap not e)
      ∙ sym (ap₂ (λ (p q : Bool). not (p && q)) (canonical_low a h) e)

  middle : 2 ^ 47 ≤ a → a < 0xFFFF_8000_0000_0000 → some_not_canonical a n ≡ ends
  unfolding some_not_canonical
  middle h k =
      let e : canonical a ≡ false = not-canonical a h k in
      let f : (a + 0) % 2 ^ 64 ≡ a = ap (λ (x : ℕ). x % 2 ^ 64) (add-zero a) ∙ mod-eq_of_lt l in
      any_true (λ b. not (canonical b)) n a 0 some (ap (λ (b : ℕ). not (canonical b)) f ∙ ap not e)
      ∙ sym (ap (λ (p : Bool). not (p && canonical ((a + (n - 1)) % 2 ^ 64))) e)

  top : 0xFFFF_8000_0000_0000 ≤ a → some_not_canonical a n ≡ ends
  unfolding some_not_canonical
  top h =
      any_false (λ b. not (canonical b)) n a (λ i k. ap not (top_byte a i h l (omega arith)))
      ∙ sym (ap₂ (λ (p q : Bool). not (p && q)) (canonical_high a h l) (top_byte a (n - 1) h l (omega arith)))

  -- a byte is not canonical exactly where the first or the last is not
  pub canonical-ends : some_not_canonical a n ≡ not (canonical a && canonical ((a + (n - 1)) % 2 ^ 64))
  canonical-ends = go (ltb a (2 ^ 47)) refl (ltb (a + (n - 1)) (2 ^ 47)) refl (ltb a 0xFFFF_8000_0000_0000) refl where
    go : (p : Bool) → ltb a (2 ^ 47) ≡ p → (q : Bool) → ltb (a + (n - 1)) (2 ^ 47) ≡ q → (r : Bool) → ltb a 0xFFFF_8000_0000_0000 ≡ r → some_not_canonical a n ≡ ends
    go true e true f r g = low_low (ltb-true (a + (n - 1)) (2 ^ 47) f)
    go true e false f r g = low_out (ltb-true a (2 ^ 47) e) (ltb-false (a + (n - 1)) (2 ^ 47) f)
    go false e q f true g = middle (ltb-false a (2 ^ 47) e) (ltb-true a 0xFFFF_8000_0000_0000 g)
    go false e q f false g = top (ltb-false a 0xFFFF_8000_0000_0000 g)

-- ---- bytes in memory

-- a byte is outside exactly where the memory ends before the last
pub outside_ends : (memory a n : ℕ) → memory < 2 ^ 64 → a < 2 ^ 64 → 0 < n → some_outside memory a n ≡ ltb memory (a + n)
unfolding some_outside
outside_ends memory a n m l some = go (ltb memory (a + n)) refl where
  at : (i : ℕ) → i < n → memory ≤ (a + i) % 2 ^ 64 → any_byte (leb memory) a n ≡ true
  at i k h = any_true (leb memory) n a i k (le-leb memory ((a + i) % 2 ^ 64) h)

  found : memory < a + n → (b : Bool) → leb memory a ≡ b → any_byte (leb memory) a n ≡ true
  found h true e =
      let p : memory ≤ a = leb-true memory a e in
      at 0 some (omega arith)
  found h false e =
      let p : a < memory = leb-false memory a e in
      at (memory - a) (omega arith) (omega arith)

  go : (b : Bool) → ltb memory (a + n) ≡ b → any_byte (leb memory) a n ≡ b
  go true e = found (ltb-true memory (a + n) e) (leb memory a) refl
  go false e =
      let p : a + n ≤ memory = ltb-false memory (a + n) e in
      any_false (leb memory) n a (λ i k. lt-leb memory ((a + i) % 2 ^ 64) (omega arith))

-- the same, as a difference
pub difference : (memory a n : ℕ) → a ≤ memory → ltb (memory - a) n ≡ ltb memory (a + n)
difference memory a n h = go (ltb (memory - a) n) refl where
  go : (b : Bool) → ltb (memory - a) n ≡ b → b ≡ ltb memory (a + n)
  go true e =
      let p : memory - a < n = ltb-true (memory - a) n e in
      sym (lt-ltb memory (a + n) (omega arith))
  go false e =
      let p : n ≤ memory - a = ltb-false (memory - a) n e in
      sym (le-ltb memory (a + n) (omega arith))

-- a handle has bytes, and few
pub length_some : (size : KeySize) → 0 < handle_length size
length_some Aes128 = lit< tt
length_some Aes256 = lit< tt

pub length_few : (size : KeySize) → handle_length size ≤ 64
length_few Aes128 = lit≤ tt
length_few Aes256 = lit≤ tt
