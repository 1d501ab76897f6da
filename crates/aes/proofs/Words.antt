-- Words of 32 bits by their four bytes, and of 64 by two such.
-- Assumes nothing.
use mathlib.Core.Path.{◌≡◌, sym, ap, ap₂, ◌∙◌}
use mathlib.Core.List.{List, [], ◌∷◌, ◌++◌}
use Prim.Native.Nat.{ℕ, ◌+◌, ◌*◌, ◌/◌, ◌%◌, ◌^◌, ◌<◌}
use native.Mathlib.Omega.{arith}
use lib.Arith.{digits_div, digits_mod}
use lib.Bits.{bit_or, or_shifted_r}
use lib.ListN.{get_or}
use Rattle.bits.specs.Words.{le_bytes}
use Rattle.bits.proofs.Lists.{list4}
use Rattle.fips197.specs.KeyExpansion.{rot_word}
use Rattle.fips197.specs.Sbox.{TableOf}
use Rattle.aes.specs.Columns.{diagonal}

-- w is the word of these four bytes
pub record Is (w a b c d : ℕ) : Type 0 where
  pub value : w ≡ a + b * 256 + c * 65536 + d * 16777216
  pub b0 : a < 256
  pub b1 : b < 256
  pub b2 : c < 256
  pub b3 : d < 256

pub is_bytes : {w a b c d : ℕ} → Is w a b c d → le_bytes 4 w ≡ a ∷ b ∷ c ∷ d ∷ []
is_bytes p = list4 (omega arith) (omega arith) (omega arith) (omega arith)

-- a word turned right by a byte
pub turned : (v w : ℕ) → w < 2 ^ 32 → v ≡ bit_or (w / 2 ^ 8) (w * 2 ^ 24 % 2 ^ 32) → le_bytes 4 v ≡ rot_word (le_bytes 4 w)
unfolding rot_word
turned v w h e =
    let hi = w / 256 in
    let lo = w % 256 in
    let s : w ≡ hi * 2 ^ 8 + lo = omega arith in
    let m : (hi * 2 ^ 8 + lo) * 2 ^ 24 ≡ hi * 2 ^ 32 + lo * 2 ^ 24 = omega arith in
    let f : w * 2 ^ 24 % 2 ^ 32 ≡ lo * 2 ^ 24 = ap (λ (x : ℕ). x * 2 ^ 24 % 2 ^ 32) s ∙ ap (λ (x : ℕ). x % 2 ^ 32) m ∙ digits_mod hi (omega arith) in
    let g : v ≡ lo * 2 ^ 24 + hi = e ∙ ap (bit_or hi) f ∙ or_shifted_r lo 24 hi (omega arith) in
    is_bytes {d = lo} (record { value = omega arith; b0 = omega arith; b1 = omega arith; b2 = omega arith; b3 = omega arith })

-- eight bytes are two words
pub halves : (x : ℕ) → le_bytes 4 (x % 2 ^ 32) ++ le_bytes 4 (x / 2 ^ 32) ≡ le_bytes 8 x
halves x =
    let e : x / 2 ^ 32 ≡ x / 256 / 256 / 256 / 256 = omega arith in
    ap₂ (λ (l : List ℕ) (y : ℕ). l ++ le_bytes 4 y) (list4 (omega arith) (omega arith) (omega arith) (omega arith)) e

pub joined : (a b : ℕ) → a < 2 ^ 32 → b < 2 ^ 32 → le_bytes 8 (a + b * 2 ^ 32 % 2 ^ 64) ≡ le_bytes 4 a ++ le_bytes 4 b
joined a b g h =
    let e : a + b * 2 ^ 32 % 2 ^ 64 ≡ b * 2 ^ 32 + a = omega arith in
    ap (le_bytes 8) e ∙ sym (halves (b * 2 ^ 32 + a))
    ∙ ap₂ (λ (x y : ℕ). le_bytes 4 x ++ le_bytes 4 y) (digits_mod b g) (digits_div b g)

-- bytes looked up in the table of f
pub through_table : (f : ℕ → ℕ) (t : List ℕ) → TableOf f t → (a b c d : ℕ) → diagonal (λ x. get_or t x 0) a b c d ≡ diagonal f a b c d
through_table f t rule a b c d = list4 (rule _ (omega arith)) (rule _ (omega arith)) (rule _ (omega arith)) (rule _ (omega arith))
