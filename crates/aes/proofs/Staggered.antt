-- The staggered sum is the product with the matrix, whatever its row.
-- Assumes nothing.
use mathlib.Core.Path.{◌≡◌, refl, sym, ap, ap₂, ◌∙◌}
use mathlib.Core.List.{List, [], ◌∷◌, map, map-map, map-id}
use Prim.Native.Nat.{ℕ}
use lib.Bits.{bit_xor, xor_comm}
use lib.ListN.{get_or}
use Rattle.bits.specs.Bytes.{xor_bytes}
use Rattle.bits.specs.Words.{le_bytes}
use Rattle.bits.proofs.Lists.{cons, list4}
use Rattle.bits.proofs.Words.{le_xor}
use Rattle.bits.proofs.Xor.{xor_assoc}
use Rattle.bits.specs.Polynomials.{multiply_bits}
use Rattle.fips197.specs.Field.{multiply}
use Rattle.fips197.specs.Cipher.{matrix_row}
use Rattle.fips197.specs.InvCipher.{inv_mix_row}
use Rattle.fips197.specs.KeyExpansion.{rot_word}
use Rattle.aes.specs.Columns.{scaled, staggered, mixed}

-- the last of four terms put first
turn : (a b c d : ℕ) → bit_xor (bit_xor (bit_xor a b) c) d ≡ bit_xor (bit_xor (bit_xor d a) b) c
turn a b c d =
    xor_comm (bit_xor (bit_xor a b) c) d ∙ sym (xor_assoc d (bit_xor a b) c) ∙ ap (λ (x : ℕ). bit_xor x c) (sym (xor_assoc d a b))

module _ (p q r s x : ℕ) where
  staggers : staggered (scaled p (le_bytes 4 x)) (scaled q (le_bytes 4 x)) (scaled r (le_bytes 4 x)) (scaled s (le_bytes 4 x)) ≡ mixed (p ∷ q ∷ r ∷ s ∷ []) (le_bytes 4 x)
  unfolding staggered scaled mixed matrix_row
  staggers =
      let m : ℕ → ℕ → ℕ = λ i k. multiply (get_or (le_bytes 4 x) i 0) k in
      list4 refl
      (turn (m 1 p) (m 2 q) (m 3 r) (m 0 s))
      (turn (m 2 p) (m 3 q) (m 0 r) (m 1 s) ∙ turn (m 1 s) (m 2 p) (m 3 q) (m 0 r))
      (turn (m 3 p) (m 0 q) (m 1 r) (m 2 s) ∙ turn (m 2 s) (m 3 p) (m 0 q) (m 1 r) ∙ turn (m 1 r) (m 2 s) (m 3 p) (m 0 q))

  pub product : {a b c d : List ℕ} → a ≡ scaled p (le_bytes 4 x) → b ≡ scaled q (le_bytes 4 x) → c ≡ scaled r (le_bytes 4 x) → d ≡ scaled s (le_bytes 4 x)
      → staggered a b c d ≡ mixed (p ∷ q ∷ r ∷ s ∷ []) (le_bytes 4 x)
  product {a} {b} {c} {d} e f g h =
      ap₂ (λ (u v : List ℕ). staggered u v c d) e f
      ∙ ap₂ (λ (u v : List ℕ). staggered (scaled p (le_bytes 4 x)) (scaled q (le_bytes 4 x)) u v) g h ∙ staggers

-- the sum as the code makes it, of words and words turned
pub summed : (a x y z : ℕ) (b c d : List ℕ) → le_bytes 4 x ≡ rot_word b → le_bytes 4 y ≡ rot_word (rot_word c) → le_bytes 4 z ≡ rot_word (rot_word (rot_word d))
    → le_bytes 4 (bit_xor (bit_xor (bit_xor a x) y) z) ≡ staggered (le_bytes 4 a) b c d
unfolding staggered rot_word
summed a x y z b c d e f g =
    le_xor 4 (bit_xor (bit_xor a x) y) z
    ∙ ap₂ xor_bytes (le_xor 4 (bit_xor a x) y ∙ ap₂ xor_bytes (le_xor 4 a x ∙ ap (xor_bytes (le_bytes 4 a)) e) f) g

-- two functions at every byte, added
xor_map : (f g : ℕ → ℕ) (l : List ℕ) → xor_bytes (map f l) (map g l) ≡ map (λ (b : ℕ). bit_xor (f b) (g b)) l
xor_map f g [] = refl
xor_map f g (b ∷ l) = cons refl (xor_map f g l)

-- the products of a word from the doubled word, over the width: y is x times k, each of n bytes
abbrev Times : ℕ → ℕ → ℕ → ℕ → Type 0
Times n k x y = le_bytes n y ≡ scaled k (le_bytes n x)

by_one : (n x : ℕ) → Times n 1 x x
unfolding scaled multiply_bits
by_one n x = sym (map-id (le_bytes n x))

sum : (n x p q : ℕ) (f g : ℕ → ℕ) → le_bytes n p ≡ map f (le_bytes n x) → le_bytes n q ≡ map g (le_bytes n x)
    → le_bytes n (bit_xor p q) ≡ map (λ (b : ℕ). bit_xor (f b) (g b)) (le_bytes n x)
sum n x p q f g d e = le_xor n p q ∙ ap₂ xor_bytes d e ∙ xor_map f g (le_bytes n x)

record Products (n x x2 x4 x8 : ℕ) : Type 0 where
  by14 : Times n 14 x (bit_xor (bit_xor x8 x4) x2)
  by11 : Times n 11 x (bit_xor (bit_xor x8 x2) x)
  by13 : Times n 13 x (bit_xor (bit_xor x8 x4) x)
  by9 : Times n 9 x (bit_xor x8 x)

products : (n x x2 x4 x8 : ℕ) → Times n 2 x x2 → Times n 2 x2 x4 → Times n 2 x4 x8 → Products n x x2 x4 x8
unfolding scaled multiply_bits
products n x x2 x4 x8 e f g =
    let l = le_bytes n x in
    let by : ℕ → ℕ → ℕ = λ k b. multiply b k in
    let e1 = by_one n x in
    let e4 : Times n 4 x x4 = f ∙ ap (scaled 2) e ∙ map-map (by 2) (by 2) l in
    let e8 : Times n 8 x x8 = g ∙ ap (scaled 2) e4 ∙ map-map (by 2) (by 4) l in
    let e12 = sum n x x8 x4 (by 8) (by 4) e8 e4 in
    let e10 = sum n x x8 x2 (by 8) (by 2) e8 e in
    record {
      by14 = sum n x (bit_xor x8 x4) x2 (by 12) (by 2) e12 e;
      by11 = sum n x (bit_xor x8 x2) x (by 10) (by 1) e10 e1;
      by13 = sum n x (bit_xor x8 x4) x (by 12) (by 1) e12 e1;
      by9 = sum n x x8 x (by 8) (by 1) e8 e1;
    }

pub inv_mixes : (x x2 x4 x8 : ℕ) → Times 4 2 x x2 → Times 4 2 x2 x4 → Times 4 2 x4 x8
    → staggered (le_bytes 4 (bit_xor (bit_xor x8 x4) x2)) (le_bytes 4 (bit_xor (bit_xor x8 x2) x)) (le_bytes 4 (bit_xor (bit_xor x8 x4) x)) (le_bytes 4 (bit_xor x8 x))
    ≡ mixed inv_mix_row (le_bytes 4 x)
inv_mixes x x2 x4 x8 e f g =
    let p = products 4 x x2 x4 x8 e f g in
    product 14 11 13 9 x p.by14 p.by11 p.by13 p.by9
