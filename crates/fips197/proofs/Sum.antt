-- Sums of four bytes in the field: a row of a matrix times a column is such a sum.
-- Assumes nothing.
use mathlib.Core.Path.{◌≡◌, ap, fun_ext, ◌∙◌}
use Prim.Native.Nat.{ℕ, ◌<◌}
use lib.Bits.{bit_xor, xor_lt}
use Rattle.bits.proofs.Xor.{interchange}
use Rattle.bits.proofs.Field.{Additive}
use Rattle.fips197.proofs.Field.{gf256}

-- f 0 to f 3, added
abbrev pub sum : (ℕ → ℕ) → ℕ
sum f = bit_xor (bit_xor (bit_xor (f 0) (f 1)) (f 2)) (f 3)

pub sum_ext : {f g : ℕ → ℕ} → ((i : ℕ) → f i ≡ g i) → sum f ≡ sum g
sum_ext e = ap sum (fun_ext e)

pub sum_xor : (f g : ℕ → ℕ) → bit_xor (sum f) (sum g) ≡ sum (λ i. bit_xor (f i) (g i))
sum_xor f g =
    interchange (bit_xor (bit_xor (f 0) (f 1)) (f 2)) (f 3) (bit_xor (bit_xor (g 0) (g 1)) (g 2)) (g 3)
    ∙ ap (λ (x : ℕ). bit_xor x (bit_xor (f 3) (g 3)))
    (interchange (bit_xor (f 0) (f 1)) (f 2) (bit_xor (g 0) (g 1)) (g 2)
    ∙ ap (λ (x : ℕ). bit_xor x (bit_xor (f 2) (g 2))) (interchange (f 0) (f 1) (g 0) (g 1)))

-- rows and columns may be added in either order
pub transpose : (f : ℕ → ℕ → ℕ) → sum (λ i. sum (f i)) ≡ sum (λ j. sum (λ i. f i j))
transpose f =
    ap (λ (x : ℕ). bit_xor (bit_xor x (sum (f 2))) (sum (f 3))) (sum_xor (f 0) (f 1))
    ∙ ap (λ (x : ℕ). bit_xor x (sum (f 3))) (sum_xor (λ j. bit_xor (f 0 j) (f 1 j)) (f 2))
    ∙ sum_xor (λ j. bit_xor (bit_xor (f 0 j) (f 1 j)) (f 2 j)) (f 3)

module _ (f : ℕ → ℕ) (h : (i : ℕ) → f i < 256) where
  two : bit_xor (f 0) (f 1) < 256
  two = xor_lt 8 (f 0) (f 1) (h 0) (h 1)

  three : bit_xor (bit_xor (f 0) (f 1)) (f 2) < 256
  three = xor_lt 8 (bit_xor (f 0) (f 1)) (f 2) two (h 2)

  pub sum_byte : sum f < 256
  sum_byte = xor_lt 8 (bit_xor (bit_xor (f 0) (f 1)) (f 2)) (f 3) three (h 3)

  pub sum_map : (m : ℕ → ℕ) → Additive gf256 m → m (sum f) ≡ sum (λ i. m (f i))
  sum_map m add =
      add (bit_xor (bit_xor (f 0) (f 1)) (f 2)) (f 3) three (h 3)
      ∙ ap (λ (x : ℕ). bit_xor x (m (f 3)))
      (add (bit_xor (f 0) (f 1)) (f 2) two (h 2) ∙ ap (λ (x : ℕ). bit_xor x (m (f 2))) (add (f 0) (f 1) (h 0) (h 1)))
