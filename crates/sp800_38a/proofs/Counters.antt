-- Counter blocks: their length and bytes, counting on from one, and the end of the numbers.
-- Assumes nothing.
use mathlib.Core.Path.{◌≡◌, sym, ap, ap₂, ◌∙◌}
use mathlib.Core.List.{List, [], ◌∷◌, reverse, reverse_aux, reverse-reverse}
use Prim.Native.Nat.{ℕ, ◌+◌, ◌^◌, ◌%◌}
use native.Mathlib.Nat.{mod-add-mod, add-mod_right, add_assoc}
use native.Mathlib.Omega.{arith}
use lib.ListN.{length, length-reverse}
use Rattle.bits.specs.Bytes.{Bytes}
use Rattle.bits.specs.Words.{le_bytes, le_value}
use Rattle.bits.proofs.Words.{le-length, le_bytes_lem, le_of_value, value_le}
use Rattle.sp800_38a.specs.Counter.{be_value, be_bytes, counter_at}

pub bytes_reverse : (l r : List ℕ) → Bytes l → Bytes r → Bytes (reverse_aux l r)
bytes_reverse [] r h k = k
bytes_reverse (x ∷ l) r h k = bytes_reverse l (x ∷ r) h.1 (h.0, k)

-- only the number modulo 256 to n counts
pub le-mod : (n x : ℕ) → le_bytes n (x % 256 ^ n) ≡ le_bytes n x
le-mod n x =
    ap (le_bytes n) (sym (value_le n x))
    ∙ ap (λ (k : ℕ). le_bytes k (le_value (le_bytes n x))) (sym (le-length n x))
    ∙ le_of_value (le_bytes n x) (le_bytes_lem n x)

le_alike : (n x y : ℕ) → x % 256 ^ n ≡ y % 256 ^ n → le_bytes n x ≡ le_bytes n y
le_alike n x y e = sym (le-mod n x) ∙ ap (le_bytes n) e ∙ le-mod n y

module _ (c : List ℕ) where
  pub counter_length : (i : ℕ) → length (counter_at c i) ≡ length c
  unfolding counter_at
  counter_length i = length-reverse (le_bytes (length c) (be_value c + i)) ∙ le-length (length c) (be_value c + i)

  pub counter_bytes : (i : ℕ) → Bytes (counter_at c i)
  unfolding counter_at
  counter_bytes i = bytes_reverse (le_bytes (length c) (be_value c + i)) [] (le_bytes_lem (length c) (be_value c + i)) tt

  counter_value : (i : ℕ) → be_value (counter_at c i) ≡ (be_value c + i) % 256 ^ length c
  unfolding counter_at
  counter_value i = ap le_value (reverse-reverse (le_bytes (length c) (be_value c + i))) ∙ value_le (length c) (be_value c + i)

  -- i blocks on, and then j
  pub counter_sum : (i j : ℕ) → counter_at (counter_at c i) j ≡ counter_at c (i + j)
  unfolding counter_at
  counter_sum i j =
      ap₂ (λ (n x : ℕ). be_bytes n (x + j)) (counter_length i) (counter_value i)
      ∙ ap reverse
      (le_alike (length c) ((be_value c + i) % 256 ^ length c + j) (be_value c + (i + j))
      (mod-add-mod (be_value c + i) (256 ^ length c) j ∙ ap (λ (x : ℕ). x % 256 ^ length c) (add_assoc (be_value c) i j)))

  -- none on
  pub counter_none : Bytes c → counter_at c 0 ≡ c
  unfolding counter_at
  counter_none h =
      let e : be_value c + 0 ≡ be_value c = omega arith in
      ap₂ (λ (n x : ℕ). be_bytes n x) (sym (length-reverse c)) e
      ∙ ap reverse (le_of_value (reverse c) (bytes_reverse c [] h tt))
      ∙ reverse-reverse c

  -- "modulo 2^128": as many on as there are counter blocks
  pub counter_wraps : (i : ℕ) → counter_at c (i + 256 ^ length c) ≡ counter_at c i
  unfolding counter_at
  counter_wraps i =
      ap reverse
      (le_alike (length c) (be_value c + (i + 256 ^ length c)) (be_value c + i)
      (ap (λ (x : ℕ). x % 256 ^ length c) (sym (add_assoc (be_value c) i (256 ^ length c))) ∙ add-mod_right (be_value c + i) (256 ^ length c)))
