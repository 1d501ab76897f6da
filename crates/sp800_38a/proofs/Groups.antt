-- Counter mode by groups of blocks: a list whose blocks are the counter blocks enciphered, and what the data is XORed with.
-- Assumes nothing.
use mathlib.Core.Path.{◌≡◌, refl, sym, ap, ap₂, ◌∙◌}
use mathlib.Core.List.{List, ◌++◌, flat_map}
use Prim.Native.Nat.{ℕ, zero, suc, ◌+◌, ◌-◌, ◌*◌, ◌/◌, ◌≤◌, ◌<◌}
use native.Mathlib.Omega.{arith}
use lib.ListN.{length, take, drop, take-append-drop, length-drop}
use lib.Seq.{length-take-le, take_at, take-add, drop-drop}
use Rattle.bits.specs.Bytes.{xor_bytes}
use Rattle.sp800_38a.specs.Counter.{counter_at, output_blocks, ctr}
use Rattle.sp800_38a.proofs.Ctr.{output_from, ctr-length, ctr-append, ctr_behind}

module _ (f : List ℕ → List ℕ) (c : List ℕ) where
  -- block j of s is counter block i + j enciphered
  pub output_joined : (s : List ℕ) (i n : ℕ) → ((j : ℕ) → j < n → take 16 (drop (16 * j) s) ≡ f (counter_at c (i + j)))
      → take (16 * n) s ≡ output_blocks f c i n
  unfolding output_blocks flat_map
  output_joined s i zero h = refl
  output_joined s i (suc n) h =
      let e : 16 * suc n ≡ 16 + 16 * n = omega arith in
      let z : i + 0 ≡ i = omega arith in
      let next : (j : ℕ) → i + suc j ≡ i + 1 + j = λ j. omega arith in
      let at : (j : ℕ) → 16 + 16 * j ≡ 16 * suc j = λ j. omega arith in
      ap (λ (k : ℕ). take k s) e ∙ take-add 16 (16 * n) s
      ∙ ap₂ (λ (a b : List ℕ). a ++ b) (h 0 (omega arith) ∙ ap (λ (k : ℕ). f (counter_at c k)) z)
      (output_joined (drop 16 s) (i + 1) n
      (λ j k.
      ap (take 16) (drop-drop (16 * j) 16 s ∙ ap (λ (x : ℕ). drop x s) (at j)) ∙ h (suc j) (omega arith)
      ∙ ap (λ (x : ℕ). f (counter_at c x)) (next j)))

  module _ (whole : (b : List ℕ) → length (f b) ≡ 16) where
    -- n blocks of the data from block i on
    pub ctr_group : (s : List ℕ) (i n : ℕ) → 16 * i + 16 * n ≤ length s
        → take (16 * n) (drop (16 * i) (ctr f c s)) ≡ xor_bytes (take (16 * n) (drop (16 * i) s)) (output_blocks f c i n)
    unfolding ctr
    ctr_group s i n h =
        let at = counter_at c i in
        let t = drop (16 * i) s in
        let some : length t ≡ length s - 16 * i = length-drop (16 * i) s in
        let front : length (take (16 * n) t) ≡ 16 * n = length-take-le (16 * n) t (omega arith) in
        let count : (length (take (16 * n) t) + 15) / 16 ≡ n = omega arith in
        let from : i + 0 ≡ i = omega arith in
        ap (take (16 * n)) (ctr_behind f whole c s i (omega arith))
        ∙ ap (λ (l : List ℕ). take (16 * n) (ctr f at l)) (sym (take-append-drop (16 * n) t))
        ∙ ap (take (16 * n)) (ctr-append f whole at n (take (16 * n) t) (drop (16 * n) t) front)
        ∙ take_at (ctr f at (take (16 * n) t)) (ctr f (counter_at at n) (drop (16 * n) t)) (16 * n) (ctr-length f whole at (take (16 * n) t) ∙ front)
        ∙ ap (λ (k : ℕ). xor_bytes (take (16 * n) t) (output_blocks f at 0 k)) count
        ∙ ap (xor_bytes (take (16 * n) t)) (output_from f c i 0 n ∙ ap (λ (k : ℕ). output_blocks f c k n) from)
