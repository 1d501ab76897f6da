-- Counter blocks side by side, enciphered as blocks, and data masked with them.
-- Assumes nothing.
use Rattle.std.proofs.Common.{◌≡◌, ℕ, zero, suc, ◌+◌, ◌*◌, ◌/◌, ◌≤◌, List, [], ◌∷◌, ◌++◌, length, take, drop, sym, refl, ap, ◌∙◌, ap₂, append-nil, zero-add, arith, length-append, length-drop, drop-drop, take_at, drop_at}
use mathlib.Core.List.{flat_map}
use lib.Seq.{sets, sets-eq}
use Rattle.bits.specs.Blocks.{map_blocks}
use Rattle.bits.specs.Bytes.{xor_bytes}
use Rattle.bits.proofs.Lists.{cons, no_elements}
use Rattle.sp800_38a.specs.Counter.{counter_at, output_blocks, ctr}
use Rattle.sp800_38a.proofs.Counters.{counter_length}
use Rattle.sp800_38a.proofs.Ctr.{output_length, output_append}

-- of a mask no more counts than there are data
xor_taken : (s k : List ℕ) → xor_bytes s (take (length s) k) ≡ xor_bytes s k
xor_taken [] k = refl
xor_taken (a ∷ s) [] = refl
xor_taken (a ∷ s) (b ∷ k) = cons refl (xor_taken s k)

-- n counter blocks as they stand, from the one i behind c on
abbrev side : List ℕ → ℕ → ℕ → List ℕ
side c i n = output_blocks (λ b. b) c i n

module _ (c : List ℕ) (sixteen : length c ≡ 16) where
  side-length : (i n : ℕ) → length (side c i n) ≡ 16 * n
  side-length = output_length (λ b. b) c (λ i. counter_length c i ∙ sixteen)

  side_more : (n : ℕ) → side c 0 (n + 1) ≡ side c 0 n ++ counter_at c n
  unfolding output_blocks flat_map
  side_more n =
      output_append (λ b. b) c 0 n 1
      ∙ ap (λ (w : List ℕ). side c 0 n ++ w) (append-nil (counter_at c (0 + n)) ∙ ap (counter_at c) (zero-add n))

  -- one block more, stored behind the others
  pub counters_stored : (s : List ℕ) (n : ℕ) {l l' b : List ℕ} → 16 * (n + 1) ≤ length s → l ≡ side c 0 n ++ drop (16 * n) s → b ≡ counter_at c n
      → l' ≡ sets l (16 * n) b → l' ≡ side c 0 (n + 1) ++ drop (16 * (n + 1)) s
  counters_stored s n {l} {l'} {b} fits inv at stored =
      let long : length b ≡ 16 = ap length at ∙ counter_length c n ∙ sixteen in
      let ends : 16 * n + length b ≡ 16 * (n + 1) = omega arith in
      let sum : 16 * n + 16 ≡ 16 * (n + 1) = omega arith in
      let size : length l ≡ length s
      = ap length inv ∙ length-append (side c 0 n) (drop (16 * n) s) ∙ omega (arith, side-length 0 n, length-drop (16 * n) s) in
      let front : take (16 * n) l ≡ side c 0 n = ap (take (16 * n)) inv ∙ take_at (side c 0 n) (drop (16 * n) s) (16 * n) (side-length 0 n) in
      let rest : drop (16 * n) l ≡ drop (16 * n) s = ap (drop (16 * n)) inv ∙ drop_at (side c 0 n) (drop (16 * n) s) (16 * n) (side-length 0 n) in
      let behind : drop (16 * (n + 1)) l ≡ drop (16 * (n + 1)) s
      = ap (λ (k : ℕ). drop k l) (sym sum) ∙ sym (drop-drop 16 (16 * n) l) ∙ ap (drop 16) rest ∙ drop-drop 16 (16 * n) s ∙ ap (λ (k : ℕ). drop k s) sum in
      stored
      ∙ sets-eq b l (16 * n) (omega arith)
      ∙ ap (λ (k : ℕ). take (16 * n) l ++ b ++ drop k l) ends
      ∙ ap₂ (λ (x y : List ℕ). x ++ y) (ap₂ (λ (x y : List ℕ). x ++ y) front at ∙ sym (side_more n)) behind

  pub counters_all : (s : List ℕ) (n : ℕ) {l : List ℕ} → length s ≡ 16 * n → l ≡ side c 0 n ++ drop (16 * n) s → l ≡ side c 0 n
  counters_all s n h inv =
      inv
      ∙ ap (λ (w : List ℕ). side c 0 n ++ w) (no_elements (drop (16 * n) s) (length-drop (16 * n) s ∙ omega arith))
      ∙ append-nil (side c 0 n)

  -- enciphered where they stand
  side_ciphered : (f : List ℕ → List ℕ) (i n : ℕ) → map_blocks f n (side c i n) ≡ output_blocks f c i n
  unfolding output_blocks flat_map
  side_ciphered f i zero = refl
  side_ciphered f i (suc n) =
      let long : length (counter_at c i) ≡ 16 = counter_length c i ∙ sixteen in
      ap₂ (λ (b w : List ℕ). f b ++ map_blocks f n w) (take_at (counter_at c i) (side c (i + 1) n) 16 long) (drop_at (counter_at c i) (side c (i + 1) n) 16 long)
      ∙ ap (λ (w : List ℕ). f (counter_at c i) ++ w) (side_ciphered f (i + 1) n)

  -- a group of eight
  pub group_masked : (f : List ℕ → List ℕ) (s : List ℕ) {p q l : List ℕ} → length s ≡ 128 → p ≡ side c 0 8 → q ≡ map_blocks f 8 p → l ≡ xor_bytes s q → l ≡ ctr f c s
  unfolding ctr
  group_masked f s h put made left =
      let eight : 8 ≡ (length s + 15) / 16 = omega arith in
      left ∙ ap (xor_bytes s) (made ∙ ap (map_blocks f 8) put ∙ side_ciphered f 0 8) ∙ ap (λ (n : ℕ). xor_bytes s (output_blocks f c 0 n)) eight

  -- any number of bytes: p is put beside them, q made of it, and of that the first bytes are XORed
  pub all_masked : (f : List ℕ → List ℕ) (s : List ℕ) (n k : ℕ) {p q l : List ℕ} → n ≡ (length s + 15) / 16 → k ≡ n → p ≡ side c 0 n → q ≡ map_blocks f k p
      → l ≡ xor_bytes s (take (length s) q) → l ≡ ctr f c s
  unfolding ctr
  all_masked f s n k {p} {q} en ek put made left =
      left
      ∙ xor_taken s q
      ∙ ap (xor_bytes s) (made ∙ ap₂ (map_blocks f) ek put ∙ side_ciphered f 0 n ∙ ap (output_blocks f c 0) en)
