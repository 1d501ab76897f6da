-- Counter mode, over a cipher whose results have 16 bytes: lengths, once more, in two parts, and block by block.
-- Assumes nothing.
use mathlib.Core.Path.{◌≡◌, refl, sym, ap, ap₂, ◌∙◌}
use mathlib.Core.List.{List, [], ◌∷◌, ◌++◌, append_assoc, append-nil, flat_map}
use mathlib.Core.Logic.{⊎_elim}
use Prim.Native.Nat.{ℕ, zero, suc, ◌+◌, ◌*◌, ◌-◌, ◌/◌, ◌≤◌}
use native.Mathlib.Nat.{zero-add, suc-add, add_assoc, eq-zero-or-pos}
use native.Mathlib.Omega.{arith}
use lib.ListN.{length, take, drop, length-append, take-append-drop}
use lib.Seq.{take_all, length-take-le, take_at, drop_at}
use Rattle.bits.specs.Bytes.{Bytes, xor_bytes}
use Rattle.bits.proofs.Xor.{xor_bytes_undo, xor_length, xor_append}
use Rattle.sp800_38a.specs.Counter.{counter_at, output_blocks, ctr}
use Rattle.sp800_38a.proofs.Counters.{counter_bytes, counter_sum, counter_none}

module _ (f : List ℕ → List ℕ) where
  pub output_length : (c : List ℕ) → ((i : ℕ) → length (f (counter_at c i)) ≡ 16) → (i n : ℕ) → length (output_blocks f c i n) ≡ 16 * n
  unfolding output_blocks flat_map
  output_length c whole i zero = refl
  output_length c whole i (suc n) =
      length-append (f (counter_at c i)) (output_blocks f c (i + 1) n) ∙ omega (arith, whole i, output_length c whole (i + 1) n)

  -- n blocks, and then m
  pub output_append : (c : List ℕ) (i n m : ℕ) → output_blocks f c i (n + m) ≡ output_blocks f c i n ++ output_blocks f c (i + n) m
  unfolding output_blocks flat_map
  output_append c i zero m =
      let e : i ≡ i + 0 = omega arith in
      ap₂ (λ (k j : ℕ). output_blocks f c j k) (zero-add m) e
  output_append c i (suc n) m =
      let e : i + 1 + n ≡ i + suc n = omega arith in
      ap (output_blocks f c i) (suc-add n m)
      ∙ ap (λ (w : List ℕ). f (counter_at c i) ++ w) (output_append c (i + 1) n m ∙ ap (λ (j : ℕ). output_blocks f c (i + 1) n ++ output_blocks f c j m) e)
      ∙ sym (append_assoc (f (counter_at c i)) (output_blocks f c (i + 1) n) (output_blocks f c (i + suc n) m))

  -- counted from another block
  pub output_from : (c : List ℕ) (i j n : ℕ) → output_blocks f (counter_at c i) j n ≡ output_blocks f c (i + j) n
  unfolding output_blocks flat_map
  output_from c i j zero = refl
  output_from c i j (suc n) =
      ap₂ (λ (b w : List ℕ). f b ++ w) (counter_sum c i j)
      (output_from c i (j + 1) n ∙ ap (λ (k : ℕ). output_blocks f c k n) (sym (add_assoc i j 1)))

-- ciphers that agree on blocks of bytes
module _ (f g : List ℕ → List ℕ) (same : (b : List ℕ) → Bytes b → f b ≡ g b) (c : List ℕ) where
  output_ext : (i n : ℕ) → output_blocks f c i n ≡ output_blocks g c i n
  unfolding output_blocks flat_map
  output_ext i zero = refl
  output_ext i (suc n) = ap₂ (λ (b w : List ℕ). b ++ w) (same (counter_at c i) (counter_bytes c i)) (output_ext (i + 1) n)

  pub ctr_ext : (s : List ℕ) → ctr f c s ≡ ctr g c s
  unfolding ctr
  ctr_ext s = ap (xor_bytes s) (output_ext 0 ((length s + 15) / 16))

module _ (f : List ℕ → List ℕ) (whole : (b : List ℕ) → length (f b) ≡ 16) where
  module _ (c : List ℕ) where
    -- the output blocks for so many bytes
    abbrev stream : ℕ → List ℕ
    stream n = output_blocks f c 0 ((n + 15) / 16)

    covered : (s : List ℕ) → length s ≤ length (stream (length s))
    covered s = omega (arith, output_length f c (λ i. whole (counter_at c i)) 0 ((length s + 15) / 16))

    pub ctr-length : (s : List ℕ) → length (ctr f c s) ≡ length s
    unfolding ctr
    ctr-length s = xor_length s (stream (length s)) (covered s)

    -- twice gives the data back
    pub ctr_twice : (s : List ℕ) → ctr f c (ctr f c s) ≡ s
    unfolding ctr
    ctr_twice s =
        ap (λ (n : ℕ). xor_bytes (ctr f c s) (stream n)) (ctr-length s)
        ∙ xor_bytes_undo s (stream (length s)) (covered s)

    -- cut at a block boundary, with the counter moved on for the second part
    pub ctr-append : (n : ℕ) (s t : List ℕ) → length s ≡ 16 * n → ctr f c (s ++ t) ≡ ctr f c s ++ ctr f (counter_at c n) t
    unfolding ctr
    ctr-append n s t e =
        let m = (length t + 15) / 16 in
        let all : (length (s ++ t) + 15) / 16 ≡ n + m = simp length-append (omega arith) in
        let first : (length s + 15) / 16 ≡ n = omega arith in
        let from : n ≡ n + 0 = omega arith in
        ap (λ (k : ℕ). xor_bytes (s ++ t) (output_blocks f c 0 k)) all
        ∙ ap (xor_bytes (s ++ t)) (output_append f c 0 n m)
        ∙ xor_append s t (output_blocks f c 0 n) (output_blocks f c (0 + n) m) (e ∙ sym (output_length f c (λ i. whole (counter_at c i)) 0 n))
        ∙ ap₂ (λ (k : ℕ) (w : List ℕ). xor_bytes s (output_blocks f c 0 k) ++ xor_bytes t w) (sym first)
        (ap (λ (k : ℕ). output_blocks f c k m) (zero-add n ∙ from) ∙ sym (output_from f c n 0 m))

    -- a block, or less
    pub ctr_block : Bytes c → (b : List ℕ) → length b ≤ 16 → ctr f c b ≡ xor_bytes b (f c)
    unfolding ctr output_blocks flat_map
    ctr_block h [] k = refl
    ctr_block h (x ∷ b) k =
        let one : (length (x ∷ b) + 15) / 16 ≡ 1 = omega arith in
        ap (λ (n : ℕ). xor_bytes (x ∷ b) (output_blocks f c 0 n)) one
        ∙ ap (λ (w : List ℕ). xor_bytes (x ∷ b) w) (append-nil (f (counter_at c 0)) ∙ ap f (counter_none c h))

  -- block i is the data's, XORed with counter block i enciphered
  module _ (c s : List ℕ) (i : ℕ) (h : 16 * i ≤ length s) where
    abbrev at : List ℕ
    at = counter_at c i

    pub ctr_behind : drop (16 * i) (ctr f c s) ≡ ctr f at (drop (16 * i) s)
    ctr_behind =
        let front : length (take (16 * i) s) ≡ 16 * i = length-take-le (16 * i) s h in
        ap (λ (l : List ℕ). drop (16 * i) (ctr f c l)) (sym (take-append-drop (16 * i) s))
        ∙ ap (drop (16 * i)) (ctr-append c i (take (16 * i) s) (drop (16 * i) s) front)
        ∙ drop_at (ctr f c (take (16 * i) s)) (ctr f at (drop (16 * i) s)) (16 * i) (ctr-length c (take (16 * i) s) ∙ front)

    first_block : (t : List ℕ) → take 16 (ctr f at t) ≡ xor_bytes (take 16 t) (f at)
    first_block t = ⊎_elim (λ k. short (omega arith)) (λ k. long (omega arith)) (eq-zero-or-pos (length t - 16))
      where
        short : length t ≤ 16 → take 16 (ctr f at t) ≡ xor_bytes (take 16 t) (f at)
        short k =
            take_all 16 (ctr f at t) (omega (arith, ctr-length at t))
            ∙ ctr_block at (counter_bytes c i) t k
            ∙ ap (λ (l : List ℕ). xor_bytes l (f at)) (sym (take_all 16 t k))

        long : 16 ≤ length t → take 16 (ctr f at t) ≡ xor_bytes (take 16 t) (f at)
        long k =
            let front : length (take 16 t) ≡ 16 = length-take-le 16 t k in
            ap (λ (l : List ℕ). take 16 (ctr f at l)) (sym (take-append-drop 16 t))
            ∙ ap (take 16) (ctr-append at 1 (take 16 t) (drop 16 t) front)
            ∙ take_at (ctr f at (take 16 t)) (ctr f (counter_at at 1) (drop 16 t)) 16 (ctr-length at (take 16 t) ∙ front)
            ∙ ctr_block at (counter_bytes c i) (take 16 t) (omega arith)

    pub ctr-at : take 16 (drop (16 * i) (ctr f c s)) ≡ xor_bytes (take 16 (drop (16 * i) s)) (f at)
    ctr-at = ap (take 16) ctr_behind ∙ first_block (drop (16 * i) s)
