-- XMM0 to XMM7 one after another are the first eight blocks of the CPU record.
-- Assumes nothing.
use mathlib.Core.Path.{◌≡◌, ◌∙◌, refl, sym, ap, ap₂}
use mathlib.Core.List.{List, [], ◌∷◌, ◌++◌, append_assoc}
use Prim.Native.Nat.{ℕ, zero, suc, ◌*◌, ◌%◌, ◌≤◌, ◌<◌}
use native.Mathlib.Omega.{arith}
use lib.ListN.{length, take, drop, length-drop, take-append-drop}
use lib.Seq.{sets, length-take-le, take-append-le, drop-append-le}
use Rattle.bits.specs.Blocks.{map_blocks}
use Rattle.bits.proofs.Blocks.{map_blocks_more}
use Rattle.model.specs.Cpu.{cpu_size, xmm, with_xmm, map_xmm}

module _ (f : List ℕ → List ℕ) (whole : (b : List ℕ) → length (f b) ≡ 16) where
  -- blocks in front of others
  blocks_front : (n : ℕ) (s t : List ℕ) → 16 * n ≤ length s → map_blocks f n s ++ t ≡ map_blocks f n (s ++ t)
  blocks_front zero s t h = refl
  blocks_front (suc n) s t h =
      let rest : 16 * n ≤ length (drop 16 s) = simp length-drop (omega arith) in
      append_assoc (f (take 16 s)) (map_blocks f n (drop 16 s)) t
      ∙ ap₂ (λ (x y : List ℕ). f x ++ y) (sym (take-append-le 16 s t (omega arith)))
      (blocks_front n (drop 16 s) t rest ∙ ap (map_blocks f n) (sym (drop-append-le 16 s t (omega arith))))

  module _ (cpu : List ℕ) (l : length cpu ≡ cpu_size) where
    -- register k after the k before it
    next : (k : ℕ) (s : List ℕ) → k < 16 → s ≡ map_blocks f k cpu → with_xmm k (f (xmm k s)) s ≡ map_blocks f (suc k) cpu
    next k s h e =
        let at : k % 16 ≡ k = omega arith in
        ap₂ (λ (n : ℕ) (t : List ℕ). sets t (16 * n) (f (take 16 (drop (16 * n) t)))) at e ∙ sym (map_blocks_more f whole k cpu (omega arith))

    abbrev eight : List ℕ
    eight = 0 ∷ 1 ∷ 2 ∷ 3 ∷ 4 ∷ 5 ∷ 6 ∷ 7 ∷ []

    wide_blocks : map_xmm f eight cpu ≡ map_blocks f 8 cpu
    wide_blocks =
        next 7 _ (omega arith)
        (next 6 _ (omega arith)
        (next 5 _ (omega arith)
        (next 4 _ (omega arith) (next 3 _ (omega arith) (next 2 _ (omega arith) (next 1 _ (omega arith) (next 0 cpu (omega arith) refl)))))))

    pub wide_done : map_blocks f 8 (take 128 cpu) ++ drop 128 cpu ≡ map_xmm f eight cpu
    wide_done =
        let n : length (take 128 cpu) ≡ 128 = length-take-le 128 cpu (omega arith) in
        blocks_front 8 (take 128 cpu) (drop 128 cpu) (omega arith) ∙ ap (map_blocks f 8) (take-append-drop 128 cpu) ∙ sym wide_blocks
