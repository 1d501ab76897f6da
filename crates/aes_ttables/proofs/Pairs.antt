-- Blocks of a list, two at a time.
-- Assumes nothing.
use mathlib.Core.Path.{◌≡◌, sym, ap, ◌∙◌}
use mathlib.Core.List.{List, ◌++◌}
use Prim.Native.Nat.{ℕ, ◌+◌, ◌*◌, ◌≤◌}
use native.Mathlib.Omega.{arith}
use lib.ListN.{length, take, drop, length-append}
use lib.Seq.{sets, sets-eq, length-take-le, drop_at}
use Rattle.bits.specs.Blocks.{map_blocks}
use Rattle.bits.proofs.Blocks.{map_blocks-length, map_blocks_stored}

-- what stands behind a store stays
behind : (l v : List ℕ) (at n : ℕ) → length v ≡ 16 → n ≡ at + 16 → n ≤ length l → drop n (sets l at v) ≡ drop n l
behind l v at n e p h =
    let m : at + length v ≡ n = omega arith in
    let front : length (take at l ++ v) ≡ n = length-append (take at l) v ∙ omega (arith, length-take-le at l (omega arith)) in
    ap (drop n) (sets-eq v l at (omega arith) ∙ ap (λ (k : ℕ). take at l ++ v ++ drop k l) m) ∙ drop_at (take at l ++ v) (drop n l) n front

module _ (f : List ℕ → List ℕ) (whole : (b : List ℕ) → length (f b) ≡ 16) where
  -- both are read before one is stored
  pub pair_stored : (n : ℕ) (s : List ℕ) {l l' l'' b c v u : List ℕ} → 16 * n + 32 ≤ length s → l ≡ map_blocks f n s
      → b ≡ take 16 (drop (16 * n) l) → c ≡ take 16 (drop (16 * (n + 1)) l) → v ≡ f b → u ≡ f c
      → l' ≡ sets l (16 * n) v → l'' ≡ sets l' (16 * (n + 1)) u → l'' ≡ map_blocks f (n + 2) s
  pair_stored n s {l} {v = v} h inv read read' made made' stored stored' =
      let same : length l ≡ length s = ap length inv ∙ map_blocks-length f whole n s (omega arith) in
      let e : n + 1 + 1 ≡ n + 2 = omega arith in
      let later = behind l v (16 * n) (16 * (n + 1)) (ap length made ∙ whole _) (omega arith) (omega arith) in
      map_blocks_stored f whole (n + 1) s (omega arith) (map_blocks_stored f whole n s (omega arith) inv read made stored)
      (read' ∙ ap (take 16) (sym later) ∙ ap (λ (w : List ℕ). take 16 (drop (16 * (n + 1)) w)) (sym stored)) made' stored'
      ∙ ap (λ (m : ℕ). map_blocks f m s) e
