-- Blocks of a list, one after the other.
-- Assumes nothing.
use mathlib.Core.Path.{◌≡◌, refl, sym, ap, ap₂, ◌∙◌}
use mathlib.Core.List.{List, [], ◌∷◌, ◌++◌}
use Prim.Native.Nat.{ℕ, zero, suc, ◌+◌, ◌*◌, ◌≤◌}
use native.Mathlib.Nat.{zero-add, suc-add, add-suc}
use native.Mathlib.Numerals.{add-one}
use native.Mathlib.Omega.{arith}
use lib.ListN.{length, set, take, drop, length-append, length-drop}
use lib.Seq.{sets, sets-eq, drop-append-add, drop-drop}
use Rattle.bits.specs.Blocks.{map_blocks, blocks}

-- stores behind a first part
set_behind : (p l : List ℕ) (i a : ℕ) → set (p ++ l) (length p + i) a ≡ p ++ set l i a
set_behind [] l i a = ap (λ (k : ℕ). set l k a) (zero-add i)
set_behind (x ∷ p) l i a = ap (λ (k : ℕ). set (x ∷ p ++ l) k a) (suc-add (length p) i) ∙ ap (λ (w : List ℕ). x ∷ w) (set_behind p l i a)

sets_behind : (p l : List ℕ) (i : ℕ) (v : List ℕ) → sets (p ++ l) (length p + i) v ≡ p ++ sets l i v
sets_behind p l i [] = refl
sets_behind p l i (a ∷ v) =
    ap₂ (λ (w : List ℕ) (k : ℕ). sets w k v) (set_behind p l i a) (sym (add-suc (length p) i)) ∙ sets_behind p (set l i a) (suc i) v

module _ (f : List ℕ → List ℕ) (size : (b : List ℕ) → length (f b) ≡ 16) where
  pub map_blocks-length : (n : ℕ) (s : List ℕ) → 16 * n ≤ length s → length (map_blocks f n s) ≡ length s
  map_blocks-length zero s h = refl
  map_blocks-length (suc n) s h =
      length-append (f (take 16 s)) (map_blocks f n (drop 16 s))
      ∙ omega (arith, size (take 16 s), map_blocks-length n (drop 16 s) (simp length-drop (omega arith)), length-drop 16 s)

  -- one block more: f of what stands behind the first n, in its place
  pub map_blocks_more : (n : ℕ) (s : List ℕ) → 16 * n + 16 ≤ length s
      → map_blocks f (suc n) s ≡ sets (map_blocks f n s) (16 * n) (f (take 16 (drop (16 * n) (map_blocks f n s))))
  map_blocks_more zero s h =
      let v = f (take 16 s) in
      let e : 16 * 0 ≡ 0 = refl in
      let fits : 0 + length v ≤ length s = omega (arith, size (take 16 s)) in
      let k : 16 ≡ 0 + length v = omega (arith, size (take 16 s)) in
      ap (λ (m : ℕ). v ++ drop m s) k ∙ sym (sets-eq v s 0 fits)
  map_blocks_more (suc n) s h =
      let p = f (take 16 s) in
      let t = map_blocks f n (drop 16 s) in
      let e : length p + 16 * n ≡ 16 * suc n = omega (arith, size (take 16 s)) in
      ap (λ (w : List ℕ). p ++ w) (map_blocks_more n (drop 16 s) (simp length-drop (omega arith)))
      ∙ sym (sets_behind p t (16 * n) (f (take 16 (drop (16 * n) t))))
      ∙ ap (λ (w : List ℕ). sets (p ++ t) (length p + 16 * n) (f (take 16 w))) (sym (drop-append-add p t (16 * n)))
      ∙ ap (λ (m : ℕ). sets (p ++ t) m (f (take 16 (drop m (p ++ t))))) e

  -- the same, as a loop stores it
  pub map_blocks_stored : (n : ℕ) (s : List ℕ) {l l' b v : List ℕ} → 16 * n + 16 ≤ length s → l ≡ map_blocks f n s
      → b ≡ take 16 (drop (16 * n) l) → v ≡ f b → l' ≡ sets l (16 * n) v → l' ≡ map_blocks f (n + 1) s
  map_blocks_stored n s h inv block value store =
      store
      ∙ ap₂ (λ (w v : List ℕ). sets w (16 * n) v) inv (value ∙ ap f (block ∙ ap (λ (w : List ℕ). take 16 (drop (16 * n) w)) inv))
      ∙ sym (map_blocks_more n s h)
      ∙ ap (λ (m : ℕ). map_blocks f m s) (sym (add-one n))

map_blocks_ext : {f g : List ℕ → List ℕ} → ((b : List ℕ) → f b ≡ g b) → (n : ℕ) (s : List ℕ) → map_blocks f n s ≡ map_blocks g n s
map_blocks_ext e zero s = refl
map_blocks_ext e (suc n) s = ap₂ (λ (x y : List ℕ). x ++ y) (e (take 16 s)) (map_blocks_ext e n (drop 16 s))

-- the end of such a loop, with what its function means
pub map_blocks_all : {f g : List ℕ → List ℕ} → ((b : List ℕ) → f b ≡ g b) → (i n : ℕ) (s : List ℕ) {l : List ℕ} → i ≡ n → l ≡ map_blocks f i s
    → l ≡ map_blocks g n s
map_blocks_all {f} {g} same i n s e inv = inv ∙ map_blocks_ext same i s ∙ ap (λ (m : ℕ). map_blocks g m s) e

-- one block more
pub blocks_more : (n : ℕ) (s : List ℕ) → blocks (n + 1) s ≡ blocks n s ++ (take 16 (drop (16 * n) s) ∷ [])
blocks_more zero s = refl
blocks_more (suc n) s =
    let e : 16 + 16 * n ≡ 16 * suc n = omega arith in
    ap (λ (m : ℕ). blocks m s) (suc-add n 1)
    ∙ ap (λ (l : List (List ℕ)). take 16 s ∷ l) (blocks_more n (drop 16 s) ∙ ap (λ (l : List ℕ). blocks n (drop 16 s) ++ (take 16 l ∷ [])) (drop-drop (16 * n) 16 s ∙ ap (λ (m : ℕ). drop m s) e))
