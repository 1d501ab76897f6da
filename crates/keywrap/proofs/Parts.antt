-- Lists in parts of sixteen bytes: exclusive or, and filling up with zeros.
-- Assumes nothing.
use mathlib.Core.Path.{◌≡◌, refl, sym, ap, ap₂, ◌∙◌}
use mathlib.Core.List.{List, [], ◌∷◌, ◌++◌, append-nil, append_assoc}
use Prim.Native.Nat.{ℕ, ◌+◌, ◌≤◌}
use native.Mathlib.Nat.{suc_inj, suc-ne-zero}
use native.Mathlib.Omega.{arith}
use lib.ListN.{length, take, drop, replicate, length-append}
use lib.Seq.{take_all, take_at, take-take, take-append-add}
use Rattle.bits.specs.Bytes.{xor_bytes}
use Rattle.bits.proofs.Lists.{cons, part_add}
use Rattle.bits.proofs.Xor.{xor_length}
use Rattle.handle.specs.Format.{handle}
use Rattle.keywrap.specs.Meaning.{padded}

xor_append : (k m k' m' : List ℕ) → length k ≡ length m → xor_bytes (k ++ k') (m ++ m') ≡ xor_bytes k m ++ xor_bytes k' m'
xor_append [] [] k' m' h = refl
xor_append [] (y ∷ m) k' m' h = absurd (suc-ne-zero _ (sym h))
xor_append (x ∷ k) [] k' m' h = absurd (suc-ne-zero _ h)
xor_append (x ∷ k) (y ∷ m) k' m' h = cons refl (xor_append k m k' m' (suc_inj h))

-- a block and what follows it, if anything, in room for two blocks
pub mask_blocks : (k m ks ms rest : List ℕ) → length k ≡ 16 → length m ≡ 16 → rest ≡ take 16 (xor_bytes ks ms ++ replicate 16 0)
    → xor_bytes k m ++ rest ≡ padded 32 (xor_bytes (k ++ ks) (m ++ ms))
mask_blocks k m ks ms rest h l e =
    let x = xor_bytes k m in
    let y = xor_bytes ks ms in
    let z : List ℕ = replicate 16 0 in
    let size : length x + 16 ≡ 32 = omega (arith, xor_length k m (omega arith)) in
    ap (λ (t : List ℕ). x ++ t) e
    ∙ sym (take-append-add x (y ++ z) 16)
    ∙ ap₂ (λ (n : ℕ) (t : List ℕ). take n t) size (sym (append_assoc x y z))
    ∙ ap (padded 32) (sym (xor_append k m ks ms (h ∙ sym l)))

-- one block more
pub last_block : (k m : List ℕ) → length k ≡ 16 → length m ≡ 16 → xor_bytes k m ≡ take 16 (xor_bytes k (m ++ []) ++ replicate 16 0)
last_block k m h l =
    sym (take_at (xor_bytes k m) (replicate 16 0) 16 (xor_length k m (omega arith) ∙ h))
    ∙ ap (λ (n : List ℕ). take 16 (xor_bytes k n ++ replicate 16 0)) (sym (append-nil m))

-- what was filled up, taken back
pub unpadded : (n : ℕ) (l : List ℕ) → length l ≡ n → n ≤ 32 → take n (padded 32 l) ≡ l
unpadded n l h k =
    let z : List ℕ = replicate 16 0 in
    take-take n 32 (l ++ z) k ∙ take_at l z n h

-- a handle in room for the longer one
pub handle-padded : (a t c : List ℕ) → length a ≡ 16 → length t ≡ 16 → handle a t (padded 32 c) ≡ padded 64 (handle a t c)
handle-padded a t c h k =
    let z : List ℕ = replicate 16 0 in
    let front : length (a ++ t) ≡ 32 = length-append a t ∙ omega arith in
    sym (ap (λ (n : ℕ). take n (a ++ t ++ c ++ z)) (ap (λ (n : ℕ). n + 32) (sym front))
    ∙ ap (take (length (a ++ t) + 32)) (append_assoc (a ++ t) c z)
    ∙ take-append-add (a ++ t) (c ++ z) 32)

-- a list of 64 bytes in its four blocks
pub in_blocks : (b : List ℕ) → length b ≡ 64 → take 16 (drop 0 b) ++ take 16 (drop 16 b) ++ (take 16 (drop 32 b) ++ take 16 (drop 48 b)) ≡ b
in_blocks b h =
    ap₂ (λ (x y : List ℕ). x ++ y) (sym (part_add b 0 16 16)) (sym (part_add b 32 16 16)) ∙ sym (part_add b 0 32 32) ∙ take_all 64 b (omega arith)
