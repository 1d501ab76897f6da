-- The records on chains lie behind record 0 and inside the block.
-- Assumes nothing.
use mathlib.Core.Path.{◌≡◌, refl}
use mathlib.Core.Bool.{Bool, true, false, cond, ◌||◌}
use mathlib.Core.List.{List, [], ◌∷◌, ◌++◌}
use Prim.Native.Nat.{ℕ, zero, suc, ◌<◌, ◌≤◌}
use native.Mathlib.Omega.{arith}
use lib.Dec.{eqb}
use borrow.Author.Tests.{eqb-true, eqb-false}
use Rattle.keyring_model.specs.Records.{records, head_of, next_of}
use Rattle.keyring_model.specs.Chains.{chain, chain_of, reached_from, reached, member}
use Rattle.keyring_model.proofs.Counts.{counted, uncounted, is_member, count-append}
use Rattle.keyring_model.proofs.Facts.{Fields}

-- the numbers of records behind record 0
abbrev pub Record : List ℕ → ℕ → Type 0
Record b i = (0 < i) × (i < records b)

module _ (b : List ℕ) (f : Fields b) where
  pub on_chain : (n i j : ℕ) → i < records b → member j (chain n b i) ≡ true → Record b j
  unfolding chain member
  on_chain zero i j h e = absurd (let z : ◌≡◌ {A = ℕ} 0 1 = cc in omega arith)
  on_chain (suc n) i j h e = go (on_chain n (next_of b i) j) (eqb i 0) refl e
    where
      at : (next_of b i < records b → member j (chain n b (next_of b i)) ≡ true → Record b j) → 0 < i
          → (t : Bool) → eqb j i ≡ t → (t || member j (chain n b (next_of b i))) ≡ true → Record b j
      at r p true q e = let s : j ≡ i = eqb-true j i q in (omega arith, omega arith)
      at r p false q e = r (f.next i p h) e

      go : (next_of b i < records b → member j (chain n b (next_of b i)) ≡ true → Record b j) → (t : Bool) → eqb i 0 ≡ t
          → member j (cond t [] (i ∷ chain n b (next_of b i))) ≡ true → Record b j
      go r true q e = absurd (let z : ◌≡◌ {A = ℕ} 0 1 = cc in omega arith)
      go r false q e = let s : i ≡ 0 → ⊥ = eqb-false i 0 q in at r (omega arith) (eqb j i) refl e

  on_heads : (n j : ℕ) → n ≤ 16 → member j (reached_from n b) ≡ true → Record b j
  unfolding reached_from member
  on_heads zero j h e = absurd (let z : ◌≡◌ {A = ℕ} 0 1 = cc in omega arith)
  on_heads (suc n) j h e = go (on_heads n j (omega arith)) (member j (chain_of b n)) refl
    where
      go : (member j (reached_from n b) ≡ true → Record b j) → (t : Bool) → member j (chain_of b n) ≡ t → Record b j
      go r true q = on_chain (records b) (head_of b n) j (f.head n (omega arith)) q
      go r false q =
          r (is_member j (reached_from n b)
          (omega (arith, counted j (reached_from n b ++ chain_of b n) e, count-append j (reached_from n b) (chain_of b n), uncounted j (chain_of b n) q)))

  pub on_reached : (j : ℕ) → member j (reached b) ≡ true → Record b j
  on_reached j e = on_heads 16 j (omega arith) e
