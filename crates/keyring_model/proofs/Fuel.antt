-- The records on the chains of a valid keyring are fewer than its records, so that no chain is cut off.
-- Assumes nothing.
use mathlib.Core.Path.{◌≡◌, refl, ap}
use mathlib.Core.Bool.{Bool, true, false, cond}
use mathlib.Core.List.{List, [], ◌∷◌, ◌++◌}
use Prim.Native.Nat.{ℕ, zero, suc, ◌+◌, ◌≤◌, ◌<◌}
use native.Mathlib.Omega.{arith}
use lib.Dec.{eqb}
use lib.ListN.{length, length-append}
use borrow.Author.Tests.{eqb-true, eqb-false}
use Rattle.keyring_model.specs.Records.{records, head_of, next_of}
use Rattle.keyring_model.specs.Chains.{chain, chain_of, reached_from, reached, member, distinct}
use Rattle.keyring_model.specs.Validity.{valid}
use Rattle.keyring_model.proofs.Facts.{Fields, fields, valid_fields, valid_once}
use Rattle.keyring_model.proofs.Counts.{distinct_cons, Below, below_cons}
use Rattle.keyring_model.proofs.Pigeonhole.{at_most}
use Rattle.keyring_model.proofs.Inside.{on_reached}

-- a chain shorter than its fuel and than another is the same with the other
pub fuel : (b : List ℕ) (n m i : ℕ) → length (chain n b i) < n → length (chain n b i) < m → chain m b i ≡ chain n b i
unfolding chain
fuel b zero m i h k = absurd (omega arith)
fuel b (suc n) zero i h k = absurd (omega arith)
fuel b (suc n) (suc m) i h k = go (fuel b n m (next_of b i)) (eqb i 0) h k
  where
    go : (length (chain n b (next_of b i)) < n → length (chain n b (next_of b i)) < m → chain m b (next_of b i) ≡ chain n b (next_of b i))
        → (t : Bool) → length (cond t [] (i ∷ chain n b (next_of b i))) < suc n → length (cond t [] (i ∷ chain n b (next_of b i))) < suc m
        → cond t [] (i ∷ chain m b (next_of b i)) ≡ cond t [] (i ∷ chain n b (next_of b i))
    go r true h k = refl
    go r false h k = ap (λ (l : List ℕ). i ∷ l) (r (omega arith) (omega arith))

-- what adds up over joined lists is no less for all chains than for one
pub chain_part : (μ : List ℕ → ℕ) → ((l m : List ℕ) → μ (l ++ m) ≡ μ l + μ m) → (b : List ℕ) (n k : ℕ) → k < n
    → μ (chain_of b k) ≤ μ (reached_from n b)
unfolding reached_from
chain_part μ add b zero k h = absurd (omega arith)
chain_part μ add b (suc n) k h = go (chain_part μ add b n k) (eqb k n) refl
  where
    go : (k < n → μ (chain_of b k) ≤ μ (reached_from n b)) → (t : Bool) → eqb k n ≡ t → μ (chain_of b k) ≤ μ (reached_from n b ++ chain_of b n)
    go r true e =
        let p : μ (chain_of b k) ≡ μ (chain_of b n) = ap (λ (k : ℕ). μ (chain_of b k)) (eqb-true k n e) in
        omega (arith, add (reached_from n b) (chain_of b n))
    go r false e = let f : k ≡ n → ⊥ = eqb-false k n e in omega (arith, r (omega arith), add (reached_from n b) (chain_of b n))

module _ (b : List ℕ) (v : valid b ≡ true) where
  known : Fields b
  known = fields b (valid_fields b v)

  unreached_zero : member 0 (reached b) ≡ false
  unreached_zero = go (member 0 (reached b)) refl
    where
      go : (t : Bool) → member 0 (reached b) ≡ t → t ≡ false
      go true e = absurd (omega (arith, (on_reached b known 0 e).0))
      go false e = refl

  -- record 0 and the records on the chains, all different
  pub zero-distinct : distinct (0 ∷ reached b) ≡ true
  zero-distinct = distinct_cons 0 (reached b) unreached_zero (valid_once b v)

  pub zero_below : Below (records b) (0 ∷ reached b)
  zero_below = below_cons (records b) 0 (reached b) known.sized.some (λ j e. (on_reached b known j e).1)

  -- fewer than all records are on chains
  pub reached_few : length (reached b) < records b
  reached_few = omega (arith, at_most (records b) (0 ∷ reached b) zero-distinct zero_below)

  pub chain_few : (k : ℕ) → k < 16 → length (chain_of b k) < records b
  chain_few k h = omega (arith, reached_few, chain_part length length-append b 16 k h)

  -- more fuel leaves every chain as it is
  pub chain_ends : (k j : ℕ) → k < 16 → chain (records b + j) b (head_of b k) ≡ chain_of b k
  chain_ends k j h = fuel b (records b) (records b + j) (head_of b k) (chain_few k h) (omega (arith, chain_few k h))
