-- The pigeonhole law: a list in which no number stands oftener than in another is no longer than it.
-- Assumes nothing.
use mathlib.Core.Path.{◌≡◌, refl, sym, ap}
use mathlib.Core.Bool.{Bool, true, false, cond}
use mathlib.Core.List.{List, [], ◌∷◌}
use Prim.Native.Nat.{ℕ, zero, suc, ◌+◌, ◌≤◌, ◌<◌}
use native.Mathlib.Omega.{arith}
use lib.Dec.{eqb, ltb}
use lib.ListN.{length}
use borrow.Author.Tests.{eqb-true, eqb-false, ltb-true, ltb-false}
use Rattle.keyring_model.specs.Chains.{member, distinct}
use Rattle.keyring_model.proofs.Counts.{same, same_self, same_other, count, counted, uncounted, distinct-count, distinct_cons, Below, below_cons}

-- the list with one i less
abbrev without : ℕ → List ℕ → List ℕ
without i [] = []
without i (j ∷ l) = cond (eqb i j) l (j ∷ without i l)

without-length : (i : ℕ) (l : List ℕ) → 0 < count i l → length l ≡ suc (length (without i l))
without-length i [] h = absurd (omega arith)
without-length i (j ∷ l) h = go (without-length i l) (eqb i j) h
  where
    go : (0 < count i l → length l ≡ suc (length (without i l))) → (t : Bool) → 0 < cond t 1 0 + count i l
        → suc (length l) ≡ suc (length (cond t l (j ∷ without i l)))
    go r true h = refl
    go r false h = ap suc (r (omega arith))

without-count : (i k : ℕ) (l : List ℕ) → 0 < count i l → count k l ≡ same k i + count k (without i l)
without-count i k [] h = absurd (omega arith)
without-count i k (j ∷ l) h = go (without-count i k l) (eqb i j) refl h
  where
    go : (0 < count i l → count k l ≡ same k i + count k (without i l)) → (t : Bool) → eqb i j ≡ t → 0 < cond t 1 0 + count i l
        → same k j + count k l ≡ same k i + count k (cond t l (j ∷ without i l))
    go r true e h = ap (λ (n : ℕ). same k n + count k l) (sym (eqb-true i j e))
    go r false e h = omega (arith, r (omega arith))

pub no_longer : (l m : List ℕ) → ((i : ℕ) → count i l ≤ count i m) → length l ≤ length m
no_longer [] m f = omega arith
no_longer (i ∷ l) m f =
    let h : 0 < count i m = omega (arith, f i, same_self i) in
    omega (arith, without-length i m h, no_longer l (without i m) (λ k. omega (arith, f k, without-count i k m h)))

-- every number below n, once
abbrev up_to : ℕ → List ℕ
up_to zero = []
up_to (suc n) = n ∷ up_to n

up_to-length : (n : ℕ) → length (up_to n) ≡ n
up_to-length zero = refl
up_to-length (suc n) = ap suc (up_to-length n)

up_to_past : (n i : ℕ) → n ≤ i → count i (up_to n) ≡ 0
up_to_past zero i h = refl
up_to_past (suc n) i h = omega (arith, same_other i n (λ e. omega arith), up_to_past n i (omega arith))

up_to-count : (n i : ℕ) → i < n → count i (up_to n) ≡ 1
up_to-count zero i h = absurd (omega arith)
up_to-count (suc n) i h = go (up_to-count n i) (eqb i n) refl
  where
    go : (i < n → count i (up_to n) ≡ 1) → (t : Bool) → eqb i n ≡ t → cond t 1 0 + count i (up_to n) ≡ 1
    go r true e = let p : i ≡ n = eqb-true i n e in omega (arith, up_to_past n i (omega arith))
    go r false e = let f : i ≡ n → ⊥ = eqb-false i n e in omega (arith, r (omega arith))

module _ (n : ℕ) (l : List ℕ) where
  -- n numbers at most are different and below n
  pub at_most : distinct l ≡ true → Below n l → length l ≤ n
  at_most d b = omega (arith, up_to-length n, no_longer l (up_to n) (λ i. go i (member i l) refl))
    where
      go : (i : ℕ) (t : Bool) → member i l ≡ t → count i l ≤ count i (up_to n)
      go i true e = omega (arith, distinct-count l d i, up_to-count n i (b i e))
      go i false e = omega (arith, uncounted i l e)

  -- a list that has every number below n has n at least
  pub at_least : ((i : ℕ) → i < n → member i l ≡ true) → n ≤ length l
  at_least f = omega (arith, up_to-length n, no_longer (up_to n) l (λ i. go i (ltb i n) refl))
    where
      go : (i : ℕ) (t : Bool) → ltb i n ≡ t → count i (up_to n) ≤ count i l
      go i true e = let h : i < n = ltb-true i n e in omega (arith, up_to-count n i h, counted i l (f i h))
      go i false e = omega (arith, up_to_past n i (ltb-false i n e))

-- n different numbers below n are all of them
pub every_one : (n : ℕ) (l : List ℕ) → distinct l ≡ true → Below n l → length l ≡ n → (i : ℕ) → i < n → member i l ≡ true
every_one n l d b e i h = go (member i l) refl
  where
    go : (t : Bool) → member i l ≡ t → t ≡ true
    go true q = refl
    go false q = absurd (omega (arith, at_most n (i ∷ l) (distinct_cons i l q d) (below_cons n i l h b)))
