-- One step of a definition that a loop follows.
-- Assumes nothing.
use mathlib.Core.Path.{◌≡◌, refl, sym, ap, ◌∙◌}
use mathlib.Core.Bool.{Bool, true, false, cond, ◌&&◌, ◌||◌}
use mathlib.Core.List.{List, [], ◌∷◌}
use mathlib.Core.Option.{Option, none, some}
use Prim.Native.Nat.{ℕ, zero, suc, ◌+◌, ◌-◌, ◌<◌, ◌≤◌}
use native.Mathlib.Numerals.{add-one}
use native.Mathlib.Omega.{arith}
use lib.Dec.{eqb}
use borrow.Author.Tests.{ne_eqb, eq-eqb, eqb-true, eqb-false}
use Rattle.bits.specs.Bytes.{alike}
use Rattle.bits.proofs.Choice.{cond_on, cond_off, or_left, or_right}
use Rattle.keyring_model.specs.Records.{next_of, label_of}
use Rattle.keyring_model.specs.Chains.{chain}
use Rattle.keyring_model.specs.Validity.{every}
use Rattle.keyring_model.specs.Lookup.{first_with}
use Rattle.keyring_model.specs.Add.{lowest}

-- ---- chains

module _ (b : List ℕ) where
  pub chain_end : (n i : ℕ) → i ≡ 0 → chain n b i ≡ []
  unfolding chain
  chain_end zero i e = refl
  chain_end (suc n) i e = cond_on (eq-eqb i 0 e) [] (i ∷ chain n b (next_of b i))

  pub chain_empty : (n i : ℕ) → n ≡ 0 → chain n b i ≡ []
  unfolding chain
  chain_empty zero i e = refl
  chain_empty (suc n) i e = absurd (omega arith)

  pub chain-cons : (n i : ℕ) → (i ≡ 0 → ⊥) → 0 < n → chain n b i ≡ i ∷ chain (n - 1) b (next_of b i)
  unfolding chain
  chain-cons zero i f h = absurd (omega arith)
  chain-cons (suc n) i f h =
      let p : suc n - 1 ≡ n = omega arith in
      cond_off (ne_eqb i 0 f) [] (i ∷ chain n b (next_of b i)) ∙ ap (λ (m : ℕ). i ∷ chain m b (next_of b i)) (sym p)

  -- the test with which a loop along a chain ends
  pub chain_stops : (n i : ℕ) → (eqb i 0 || eqb n 0) ≡ true → chain n b i ≡ []
  chain_stops n i e = go (eqb i 0) (eqb n 0) refl refl e
    where
      go : (s t : Bool) → eqb i 0 ≡ s → eqb n 0 ≡ t → (s || t) ≡ true → chain n b i ≡ []
      go true t p q e = chain_end n i (eqb-true i 0 p)
      go false true p q e = chain_empty n i (eqb-true n 0 q)
      go false false p q e = absurd (let z : ◌≡◌ {A = ℕ} 0 1 = cc in omega arith)

  module _ (n i : ℕ) (going : (eqb i 0 || eqb n 0) ≡ false) where
    there : i ≡ 0 → ⊥
    there = eqb-false i 0 (or_left (eqb i 0) (eqb n 0) going)

    pub behind_0 : 0 < i
    behind_0 = omega (arith, there)

    pub some_left : 0 < n
    some_left = let f : n ≡ 0 → ⊥ = eqb-false n 0 (or_right (eqb i 0) (eqb n 0) going) in omega arith

    pub chain_goes : chain n b i ≡ i ∷ chain (n - 1) b (next_of b i)
    chain_goes = chain-cons n i there some_left

  module _ (l : List ℕ) where
    pub first_nil : first_with b l [] ≡ none
    unfolding first_with
    first_nil = refl

    pub first_match : (i : ℕ) (r : List ℕ) → alike (label_of b i) l ≡ true → first_with b l (i ∷ r) ≡ some i
    unfolding first_with
    first_match i r e = cond_on e (some i) (first_with b l r)

    pub first_other : (i : ℕ) (r : List ℕ) → alike (label_of b i) l ≡ false → first_with b l (i ∷ r) ≡ first_with b l r
    unfolding first_with
    first_other i r e = cond_off e (some i) (first_with b l r)

-- ---- a test of every number, and the lowest number with a test

pub every_next : (n : ℕ) (p : ℕ → Bool) → every (n + 1) p ≡ (every n p && p n)
unfolding every
every_next n p = ap (λ (m : ℕ). every m p) (add-one n)

-- a loop that asks one number more
pub every_more : (p : ℕ → Bool) (n : ℕ) (t u : Bool) → t ≡ every n p → u ≡ p n → (t && u) ≡ every (n + 1) p
every_more p n t u e f = ap (λ (x : Bool). x && u) e ∙ ap (λ (x : Bool). every n p && x) f ∙ sym (every_next n p)

pub every-none : (p : ℕ → Bool) → every 0 p ≡ true
unfolding every
every-none p = refl

-- what holds of all holds of each
pub every_at : (n : ℕ) (p : ℕ → Bool) → every n p ≡ true → (i : ℕ) → i < n → p i ≡ true
unfolding every
every_at zero p e i h = absurd (omega arith)
every_at (suc n) p e i h = go (λ e h. every_at n p e i h) (every n p) (p n) refl refl e (eqb i n) refl
  where
    go : (every n p ≡ true → i < n → p i ≡ true) → (a c : Bool) → every n p ≡ a → p n ≡ c → (a && c) ≡ true → (t : Bool) → eqb i n ≡ t → p i ≡ true
    go rest true true ea ec q true t = ap p (eqb-true i n t) ∙ ec
    go rest true true ea ec q false t = rest ea (let f : i ≡ n → ⊥ = eqb-false i n t in omega arith)
    go rest true false ea ec q t u = absurd (let z : ◌≡◌ {A = ℕ} 0 1 = cc in omega arith)
    go rest false c ea ec q t u = absurd (let z : ◌≡◌ {A = ℕ} 0 1 = cc in omega arith)

-- and what holds of each holds of all
pub every_all : (n : ℕ) (p : ℕ → Bool) → ((i : ℕ) → i < n → p i ≡ true) → every n p ≡ true
unfolding every
every_all zero p f = refl
every_all (suc n) p f =
    ap (λ (t : Bool). t && p n) (every_all n p (λ i h. f i (omega arith))) ∙ f n (omega arith)

-- one that fails
pub every-not : (n : ℕ) (p : ℕ → Bool) (i : ℕ) → i < n → p i ≡ false → every n p ≡ false
every-not n p i h e = go (every n p) refl
  where
    go : (t : Bool) → every n p ≡ t → t ≡ false
    go true f = sym (every_at n p f i h) ∙ e
    go false f = refl

-- tests that agree give the same
pub every_same : (n : ℕ) (p q : ℕ → Bool) → ((i : ℕ) → i < n → p i ≡ q i) → every n p ≡ every n q
unfolding every
every_same zero p q f = refl
every_same (suc n) p q f =
    ap (λ (t : Bool). t && p n) (every_same n p q (λ i h. f i (omega arith))) ∙ ap (λ (t : Bool). every n q && t) (f n (omega arith))

module _ (p : ℕ → Bool) where
  pub lowest-none : (n i : ℕ) → n ≡ 0 → lowest p n i ≡ none
  unfolding lowest
  lowest-none zero i e = refl
  lowest-none (suc n) i e = absurd (omega arith)

  pub lowest_here : (n i : ℕ) → 0 < n → p i ≡ true → lowest p n i ≡ some i
  unfolding lowest
  lowest_here zero i h e = absurd (omega arith)
  lowest_here (suc n) i h e = cond_on e (some i) (lowest p n (i + 1))

  pub lowest_later : (n i : ℕ) → 0 < n → p i ≡ false → lowest p n i ≡ lowest p (n - 1) (i + 1)
  unfolding lowest
  lowest_later zero i h e = absurd (omega arith)
  lowest_later (suc n) i h e =
      let q : suc n - 1 ≡ n = omega arith in
      cond_off e (some i) (lowest p n (i + 1)) ∙ ap (λ (m : ℕ). lowest p m (i + 1)) (sym q)

pub lowest_same : (p q : ℕ → Bool) (n i : ℕ) → ((j : ℕ) → i ≤ j → j < i + n → p j ≡ q j) → lowest p n i ≡ lowest q n i
unfolding lowest
lowest_same p q zero i f = refl
lowest_same p q (suc n) i f =
    ap (λ (t : Bool). cond t (some i) (lowest p n (i + 1))) (f i (omega arith) (omega arith))
    ∙ ap (λ (o : Option ℕ). cond (q i) (some i) o) (lowest_same p q n (i + 1) (λ j h k. f j (omega arith) (omega arith)))
