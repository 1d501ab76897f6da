-- The ways through the loops that mark: along a chain, and from head to head.
-- Assumes nothing.
use mathlib.Core.Path.{◌≡◌, refl, sym, ap, subst, ◌∙◌}
use mathlib.Core.Bool.{Bool, true, false, cond}
use mathlib.Core.List.{List, [], ◌∷◌, ◌++◌}
use mathlib.Core.Option.{Option, none, some}
use Prim.Native.Nat.{ℕ, zero, suc, ◌+◌, ◌-◌, ◌<◌, ◌≤◌}
use native.Mathlib.Numerals.{add-one}
use native.Mathlib.Omega.{arith}
use lib.Dec.{eqb}
use lib.ListN.{get_or, set}
use borrow.Author.Tests.{ne_eqb, eq-eqb, eqb-true, eqb-false}
use Rattle.bits.proofs.Choice.{cond_on, cond_off}
use Rattle.keyring_model.specs.Records.{records, head_of, next_of}
use Rattle.keyring_model.specs.Chains.{chain, chain_of, reached_from}
use Rattle.keyring_model.proofs.Walks.{chain_end, chain_empty, chain-cons}
use Rattle.keyring_validity.specs.Marks.{marked, Gives}

-- ---- what is given, by what was shown of the marks

pub gives_none : (m : List ℕ) (o : Option (List ℕ)) → o ≡ none → Gives false m o
gives_none m o e = subst (λ (o : Option (List ℕ)). Gives false m o) (sym e) refl

pub gives_some : (m : List ℕ) (o : Option (List ℕ)) → o ≡ some m → Gives true m o
gives_some m o e = subst (λ (o : Option (List ℕ)). Gives true m o) (sym e) (refl, refl)

pub given_none : (m : List ℕ) (r : Bool) (o : Option (List ℕ)) → Gives r m o → r ≡ false → o ≡ none
given_none m r none g e = refl
given_none m r (some l) g e = absurd (let p = g.0 in let z : ◌≡◌ {A = ℕ} 0 1 = cc in omega arith)

pub given_some : (m : List ℕ) (r : Bool) (o : Option (List ℕ)) → Gives r m o → r ≡ true → o ≡ some m
given_some m r none g e = absurd (let z : ◌≡◌ {A = ℕ} 0 1 = cc in omega arith)
given_some m r (some l) g e = ap (λ (x : List ℕ). some x) (sym g.1)

-- ---- along a chain

module _ (b m : List ℕ) (n i : ℕ) where
  pub all_marked : n ≡ 0 → marked m (chain n b i) ≡ some m
  unfolding marked
  all_marked e = ap (marked m) (chain_empty b n i e)

  module _ (some : 0 < n) where
    -- index 0 ends the chain, and any other that is marked is reached twice
    pub met : (get_or m i 0 ≡ 0 → ⊥) → Gives (eqb i 0) m (marked m (chain n b i))
    unfolding marked
    met f = go (eqb i 0) refl
      where
        go : (t : Bool) → eqb i 0 ≡ t → Gives t m (marked m (chain n b i))
        go true e = gives_some m _ (ap (marked m) (chain_end b n i (eqb-true i 0 e)))
        go false e =
            gives_none m _
            (ap (marked m) (chain-cons b n i (eqb-false i 0 e) some)
            ∙ cond_off (ne_eqb (get_or m i 0) 0 f) (marked (set m i 1) (chain (n - 1) b (next_of b i))) none)

    pub one_more : (i ≡ 0 → ⊥) → get_or m i 0 ≡ 0 → marked (set m i 1) (chain (n - 1) b (next_of b i)) ≡ marked m (chain n b i)
    unfolding marked
    one_more f e =
        sym
        (ap (marked m) (chain-cons b n i f some) ∙ cond_on (eq-eqb (get_or m i 0) 0 e) (marked (set m i 1) (chain (n - 1) b (next_of b i))) none)

-- index 0 is marked, so one that is not is another
pub not_end : (m : List ℕ) (i : ℕ) → get_or m 0 0 ≡ 1 → get_or m i 0 ≡ 0 → i ≡ 0 → ⊥
not_end m i e f p = omega (arith, ap (λ (k : ℕ). get_or m k 0) p)

-- ---- from head to head

-- marks that went through, and more to mark
abbrev onward : Option (List ℕ) → List ℕ → Option (List ℕ)
onward none l = none
onward (some m) l = marked m l

marked_append : (m k l : List ℕ) → marked m (k ++ l) ≡ onward (marked m k) l
unfolding marked
marked_append m [] l = refl
marked_append m (i ∷ k) l = go (eqb (get_or m i 0) 0) (marked_append (set m i 1) k l)
  where
    go : (t : Bool) → marked (set m i 1) (k ++ l) ≡ onward (marked (set m i 1) k) l
        → cond t (marked (set m i 1) (k ++ l)) none ≡ onward (cond t (marked (set m i 1) k) none) l
    go true e = e
    go false e = refl

module _ (b m : List ℕ) where
  pub no_heads : marked m (reached_from 0 b) ≡ some m
  unfolding marked reached_from
  no_heads = refl

  -- the next chain, after those of k heads
  pub next_head : (k : ℕ) (m' : List ℕ) (o : Option (List ℕ)) {i : ℕ} → marked m (reached_from k b) ≡ some m' → i ≡ head_of b k
      → marked m' (chain (records b) b i) ≡ o → marked m (reached_from (k + 1) b) ≡ o
  unfolding reached_from
  next_head k m' o e h f =
      ap (λ (n : ℕ). marked m (reached_from n b)) (add-one k) ∙ marked_append m (reached_from k b) (chain_of b k)
      ∙ ap (λ (x : Option (List ℕ)). onward x (chain_of b k)) e
      ∙ ap (λ (i : ℕ). marked m' (chain (records b) b i)) (sym h) ∙ f

  -- a record reached twice from some heads is from all
  pub twice_of_all : (n k : ℕ) → k ≤ n → marked m (reached_from k b) ≡ none → marked m (reached_from n b) ≡ none
  unfolding reached_from
  twice_of_all zero k h e = ap (λ (j : ℕ). marked m (reached_from j b)) (let p : 0 ≡ k = omega arith in p) ∙ e
  twice_of_all (suc n) k h e = go (λ h. twice_of_all n k h e) (eqb k (suc n)) refl
    where
      go : (k ≤ n → marked m (reached_from n b) ≡ none) → (t : Bool) → eqb k (suc n) ≡ t → marked m (reached_from n b ++ chain_of b n) ≡ none
      go rest true q = sym (ap (λ (j : ℕ). marked m (reached_from j b)) (eqb-true k (suc n) q)) ∙ e
      go rest false q =
          let f : k ≡ suc n → ⊥ = eqb-false k (suc n) q in
          marked_append m (reached_from n b) (chain_of b n) ∙ ap (λ (x : Option (List ℕ)). onward x (chain_of b n)) (rest (omega arith))
