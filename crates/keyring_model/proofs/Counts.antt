-- How often a number stands in a list: what `member` and `distinct` say, in numbers that add up over joined lists.
-- Assumes nothing.
use mathlib.Core.Path.{◌≡◌, refl, sym, ap, ◌∙◌}
use mathlib.Core.Bool.{Bool, true, false, cond, not, ◌||◌, and-eq-true_iff}
use mathlib.Core.List.{List, [], ◌∷◌, ◌++◌}
use Prim.Native.Nat.{ℕ, ◌+◌, ◌≤◌, ◌<◌}
use native.Mathlib.Omega.{arith}
use lib.Dec.{eqb, ltb}
use borrow.Author.Tests.{eq-eqb, ne_eqb, eqb-true, lt-ltb, le-ltb, ltb-true, ltb-false, not-true}
use Rattle.bits.proofs.Choice.{cond_on, cond_off}
use Rattle.keyring_model.specs.Chains.{member, distinct}

-- 1 where the numbers are equal
abbrev pub same : ℕ → ℕ → ℕ
same i j = cond (eqb i j) 1 0

pub same_self : (i : ℕ) → same i i ≡ 1
same_self i = cond_on (eq-eqb i i refl) 1 0

pub same_other : (i j : ℕ) → (i ≡ j → ⊥) → same i j ≡ 0
same_other i j f = cond_off (ne_eqb i j f) 1 0

abbrev pub count : ℕ → List ℕ → ℕ
count i [] = 0
count i (j ∷ l) = same i j + count i l

pub count-append : (i : ℕ) (l m : List ℕ) → count i (l ++ m) ≡ count i l + count i m
count-append i [] m = omega arith
count-append i (j ∷ l) m = omega (arith, count-append i l m)

pub member-count : (i : ℕ) (l : List ℕ) → member i l ≡ ltb 0 (count i l)
unfolding member
member-count i [] = refl
member-count i (j ∷ l) = go (member-count i l) (eqb i j)
  where
    go : member i l ≡ ltb 0 (count i l) → (t : Bool) → (t || member i l) ≡ ltb 0 (cond t 1 0 + count i l)
    go r true = sym (lt-ltb 0 (1 + count i l) (omega arith))
    go r false = let e : count i l ≡ 0 + count i l = omega arith in r ∙ ap (ltb 0) e

pub counted : (i : ℕ) (l : List ℕ) → member i l ≡ true → 0 < count i l
counted i l e = ltb-true 0 (count i l) (sym (member-count i l) ∙ e)

pub uncounted : (i : ℕ) (l : List ℕ) → member i l ≡ false → count i l ≡ 0
uncounted i l e = omega (arith, ltb-false 0 (count i l) (sym (member-count i l) ∙ e))

pub is_member : (i : ℕ) (l : List ℕ) → 0 < count i l → member i l ≡ true
is_member i l h = member-count i l ∙ lt-ltb 0 (count i l) h

pub no_member : (i : ℕ) (l : List ℕ) → count i l ≡ 0 → member i l ≡ false
no_member i l h = member-count i l ∙ le-ltb 0 (count i l) (omega arith)

-- no number stands in the list twice
pub distinct-count : (l : List ℕ) → distinct l ≡ true → (i : ℕ) → count i l ≤ 1
unfolding distinct
distinct-count [] e i = omega arith
distinct-count (j ∷ l) e i = go (distinct-count l p.1 i) (eqb i j) refl
  where
    p : (not (member j l) ≡ true) × (distinct l ≡ true)
    p = (and-eq-true_iff (not (member j l)) (distinct l)).0 e

    go : count i l ≤ 1 → (t : Bool) → eqb i j ≡ t → cond t 1 0 + count i l ≤ 1
    go r true q =
        let z : count i l ≡ 0 = ap (λ (k : ℕ). count k l) (eqb-true i j q) ∙ uncounted j l (not-true (member j l) p.0) in
        omega arith
    go r false q = omega arith

pub count-distinct : (l : List ℕ) → ((i : ℕ) → count i l ≤ 1) → distinct l ≡ true
unfolding distinct
count-distinct [] f = refl
count-distinct (j ∷ l) f =
    let z : count j l ≡ 0 = omega (arith, f j, same_self j) in
    (and-eq-true_iff (not (member j l)) (distinct l)).1
    (ap not (no_member j l z), count-distinct l (λ i. omega (arith, f i)))

pub distinct_cons : (i : ℕ) (l : List ℕ) → member i l ≡ false → distinct l ≡ true → distinct (i ∷ l) ≡ true
unfolding distinct
distinct_cons i l e d = (and-eq-true_iff (not (member i l)) (distinct l)).1 (ap not e, d)

-- the numbers of the list are below n
abbrev pub Below : ℕ → List ℕ → Type 0
Below n l = (i : ℕ) → member i l ≡ true → i < n

pub below_cons : (n i : ℕ) (l : List ℕ) → i < n → Below n l → Below n (i ∷ l)
unfolding member
below_cons n i l h b k = go (eqb k i) refl
  where
    go : (t : Bool) → eqb k i ≡ t → (t || member k l) ≡ true → k < n
    go true e m = omega (arith, eqb-true k i e)
    go false e m = b k m
