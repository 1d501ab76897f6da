-- Lists of any elements: stores under a map, and elements that are there.
-- Assumes nothing.
use mathlib.Core.Path.{◌≡◌, ◌∙◌, refl, ap}
use mathlib.Core.Bool.{Bool}
use mathlib.Core.List.{List, [], ◌∷◌, ◌++◌, map}
use Prim.Native.Nat.{ℕ, zero, suc, ◌<◌, ◌≤◌}
use native.Mathlib.Nat.{not-suc-le-zero, le_of_suc-le-suc}
use lib.Dec.{T}
use lib.ListN.{length, get_or, set, take, replicate}
use lib.Seq.{take-set-lt}
use Rattle.bits.proofs.Choice.{and_left, and_right, and_both}
use Rattle.model.specs.Demand3.{all_of}

module _ {A B : Type 0} (f : A → B) where
  pub map-set : (l : List A) (i : ℕ) (x : A) → map f (set l i x) ≡ set (map f l) i (f x)
  map-set [] i x = refl
  map-set (y ∷ l) zero x = refl
  map-set (y ∷ l) (suc i) x = ap (λ (r : List B). f y ∷ r) (map-set l i x)

  pub map-take-set : (n : ℕ) (l : List A) (i : ℕ) (x : A) → i < n → map f (take n (set l i x)) ≡ set (map f (take n l)) i (f x)
  map-take-set n l i x h = ap (map f) (take-set-lt n l i x h) ∙ map-set (take n l) i x

  pub map-replicate : (n : ℕ) (x : A) → map f (replicate n x) ≡ replicate n (f x)
  map-replicate zero x = refl
  map-replicate (suc n) x = ap (λ (r : List B). f x ∷ r) (map-replicate n x)

  pub map-append : (l r : List A) → map f (l ++ r) ≡ map f l ++ map f r
  map-append [] r = refl
  map-append (x ∷ l) r = ap (λ (t : List B). f x ∷ t) (map-append l r)

module _ {A : Type 0} where
  -- an element that is there, whatever stands behind the list
  pub get_or_there : (l : List A) (i : ℕ) (c d : A) → i < length l → get_or l i c ≡ get_or l i d
  get_or_there [] i c d h = absurd (not-suc-le-zero h)
  get_or_there (x ∷ l) zero c d h = refl
  get_or_there (x ∷ l) (suc i) c d h = get_or_there l i c d (le_of_suc-le-suc h)

  pub take-replicate : (n k : ℕ) (x : A) → n ≤ k → take n (replicate k x) ≡ replicate n x
  take-replicate zero k x h = refl
  take-replicate (suc n) zero x h = absurd (not-suc-le-zero h)
  take-replicate (suc n) (suc k) x h = ap (λ (r : List A). x ∷ r) (take-replicate n k x (le_of_suc-le-suc h))

-- ---- a test of every element

module _ (f : ℕ → Bool) where
  pub all_at : (l : List ℕ) (i d : ℕ) → T (all_of f l) → T (f d) → T (f (get_or l i d))
  all_at [] i d t z = z
  all_at (x ∷ l) zero d t z = and_left (f x) (all_of f l) t
  all_at (x ∷ l) (suc i) d t z = all_at l i d (and_right (f x) (all_of f l) t) z

  pub all_set : (l : List ℕ) (i x : ℕ) → T (all_of f l) → T (f x) → T (all_of f (set l i x))
  all_set [] i x t z = t
  all_set (y ∷ l) zero x t z = and_both (f x) (all_of f l) z (and_right (f y) (all_of f l) t)
  all_set (y ∷ l) (suc i) x t z = and_both (f y) (all_of f (set l i x)) (and_left (f y) (all_of f l) t) (all_set l i x (and_right (f y) (all_of f l) t) z)

  pub all_replicate : (n x : ℕ) → T (f x) → T (all_of f (replicate n x))
  all_replicate zero x z = tt
  all_replicate (suc n) x z = and_both (f x) (all_of f (replicate n x)) z (all_replicate n x z)

pub all_more : (f g : ℕ → Bool) → ((n : ℕ) → T (f n) → T (g n)) → (l : List ℕ) → T (all_of f l) → T (all_of g l)
all_more f g h [] t = t
all_more f g h (x ∷ l) t =
    and_both (g x) (all_of g l) (h x (and_left (f x) (all_of f l) t)) (all_more f g h l (and_right (f x) (all_of f l) t))
