-- Marking goes through exactly where no element stands in the list twice, and then tells which elements it has.
-- Assumes nothing.
use mathlib.Core.Path.{◌≡◌, refl, sym, ap, ap₂, ◌∙◌}
use mathlib.Core.Bool.{Bool, true, false, cond, not, ◌&&◌, ◌||◌, or-false}
use mathlib.Core.List.{List, [], ◌∷◌}
use mathlib.Core.Option.{Option, none, some}
use Prim.Native.Nat.{ℕ, ◌<◌}
use native.Mathlib.Omega.{arith}
use lib.Dec.{eqb}
use lib.ListN.{length, get_or, set, length-set}
use lib.Seq.{get_or-set_same, get_or-set_other}
use borrow.Author.Tests.{ne_eqb, eq-eqb, eqb-true, eqb-false}
use Rattle.keyring_model.specs.Chains.{member, distinct}
use Rattle.keyring_model.proofs.Counts.{Below}
use Rattle.keyring_model.proofs.Finding.{member_head, member_tail}
use Rattle.keyring_validity.specs.Marks.{marked}

abbrev pub went : Option (List ℕ) → Bool
went none = false
went (some m) = true

-- whether an element is marked
abbrev pub set? : List ℕ → ℕ → Bool
set? m i = not (eqb (get_or m i 0) 0)

-- no element of the list is marked
abbrev clear : List ℕ → List ℕ → Bool
clear m [] = true
clear m (i ∷ l) = not (set? m i) && clear m l

-- ---- elements below a bound, one by one

below_head : (n i : ℕ) (l : List ℕ) → Below n (i ∷ l) → i < n
below_head n i l h = h i (member_head i l)

below_tail : (n i : ℕ) (l : List ℕ) → Below n (i ∷ l) → Below n l
below_tail n i l h j e = h j (member_tail i j l e)

below_set : (m : List ℕ) (i : ℕ) (l : List ℕ) → Below (length m) l → Below (length (set m i 1)) l
below_set m i l h = simp length-set h

-- ---- a mark more

set_mark : (m : List ℕ) (i j : ℕ) → i < length m → set? (set m i 1) j ≡ (eqb i j || set? m j)
set_mark m i j h = go (eqb i j) refl
  where
    go : (b : Bool) → eqb i j ≡ b → set? (set m i 1) j ≡ (b || set? m j)
    go true e =
        ap (λ (k : ℕ). set? (set m i 1) k) (sym (eqb-true i j e)) ∙ ap (λ (x : ℕ). not (eqb x 0)) (get_or-set_same m i 1 0 h)
    go false e = ap (λ (x : ℕ). not (eqb x 0)) (get_or-set_other m i j 1 0 (λ p. eqb-false i j e (sym p)))

split : (a b c d : Bool) → (not (a || b) && (not c && d)) ≡ (not (a || c) && (not b && d))
split true b c d = refl
split false true true d = refl
split false true false d = refl
split false false true d = refl
split false false false d = refl

clear-set : (m : List ℕ) (i : ℕ) (l : List ℕ) → i < length m → clear (set m i 1) l ≡ (not (member i l) && clear m l)
unfolding member
clear-set m i [] h = refl
clear-set m i (j ∷ l) h =
    ap₂ (λ (a b : Bool). not a && b) (set_mark m i j h) (clear-set m i l h) ∙ split (eqb i j) (set? m j) (member i l) (clear m l)

swap : (a b c d : Bool) → cond a ((not b && c) && d) false ≡ ((not (not a) && c) && (not b && d))
swap true true true d = refl
swap true true false d = refl
swap true false c d = refl
swap false b c d = refl

went-cond : (b : Bool) (x : Option (List ℕ)) → went (cond b x none) ≡ cond b (went x) false
went-cond true x = refl
went-cond false x = refl

-- marking goes through exactly where nothing was marked and no element stands twice
marked-went : (l m : List ℕ) → Below (length m) l → went (marked m l) ≡ (clear m l && distinct l)
unfolding marked distinct
marked-went [] m h = refl
marked-went (i ∷ l) m h =
    went-cond (eqb (get_or m i 0) 0) (marked (set m i 1) l)
    ∙ ap (λ (b : Bool). cond (eqb (get_or m i 0) 0) b false)
    (marked-went l (set m i 1) (below_set m i l (below_tail (length m) i l h)) ∙ ap (λ (b : Bool). b && distinct l) (clear-set m i l (below_head (length m) i l h)))
    ∙ swap (eqb (get_or m i 0) 0) (member i l) (clear m l) (distinct l)

unmarked_clear : (l m : List ℕ) → ((i : ℕ) → member i l ≡ true → get_or m i 0 ≡ 0) → clear m l ≡ true
unmarked_clear [] m u = refl
unmarked_clear (i ∷ l) m u =
    ap₂ (λ (x : ℕ) (t : Bool). not (not (eqb x 0)) && t) (u i (member_head i l))
    (unmarked_clear l m (λ j e. u j (member_tail i j l e)))

-- where none of them was marked
pub went-distinct : (l m : List ℕ) → Below (length m) l → ((i : ℕ) → member i l ≡ true → get_or m i 0 ≡ 0) → went (marked m l) ≡ distinct l
went-distinct l m h u = marked-went l m h ∙ ap (λ (t : Bool). t && distinct l) (unmarked_clear l m u)

over : (a b c : Bool) → ((a || b) || c) ≡ (b || (a || c))
over true true c = refl
over true false c = refl
over false true c = refl
over false false c = refl

turned : (i j : ℕ) → eqb i j ≡ eqb j i
turned i j = go (eqb i j) refl
  where
    go : (b : Bool) → eqb i j ≡ b → b ≡ eqb j i
    go true e = sym (eq-eqb j i (sym (eqb-true i j e)))
    go false e = sym (ne_eqb j i (λ p. eqb-false i j e (sym p)))

-- and then exactly the elements of the list are marked besides
pub marked_tells : (l m m' : List ℕ) → Below (length m) l → marked m l ≡ some m' → (j : ℕ) → set? m' j ≡ (set? m j || member j l)
unfolding marked member
marked_tells [] m m' h e j = let p : m ≡ m' = cc in ap (λ (x : List ℕ). set? x j) (sym p) ∙ sym (or-false (set? m j))
marked_tells (i ∷ l) m m' h e j =
    go (λ e. marked_tells l (set m i 1) m' (below_set m i l (below_tail (length m) i l h)) e j) (eqb (get_or m i 0) 0) e
  where
    go : (marked (set m i 1) l ≡ some m' → set? m' j ≡ (set? (set m i 1) j || member j l)) → (b : Bool)
        → cond b (marked (set m i 1) l) none ≡ some m' → set? m' j ≡ (set? m j || (eqb j i || member j l))
    go rest true e =
        rest e
        ∙ ap (λ (b : Bool). b || member j l) (set_mark m i j (below_head (length m) i l h) ∙ ap (λ (b : Bool). b || set? m j) (turned i j))
        ∙ over (eqb j i) (set? m j) (member j l)
    go rest false e = absurd (let z : ◌≡◌ {A = ℕ} 0 1 = cc in omega arith)
