-- Lists of numbers, element by element, and stores into them.
-- Assumes nothing.
use mathlib.Core.Path.{◌≡◌, refl, sym, ap, ap₂, subst, ◌∙◌}
use mathlib.Core.Bool.{Bool, true, ◌&&◌}
use mathlib.Core.List.{List, [], ◌∷◌, ◌++◌}
use Prim.Native.Nat.{ℕ, zero, suc, ◌+◌, ◌≤◌, ◌<◌}
use native.Mathlib.Nat.{add-zero, suc-ne-zero}
use native.Mathlib.Numerals.{add-one, add-two, add-three}
use native.Mathlib.Omega.{arith}
use lib.Dec.{T, eqb, eqb→eq, lit<}
use lib.ListN.{length, get_or, set, take, drop, length-drop, length-append, replicate}
use lib.Seq.{sets, take-add, drop-drop, get_or-drop, take-suc, get_or-set_same, get_or-set_other}
use borrow.Author.Count.{below_more}
use borrow.Author.Tests.{eq-eqb}
use Rattle.bits.specs.Bytes.{Bytes, alike}
use Rattle.bits.proofs.Choice.{and_left, and_right}

pub cons : {a b : ℕ} {l m : List ℕ} → a ≡ b → l ≡ m → a ∷ l ≡ b ∷ m
cons p q = ap₂ (λ (x : ℕ) (y : List ℕ). x ∷ y) p q

pub list4 : {a b c d a' b' c' d' : ℕ} → a ≡ a' → b ≡ b' → c ≡ c' → d ≡ d' → a ∷ b ∷ c ∷ d ∷ [] ≡ a' ∷ b' ∷ c' ∷ d' ∷ []
list4 p q r s = cons p (cons q (cons r (cons s refl)))

pub no_elements : (l : List ℕ) → length l ≡ 0 → l ≡ []
no_elements [] e = refl
no_elements (x ∷ l) e = absurd (suc-ne-zero (length l) e)

pub alike-eq : (l m : List ℕ) → T (alike l m) → l ≡ m
alike-eq [] [] t = refl
alike-eq [] (y ∷ m) t = absurd t
alike-eq (x ∷ l) [] t = absurd t
alike-eq (x ∷ l) (y ∷ m) t = cons (eqb→eq x y (and_left (eqb x y) (alike l m) t)) (alike-eq l m (and_right (eqb x y) (alike l m) t))

pub alike_self : (l : List ℕ) → alike l l ≡ true
alike_self [] = refl
alike_self (x ∷ l) = ap₂ (λ (a b : Bool). a && b) (eq-eqb x x refl) (alike_self l)

pub bytes_at : (s : List ℕ) → Bytes s → (i : ℕ) → get_or s i 0 < 256
bytes_at [] h i = lit< tt
bytes_at (x ∷ s) h zero = h.0
bytes_at (x ∷ s) h (suc i) = bytes_at s h.1 i

pub bytes_of_lem : (s : List ℕ) → ((i : ℕ) → get_or s i 0 < 256) → Bytes s
bytes_of_lem [] h = tt
bytes_of_lem (x ∷ s) h = (h zero, bytes_of_lem s (λ i. h (suc i)))

pub bytes_append : (l m : List ℕ) → Bytes l → Bytes m → Bytes (l ++ m)
bytes_append [] m g h = h
bytes_append (x ∷ l) m g h = (g.0, bytes_append l m g.1 h)

pub bytes_take : (n : ℕ) (l : List ℕ) → Bytes l → Bytes (take n l)
bytes_take zero l h = tt
bytes_take (suc n) [] h = tt
bytes_take (suc n) (x ∷ l) h = (h.0, bytes_take n l h.1)

-- a run of stores, in two runs
pub sets-append : (l : List ℕ) (i : ℕ) (v w : List ℕ) → sets l i (v ++ w) ≡ sets (sets l i v) (i + length v) w
sets-append l i [] w = ap (λ (n : ℕ). sets l n w) (sym (add-zero i))
sets-append l i (x ∷ v) w =
    let e : suc i + length v ≡ i + suc (length v) = omega arith in
    sets-append (set l i x) (suc i) v w ∙ ap (λ (n : ℕ). sets (sets (set l i x) (suc i) v) n w) e

-- four stores in a row
pub sets_four : (l : List ℕ) (i a b c d : ℕ) → set (set (set (set l i a) (i + 1) b) (i + 2) c) (i + 3) d ≡ sets l i (a ∷ b ∷ c ∷ d ∷ [])
sets_four l i a b c d = simp (add-one, add-two, add-three)

-- a part, in two parts
pub part_add : (s : List ℕ) (at n m : ℕ) → take (n + m) (drop at s) ≡ take n (drop at s) ++ take m (drop (at + n) s)
part_add s at n m = take-add n m (drop at s) ∙ ap (λ (l : List ℕ). take n (drop at s) ++ take m l) (drop-drop n at s)

-- four elements in a row
pub part_four : (s : List ℕ) (at : ℕ) → at + 4 ≤ length s
    → take 4 (drop at s) ≡ get_or s (at + 0) 0 ∷ get_or s (at + 1) 0 ∷ get_or s (at + 2) 0 ∷ get_or s (at + 3) 0 ∷ []
part_four s at h =
    let one : (j : ℕ) → j < 4 → take (suc j) (drop at s) ≡ take j (drop at s) ++ (get_or s (at + j) 0 ∷ []) =
    λ j p. take-suc (drop at s) j 0 (simp length-drop (omega arith)) ∙ ap (λ (x : ℕ). take j (drop at s) ++ (x ∷ [])) (get_or-drop at s j 0) in
    one 3 (lit< tt) ∙ ap (λ (l : List ℕ). l ++ (get_or s (at + 3) 0 ∷ []))
    (one 2 (lit< tt) ∙ ap (λ (l : List ℕ). l ++ (get_or s (at + 2) 0 ∷ []))
    (one 1 (lit< tt) ∙ ap (λ (l : List ℕ). l ++ (get_or s (at + 1) 0 ∷ [])) (one 0 (lit< tt))))

-- sixteen elements in a row, four by four
pub part_sixteen : (s : List ℕ) (at : ℕ)
    → take 16 (drop at s) ≡ take 4 (drop at s) ++ take 4 (drop (at + 4) s) ++ take 4 (drop (at + 8) s) ++ take 4 (drop (at + 12) s)
part_sixteen s at =
    part_add s at 12 4
    ∙ ap (λ (l : List ℕ). l ++ take 4 (drop (at + 12) s))
    (part_add s at 8 4 ∙ ap (λ (l : List ℕ). l ++ take 4 (drop (at + 8) s)) (part_add s at 4 4))

-- four parts joined
pub four : {p q r s p' q' r' s' : List ℕ} → p ≡ p' → q ≡ q' → r ≡ r' → s ≡ s' → p ++ q ++ r ++ s ≡ p' ++ q' ++ r' ++ s'
four e f g h = ap₂ (λ (x y : List ℕ). x ++ y) (ap₂ (λ (x y : List ℕ). x ++ y) (ap₂ (λ (x y : List ℕ). x ++ y) e f) g) h

-- four runs of stores of four
pub sets_sixteen : (l : List ℕ) (i : ℕ) (p q r s : List ℕ) → length p ≡ 4 → length q ≡ 4 → length r ≡ 4
    → sets l i (p ++ q ++ r ++ s) ≡ sets (sets (sets (sets l i p) (i + 4) q) (i + 8) r) (i + 12) s
sets_sixteen l i p q r s hp hq hr =
    let e : length (p ++ q ++ r) ≡ 12 = rw (length-append, length-append) (omega arith) in
    let f : length (p ++ q) ≡ 8 = rw length-append (omega arith) in
    sets-append l i (p ++ q ++ r) s ∙ ap (λ (n : ℕ). sets (sets l i (p ++ q ++ r)) (i + n) s) e
    ∙ ap (λ (w : List ℕ). sets w (i + 12) s)
    (sets-append l i (p ++ q) r ∙ ap (λ (n : ℕ). sets (sets l i (p ++ q)) (i + n) r) f
    ∙ ap (λ (w : List ℕ). sets w (i + 8) r) (sets-append l i p q ∙ ap (λ (n : ℕ). sets (sets l i p) (i + n) q) hp))

-- one entry more of a table that is filled from the front, whatever its rule
pub filled : (P : ℕ → ℕ → Type 0) (l : List ℕ) (i x : ℕ) → i < length l → ((k : ℕ) → k < i → P k (get_or l k 0)) → P i x
    → (k : ℕ) → k < i + 1 → P k (get_or (set l i x) k 0)
filled P l i x h rule new =
    below_more (λ k. P k (get_or (set l i x) k 0)) i
    (λ k p. subst (P k) (sym (get_or-set_other l i k x 0 (λ e. omega arith))) (rule k p))
    (subst (P i) (sym (get_or-set_same l i x 0 h)) new)

-- zeros, and what is read behind them
pub zeros_at : (n i : ℕ) → ◌≡◌ {A = ℕ} (get_or (replicate n 0) i 0) 0
zeros_at zero i = refl
zeros_at (suc n) zero = refl
zeros_at (suc n) (suc i) = zeros_at n i
