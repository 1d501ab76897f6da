-- Runs of stores into a list, and the parts that they leave or make.
-- Assumes nothing.
use mathlib.Core.Path.{◌≡◌, ◌∙◌, refl, sym, ap}
use mathlib.Core.List.{List, [], ◌∷◌, ◌++◌, append_assoc}
use Prim.Native.Nat.{ℕ, suc, ◌+◌, ◌-◌, ◌≤◌}
use native.Mathlib.Omega.{arith}
use lib.ListN.{length, take, drop, set, length-take, length-drop, take-append-drop}
use lib.Seq.{sets, sets-eq, take-set-le, drop-set-lt, drop-set-add, drop_at, take_at, length-take-le, drop-drop}
use Rattle.model.specs.Numbers.{part}

take-sets : (b s : List ℕ) (n at : ℕ) → n ≤ at → take n (sets s at b) ≡ take n s
take-sets [] s n at h = refl
take-sets (x ∷ b) s n at h = take-sets b (set s at x) n (suc at) (omega arith) ∙ take-set-le n s at x h

pub drop-sets : (b s : List ℕ) (n at : ℕ) → at + length b ≤ n → drop n (sets s at b) ≡ drop n s
drop-sets [] s n at h = refl
drop-sets (x ∷ b) s n at h = drop-sets b (set s at x) n (suc at) (omega arith) ∙ drop-set-lt n s at x (omega arith)

drop-sets-add : (b s : List ℕ) (n i : ℕ) → drop n (sets s (n + i) b) ≡ sets (drop n s) i b
drop-sets-add [] s n i = refl
drop-sets-add (x ∷ b) s n i =
    let e : suc (n + i) ≡ n + suc i = omega arith in
    ap (λ (k : ℕ). drop n (sets (set s (n + i) x) k b)) e
    ∙ drop-sets-add b (set s (n + i) x) n (suc i)
    ∙ ap (λ (l : List ℕ). sets l (suc i) b) (drop-set-add n s i x)

-- a part before the stores
pub part_before : (b s : List ℕ) (n at to : ℕ) → at + n ≤ to → part n at (sets s to b) ≡ part n at s
part_before b s n at to h =
    let e : to ≡ at + (to - at) = omega arith in
    ap (λ (k : ℕ). part n at (sets s k b)) e
    ∙ ap (take n) (drop-sets-add b s at (to - at))
    ∙ take-sets b (drop at s) n (to - at) (omega arith)

-- a part behind them
pub part_behind : (b s : List ℕ) (n at to : ℕ) → to + length b ≤ at → part n at (sets s to b) ≡ part n at s
part_behind b s n at to h = ap (take n) (drop-sets b s at to h)

-- the part that they fill
pub part_filled : (b s : List ℕ) (n at : ℕ) → length b ≡ n → at + n ≤ length s → part n at (sets s at b) ≡ b
part_filled b s n at e h =
    let room : at + length b ≤ length s = omega arith in
    let front : length (take at s) ≡ at = length-take-le at s (omega arith) in
    let rest = drop (at + length b) s in
    ap (part n at) (sets-eq b s at room ∙ append_assoc (take at s) b rest)
    ∙ ap (take n) (drop_at (take at s) (b ++ rest) at front)
    ∙ take_at b rest n e

-- what was read at a place, written there again
pub same_part : (l : List ℕ) (at n : ℕ) → at + n ≤ length l → sets l at (part n at l) ≡ l
same_part l at n h =
    let few : n ≤ length (drop at l) = simp length-drop (omega arith) in
    let k : length (take n (drop at l)) ≡ n = length-take-le n (drop at l) few in
    sets-eq (take n (drop at l)) l at (omega arith)
    ∙ ap (λ (m : ℕ). take at l ++ take n (drop at l) ++ drop (at + m) l) k
    ∙ append_assoc (take at l) (take n (drop at l)) (drop (at + n) l)
    ∙ ap (λ (t : List ℕ). take at l ++ (take n (drop at l) ++ t)) (sym (drop-drop n at l))
    ∙ ap (λ (t : List ℕ). take at l ++ t) (take-append-drop n (drop at l))
    ∙ take-append-drop at l

pub part_length : (s : List ℕ) (n at : ℕ) → at + n ≤ length s → length (part n at s) ≡ n
part_length s n at h = simp (length-take, length-drop) (omega arith)
