-- A rule proved at every entry of a table by one test that the checker computes, entry after entry.
-- Assumes nothing.
use mathlib.Core.Path.{◌≡◌, ◌∙◌, subst, sym}
use mathlib.Core.Bool.{Bool, true, ◌&&◌}
use mathlib.Core.List.{List, [], ◌∷◌}
use Prim.Native.Nat.{ℕ, zero, suc, ◌+◌, ◌<◌}
use native.Mathlib.Nat.{add-zero, zero-add, add-suc, suc-add, le_of_suc-le-suc, not-suc-le-zero}
use lib.Dec.{T, eqb, eqb→eq}
use lib.ListN.{length, get_or, replicate}
use Rattle.bits.proofs.Choice.{and_left, and_right}

-- the test passes at each entry and its place, counted from i
abbrev pub every : (ℕ → ℕ → Bool) → ℕ → List ℕ → Bool
every f i [] = true
every f i (x ∷ xs) = f i x && every f (suc i) xs

from : (f : ℕ → ℕ → Bool) (xs : List ℕ) (i : ℕ) → T (every f i xs) → (k : ℕ) → k < length xs → T (f (i + k) (get_or xs k 0))
from f [] i t k h = absurd (not-suc-le-zero h)
from f (x ∷ xs) i t zero h = subst (λ (m : ℕ). T (f m x)) (sym (add-zero i)) (and_left (f i x) (every f (suc i) xs) t)
from f (x ∷ xs) i t (suc k) h =
    subst (λ (m : ℕ). T (f m (get_or xs k 0))) (suc-add i k ∙ sym (add-suc i k))
    (from f xs (suc i) (and_right (f i x) (every f (suc i) xs) t) k (le_of_suc-le-suc h))

pub entry : (f : ℕ → ℕ → Bool) (xs : List ℕ) → T (every f 0 xs) → (k : ℕ) → k < length xs → T (f k (get_or xs k 0))
entry f xs t k h = subst (λ (m : ℕ). T (f m (get_or xs k 0))) (zero-add k) (from f xs 0 t k h)

-- a list of 256 entries, for a test of its places alone
unfoldable pub bytes : List ℕ
bytes = replicate 256 0

-- a test that passes at each of the 256 bytes
pub each : (f : ℕ → Bool) → T (every (λ k x. f k) 0 bytes) → (b : ℕ) → b < 256 → T (f b)
unfolding bytes
each f t b h = entry (λ k x. f k) bytes t b h

-- two functions that are equal at each of the 256 bytes
pub same : (f g : ℕ → ℕ) → T (every (λ k x. eqb (f k) (g k)) 0 bytes) → (b : ℕ) → b < 256 → f b ≡ g b
same f g t b h = eqb→eq (f b) (g b) (each (λ k. eqb (f k) (g k)) t b h)
