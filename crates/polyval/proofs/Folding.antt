-- POLYVAL block by block.
-- Assumes nothing.
use Rattle.std.proofs.Common.{◌≡◌, ◌∙◌, ◌+◌, ◌<◌, ◌++◌, [], ◌∷◌, List, ℕ, zero, suc, length, take, get_or, map, refl, sym, ap, ap₂}
use Rattle.std.proofs.lemmas.List.{take_more}
use mathlib.Core.List.{map-append}
use Rattle.std.specs.Simd.{first_chunks}
use Rattle.bits.specs.Blocks.{blocks}
use Rattle.bits.specs.Words.{le_value}
use Rattle.rfc8452.specs.Field.{add, dot}
use Rattle.rfc8452.specs.Polyval.{polyval_from}

from_more : (h s x : ℕ) (l : List ℕ) → polyval_from h s (l ++ (x ∷ [])) ≡ dot (add (polyval_from h s l) x) h
from_more h s x [] = refl
from_more h s x (y ∷ l) = from_more h (dot (add s y) h) x l

-- S_i from S_{i-1}, as a loop over the blocks has it
pub block_more : (h i s r : ℕ) (l : List (List ℕ)) (b : List ℕ) → i < length l → s ≡ polyval_from h 0 (map le_value (take i l)) → b ≡ get_or l i []
    → r ≡ dot (add s (le_value b)) h → r ≡ polyval_from h 0 (map le_value (take (i + 1) l))
block_more h i s r l b inside before block new =
    let x = get_or l i [] in
    new ∙ ap₂ (λ (a : ℕ) (c : List ℕ). dot (add a (le_value c)) h) before block
    ∙ sym (from_more h 0 (le_value x) (map le_value (take i l)))
    ∙ ap (polyval_from h 0) (sym (ap (map le_value) (take_more l i [] inside) ∙ map-append le_value (take i l) (x ∷ [])))

-- the chunks of a buffer are its blocks
pub chunks_are : (n : ℕ) (s : List ℕ) → first_chunks 16 n s ≡ blocks n s
chunks_are zero s = refl
chunks_are (suc n) s = ap (λ (l : List (List ℕ)). take 16 s ∷ l) (chunks_are n _)
