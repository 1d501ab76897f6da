-- Runs of stores, one behind the other.
-- Assumes nothing.
use mathlib.Core.Path.{◌≡◌, ◌∙◌, sym, ap}
use mathlib.Core.List.{List, [], ◌∷◌, ◌++◌}
use Prim.Native.Nat.{ℕ, ◌+◌, ◌<◌, ◌≤◌}
use native.Mathlib.Numerals.{add-one}
use native.Mathlib.Omega.{arith}
use lib.ListN.{length, get_or, set, take, length-set}
use lib.Seq.{sets, take_all, take-suc, length-take-le}
use Rattle.bits.proofs.Lists.{sets-append}

-- a run behind one of known length
pub then : (o : List ℕ) (at n : ℕ) (v w : List ℕ) {l : List ℕ} → length v ≡ n → l ≡ sets o at v → sets l (at + n) w ≡ sets o at (v ++ w)
then o at n v w e p =
    ap (λ (t : List ℕ). sets t (at + n) w) p
    ∙ ap (λ (k : ℕ). sets (sets o at v) (at + k) w) (sym e)
    ∙ sym (sets-append o at v w)

-- one byte more
byte_written : (o l a : List ℕ) (at i : ℕ) → i < length a → l ≡ sets o at (take i a)
    → set l (at + i) (get_or a i 0) ≡ sets o at (take (i + 1) a)
byte_written o l a at i h p =
    then o at i (take i a) (get_or a i 0 ∷ []) (length-take-le i a (omega arith)) p
    ∙ ap (sets o at) (sym (take-suc a i 0 h))
    ∙ ap (λ (n : ℕ). sets o at (take n a)) (sym (add-one i))

-- n bytes to a position, of which the first i are written
pub record Writing (n : ℕ) (o : List ℕ) (at : ℕ) (a l : List ℕ) (i : ℕ) : Type 0 where
  pub within : i ≤ n
  pub size : length a ≡ n
  pub same : length l ≡ length o
  pub front : l ≡ sets o at (take i a)

module _ {n : ℕ} {o : List ℕ} {at : ℕ} {a l : List ℕ} {i : ℕ} (t : Writing n o at a l i) where
  pub writing_more : i < n → Writing n o at a (set l (at + i) (get_or a i 0)) (i + 1)
  writing_more h =
      record {
        within = omega arith;
        size = t.size;
        same = length-set l (at + i) (get_or a i 0) ∙ t.same;
        front = byte_written o l a at i (omega arith) t.front;
      }

  pub writing_all : n ≤ i → l ≡ sets o at a
  writing_all h = t.front ∙ ap (sets o at) (take_all i a (omega arith))
