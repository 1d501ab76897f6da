-- A test over a list that does not stop early: what it says of one element more.
-- Assumes nothing.
use Rattle.std.proofs.Common.{◌≡◌, ◌&&◌, ◌∙◌, ◌+◌, ◌<◌, [], ◌∷◌, List, ℕ, zero, suc, Bool, length, get_or, take, eqb, ltb, sym, ap, add-zero, zero-add, arith}
use Rattle.std.proofs.Math.Bool.{and-true, and_assoc}
use Rattle.model.specs.Numbers.{all_zero}
use Rattle.model.specs.Records.{no_processor}
use Rattle.model.specs.Validity.{valid_processor, valid_processors}
use Rattle.model.specs.declared.Processor.{Processor}

pub zero_more : (s : List ℕ) (i : ℕ) → i < length s → all_zero (take (suc i) s) ≡ (all_zero (take i s) && eqb (get_or s i 0) 0)
zero_more [] i h = absurd (omega arith)
zero_more (x ∷ s) zero h = grind arith
zero_more (x ∷ s) (suc i) h = grind (arith, zero_more s i (omega arith))

valid_behind : (count k : ℕ) (l : List Processor) (i : ℕ) → i < length l
    → valid_processors count k (take (suc i) l) ≡ (valid_processors count k (take i l) && valid_processor (ltb (k + i) count) (get_or l i no_processor))
unfolding valid_processors
valid_behind count k [] i h = absurd (omega arith)
valid_behind count k (e ∷ l) zero h = rw add-zero (and-true _)
valid_behind count k (e ∷ l) (suc i) h =
    let n : suc k + i ≡ k + suc i = omega arith in
    ap (λ (b : Bool). valid_processor (ltb k count) e && b)
    (valid_behind count (suc k) l i (omega arith)
    ∙ ap (λ (p : ℕ). valid_processors count (suc k) (take i l) && valid_processor (ltb p count) (get_or l i no_processor)) n)
    ∙ sym (and_assoc (valid_processor (ltb k count) e) (valid_processors count (suc k) (take i l)) (valid_processor (ltb (k + suc i) count) (get_or l i no_processor)))

pub valid_more : (count : ℕ) (l : List Processor) (i : ℕ) → i < length l
    → valid_processors count 0 (take (suc i) l) ≡ (valid_processors count 0 (take i l) && valid_processor (ltb i count) (get_or l i no_processor))
valid_more count l i h = valid_behind count 0 l i h ∙ ap (λ (p : ℕ). valid_processors count 0 (take i l) && valid_processor (ltb p count) (get_or l i no_processor)) (zero-add i)
