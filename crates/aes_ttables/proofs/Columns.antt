-- Four tables made from one: how they are filled, and a column by them.
-- Assumes nothing.
use mathlib.Core.Path.{◌≡◌, sym, ap, ◌∙◌}
use mathlib.Core.List.{List, [], ◌∷◌}
use mathlib.Core.Logic.{⊎_elim}
use Prim.Native.Nat.{ℕ, zero, suc, ◌+◌, ◌-◌, ◌*◌, ◌<◌, ◌≤◌}
use native.Mathlib.Nat.{eq-or-lt_of_le}
use native.Mathlib.Omega.{arith}
use lib.Bits.{bit_xor}
use lib.ListN.{length, get_or, set}
use lib.Seq.{get_or-set_same, get_or-set_other}
use Rattle.bits.specs.Words.{le_bytes}
use Rattle.fips197.specs.KeyExpansion.{rot_word}
use Rattle.aes.specs.Columns.{staggered}
use Rattle.aes.proofs.Staggered.{summed}
use Rattle.aes_blocks.specs.TableCipher.{entry_bytes, table_column}
use Rattle.aes_ttables.specs.Turned.{turns, Turned}

-- ---- filling

-- below i, each word is the one 256 before it, turned
abbrev pub TurnedTo : ℕ → List ℕ → Type 0
TurnedTo i l = (k : ℕ) → 256 + k < i → le_bytes 4 (get_or l (256 + k) 0) ≡ rot_word (le_bytes 4 (get_or l k 0))

pub turned_more : (l : List ℕ) (i x : ℕ) → 256 ≤ i → i < length l → le_bytes 4 x ≡ rot_word (le_bytes 4 (get_or l (i - 256) 0)) → TurnedTo i l
    → TurnedTo (i + 1) (set l i x)
turned_more l i x low fits e old k h = ⊎_elim same below (eq-or-lt_of_le (le k h))
  where
    le : (k : ℕ) → 256 + k < i + 1 → 256 + k ≤ i
    le k h = omega arith

    before : get_or (set l i x) k 0 ≡ get_or l k 0
    before = get_or-set_other l i k x 0 (λ p. omega arith)

    same : 256 + k ≡ i → le_bytes 4 (get_or (set l i x) (256 + k) 0) ≡ rot_word (le_bytes 4 (get_or (set l i x) k 0))
    same p =
        let q : i - 256 ≡ k = omega arith in
        ap (λ (j : ℕ). le_bytes 4 (get_or (set l i x) j 0)) p
        ∙ ap (le_bytes 4) (get_or-set_same l i x 0 fits)
        ∙ e
        ∙ ap (λ (j : ℕ). rot_word (le_bytes 4 (get_or l j 0))) q
        ∙ ap (λ (y : ℕ). rot_word (le_bytes 4 y)) (sym before)

    below : 256 + k < i → le_bytes 4 (get_or (set l i x) (256 + k) 0) ≡ rot_word (le_bytes 4 (get_or (set l i x) k 0))
    below p =
        ap (le_bytes 4) (get_or-set_other l i (256 + k) x 0 (λ q. omega arith)) ∙ old k p ∙ ap (λ (y : ℕ). rot_word (le_bytes 4 y)) (sym before)

-- table by table
pub filled_tables : (t l : List ℕ) → ((k : ℕ) → k < 256 → get_or l k 0 ≡ get_or t k 0) → TurnedTo 1024 l → Turned t l
filled_tables t l front rule zero k h b =
    let e : 256 * 0 + k ≡ k = omega arith in
    ap (λ (j : ℕ). le_bytes 4 (get_or l j 0)) e ∙ ap (le_bytes 4) (front k b)
filled_tables t l front rule (suc n) k h b =
    let e : 256 * suc n + k ≡ 256 + (256 * n + k) = omega arith in
    ap (λ (j : ℕ). le_bytes 4 (get_or l j 0)) e
    ∙ rule (256 * n + k) (omega arith)
    ∙ ap rot_word (filled_tables t l front rule n k (omega arith) b)

-- ---- a column

module _ (t l : List ℕ) (rule : Turned t l) where
  entry_turned : (n k : ℕ) {x j : ℕ} → n < 4 → k < 256 → x ≡ get_or l j 0 → j ≡ 256 * n + k → le_bytes 4 x ≡ turns n (entry_bytes t k)
  entry_turned n k h b e p = ap (le_bytes 4) (e ∙ ap (λ (i : ℕ). get_or l i 0) p) ∙ rule n k h b

  pub turned_column : (a b c d x y z w : ℕ) {i j m n : ℕ} → a < 256 → b < 256 → c < 256 → d < 256
      → x ≡ get_or l i 0 → i ≡ a → y ≡ get_or l j 0 → j ≡ 256 + d → z ≡ get_or l m 0 → m ≡ 512 + c → w ≡ get_or l n 0 → n ≡ 768 + b
      → le_bytes 4 (bit_xor (bit_xor (bit_xor x y) z) w) ≡ table_column t (a ∷ b ∷ c ∷ d ∷ [])
  unfolding table_column
  turned_column a b c d x y z w {i} {j} {m} {n} ha hb hc hd ex pi ey pj ez pm ew pn =
      summed x y z w (entry_bytes t d) (entry_bytes t c) (entry_bytes t b) (entry_turned 1 d (omega arith) hd ey (omega arith))
      (entry_turned 2 c (omega arith) hc ez (omega arith)) (entry_turned 3 b (omega arith) hb ew (omega arith))
      ∙ ap (λ (e : List ℕ). staggered e (entry_bytes t d) (entry_bytes t c) (entry_bytes t b)) (entry_turned 0 a (omega arith) ha ex (omega arith))
