-- The three ways through a turn of the search: the chain has ended, the record has the label, or another label.
-- Assumes nothing.
use mathlib.Core.Path.{◌≡◌, refl, sym, ap, ◌∙◌}
use mathlib.Core.Bool.{Bool, true, false}
use mathlib.Core.List.{List, ◌∷◌}
use mathlib.Core.Option.{none, some}
use Prim.Native.Nat.{ℕ, ◌+◌, ◌*◌, ◌-◌, ◌<◌, ◌≤◌}
use native.Mathlib.Omega.{arith}
use lib.ListN.{length, drop, get_or, length-take, length-drop}
use lib.Seq.{ext_get_or, get_or-take, get_or-drop}
use Rattle.bits.specs.Bytes.{alike}
use Rattle.bits.proofs.Choice.{true-T}
use Rattle.bits.proofs.Lists.{alike-eq, alike_self}
use Rattle.keyring_model.specs.Records.{next_of, label_of}
use Rattle.keyring_model.specs.Chains.{chain}
use Rattle.keyring_model.specs.Lookup.{first_with}
use Rattle.keyring_model.proofs.Walks.{chain_end, chain_empty, chain-cons, first_nil, first_match, first_other}

-- ---- a record's label, byte by byte

module _ (b : List ℕ) (i : ℕ) where
  label_at : (k : ℕ) → k < 12 → get_or (label_of b i) k 0 ≡ get_or b (i * 80 + 4 + k) 0
  label_at k h = get_or-take 12 (drop (i * 80 + 4) b) k 0 h ∙ get_or-drop (i * 80 + 4) b k 0

  label_length : i * 80 + 80 ≤ length b → length (label_of b i) ≡ 12
  label_length h = simp (length-take, length-drop) (omega arith)

  same_label : (l : List ℕ) → length l ≡ 12 → i * 80 + 80 ≤ length b → ((k : ℕ) → k < 12 → get_or b (i * 80 + 4 + k) 0 ≡ get_or l k 0)
      → alike (label_of b i) l ≡ true
  same_label l e h f =
      let p : label_of b i ≡ l
      = ext_get_or 0 (label_of b i) l (label_length h ∙ sym e)
      (λ k h'. let g : k < 12 = omega (arith, label_length h) in label_at k g ∙ f k g)
      in ap (λ (x : List ℕ). alike x l) p ∙ alike_self l

  other_label : (l : List ℕ) (k : ℕ) → k < 12 → (get_or b (i * 80 + 4 + k) 0 ≡ get_or l k 0 → ⊥) → alike (label_of b i) l ≡ false
  other_label l k h f = go (alike (label_of b i) l) refl
    where
      go : (t : Bool) → alike (label_of b i) l ≡ t → t ≡ false
      go true e = absurd (f (sym (label_at k h) ∙ ap (λ (x : List ℕ). get_or x k 0) (alike-eq (label_of b i) l (true-T (alike (label_of b i) l) e))))
      go false e = refl

-- ---- the turns

module _ (b l : List ℕ) (n i : ℕ) where
  pub ended : i ≡ 0 → first_with b l (chain n b i) ≡ none
  ended e = ap (first_with b l) (chain_end b n i e) ∙ first_nil b l

  pub used_up : n ≡ 0 → first_with b l (chain n b i) ≡ none
  used_up e = ap (first_with b l) (chain_empty b n i e) ∙ first_nil b l

  module _ (there : i ≡ 0 → ⊥) (left : n ≡ 0 → ⊥) where
    goes : chain n b i ≡ i ∷ chain (n - 1) b (next_of b i)
    goes = chain-cons b n i there (omega (arith, left))

    -- the first differing byte
    pub turned : (j : ℕ) → j < 12 → (get_or b (i * 80 + 4 + j) 0 ≡ get_or l j 0 → ⊥)
        → first_with b l (chain (n - 1) b (next_of b i)) ≡ first_with b l (chain n b i)
    turned j h f =
        sym (ap (first_with b l) goes ∙ first_other b l i (chain (n - 1) b (next_of b i)) (other_label b i l j h f))

    -- a full match
    pub matched : length l ≡ 12 → i * 80 + 80 ≤ length b → ((k : ℕ) → k < 12 → get_or b (i * 80 + 4 + k) 0 ≡ get_or l k 0)
        → some i ≡ first_with b l (chain n b i)
    matched e h f =
        sym (ap (first_with b l) goes ∙ first_match b l i (chain (n - 1) b (next_of b i)) (same_label b i l e h f))
