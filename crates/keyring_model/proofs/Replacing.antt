-- Handle and kind of a record that has the label replaced: every chain and every label stays.
-- Assumes nothing.
use mathlib.Core.Path.{◌≡◌, refl, sym, ap, ap₂, ◌∙◌}
use mathlib.Core.Bool.{true}
use mathlib.Core.List.{List, ◌++◌}
use mathlib.Core.Option.{some}
use Prim.Native.Nat.{ℕ, zero, suc, ◌+◌, ◌*◌, ◌/◌, ◌≤◌, ◌<◌}
use native.Mathlib.Omega.{arith}
use lib.ListN.{length, get_or, set, length-set}
use lib.Seq.{get_or-set_same}
use Rattle.keyring_model.specs.Records.{records, head_of, next_of, kind_of, label_of, zero_filled, handle_of, head_for}
use Rattle.keyring_model.specs.Chains.{chain, chain_of, reached_from, member, distinct}
use Rattle.keyring_model.specs.Lookup.{first_with, first_on_chain}
use Rattle.keyring_model.specs.Add.{kind_for, put_handle}
use Rattle.keyring_model.proofs.Facts.{Fields, fields, valid_fields, valid_once}
use Rattle.keyring_model.proofs.Inside.{Record, on_chain}
use Rattle.keyring_model.proofs.Frames.{sets_kept, sets_written, Accepted, OutsideHandle, handle_kept, handle-length}
use Rattle.keyring_model.proofs.Finding.{first_found, first_frame, chain_frame, handle_is, index_kept, label_kept}
use Rattle.keyring_model.proofs.Changes.{Changed}

module _ (b l h : List ℕ) (i : ℕ) (a : Accepted b l h) (found : first_on_chain b l ≡ some i) where
  abbrev b' : List ℕ
  b' = put_handle b i h

  old : Fields b
  old = fields b (valid_fields b a.keyring)

  head_small : head_for l < 16
  head_small = omega arith

  found_at : (member i (chain_of b (head_for l)) ≡ true) × (label_of b i ≡ l)
  found_at = first_found b l (chain_of b (head_for l)) i found

  place : Record b i
  place = on_chain b old (records b) (head_of b (head_for l)) i (old.head (head_for l) head_small) found_at.0

  same : length b' ≡ length b
  same = handle-length b l h i

  kept : (j : ℕ) → OutsideHandle i j → get_or b' j 0 ≡ get_or b j 0
  kept = handle_kept b h i a.handle

  fits : i * 80 + 80 ≤ length b
  fits = omega (arith, old.sized.size, place.1)

  kind : kind_of b' i ≡ kind_for h
  unfolding put_handle
  kind =
      sets_kept (set b (i * 80 + 2) (kind_for h)) (i * 80 + 16) (zero_filled h) (i * 80 + 2) (λ p q. omega arith)
      ∙ get_or-set_same b (i * 80 + 2) (kind_for h) 0 (omega (arith, fits))

  handle : handle_of b' i ≡ zero_filled h
  unfolding put_handle
  handle = handle_is b' h i a.handle (omega (arith, fits, same)) kind written
    where
      written : (k : ℕ) → k < 64 → get_or b' (i * 80 + 16 + k) 0 ≡ get_or (zero_filled h) k 0
      written k p =
          sets_written (set b (i * 80 + 2) (kind_for h)) (i * 80 + 16) (zero_filled h) k
          (rw length-set (omega (arith, fits, a.handle.filled))) (omega (arith, a.handle.filled))

  next_same : (j : ℕ) → next_of b' j ≡ next_of b j
  next_same j = index_kept b b' (j * 80) (λ p h k. kept p ((λ q r. omega arith), (λ q r. omega arith)))

  label_same : (j : ℕ) → label_of b' j ≡ label_of b j
  label_same j = label_kept b b' same j (λ p h k. kept p ((λ q r. omega arith), (λ q r. omega arith)))

  front : (p : ℕ) → p < 80 → get_or b' p 0 ≡ get_or b p 0
  front p h = kept p ((λ q r. omega (arith, place.0)), (λ q r. omega (arith, place.0)))

  head_same : (k : ℕ) → k < 16 → head_of b' k ≡ head_of b k
  head_same k h = index_kept b b' (k * 2) (λ p q r. front p (omega arith))

  chain_same : (k : ℕ) → k < 16 → chain_of b' k ≡ chain_of b k
  chain_same k h =
      ap₂ (λ (n i : ℕ). chain n b' i) (ap (λ (n : ℕ). n / 80) same) (head_same k h)
      ∙ chain_frame b b' (records b) (head_of b k) (λ j e. next_same j)

  reached_same : (n : ℕ) → n ≤ 16 → reached_from n b' ≡ reached_from n b
  unfolding reached_from
  reached_same zero h = refl
  reached_same (suc n) h = ap₂ (λ (x y : List ℕ). x ++ y) (reached_same n (omega arith)) (chain_same n (omega arith))

  search_same : (l' : List ℕ) → first_on_chain b' l' ≡ first_on_chain b l'
  search_same l' =
      let q : head_for l' < 16 = omega arith in
      ap (first_with b' l') (chain_same (head_for l') q) ∙ first_frame b b' l' (chain_of b (head_for l')) (λ j e. label_same j)

  -- all that was changed
  pub replacing : Changed b (put_handle b i h) l h i
  replacing =
      record {
        size = same;
        place = place;
        head = λ k p. omega (arith, head_same k p, old.head k p);
        tail = λ p q r. front p (omega arith);
        others = λ j q f p r s. kept p ((λ x y. omega arith), (λ x y. omega arith));
        next = omega (arith, next_same i, old.next i place.0 place.1);
        kind = kind;
        kind_small = a.handle.kind;
        zero = kept (i * 80 + 3) ((λ x y. omega arith), (λ x y. omega arith)) ∙ old.zero i place.0 place.1;
        handle = handle;
        once = ap distinct (reached_same 16 (omega arith)) ∙ valid_once b a.keyring;
        found = search_same l ∙ found;
        searches = λ l' f. search_same l';
        elsewhere = λ l' f e. f (sym (first_found b l' (chain_of b (head_for l')) i e).1 ∙ found_at.1);
      }
