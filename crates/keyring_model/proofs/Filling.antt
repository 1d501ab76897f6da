-- A record that was on no chain filled and put at the head of its chain: that chain has it in front, and every other chain stays.
-- Assumes nothing.
use mathlib.Core.Path.{◌≡◌, refl, sym, ap, ap₂, subst, ◌∙◌}
use mathlib.Core.Bool.{Bool, true, false, not}
use mathlib.Core.List.{List, [], ◌∷◌, ◌++◌}
use mathlib.Core.Option.{some}
use Prim.Native.Nat.{ℕ, zero, suc, ◌+◌, ◌-◌, ◌*◌, ◌/◌, ◌%◌, ◌≤◌, ◌<◌}
use native.Mathlib.Omega.{arith}
use lib.Dec.{eqb}
use lib.ListN.{length, get_or, take, drop, length-append, get_or-append}
use lib.Seq.{sets, length-sets, get_or-append-add}
use borrow.Author.Tests.{eqb-true, eqb-false, not-true}
use Rattle.bits.specs.Bytes.{alike}
use Rattle.bits.specs.Words.{le_bytes}
use Rattle.bits.proofs.Lists.{alike_self}
use Rattle.keyring_model.specs.Records.{records, head_of, next_of, kind_of, zero_of, label_of, zero_filled, handle_of, head_for}
use Rattle.keyring_model.specs.Chains.{chain, chain_of, reached_from, reached, member, distinct}
use Rattle.keyring_model.specs.Lookup.{first_with, first_on_chain}
use Rattle.keyring_model.specs.Add.{free, kind_for, record_bytes, put_record}
use Rattle.keyring_model.proofs.Walks.{chain-cons, first_match, first_other}
use Rattle.keyring_model.proofs.Facts.{Fields, fields, valid_fields, valid_once}
use Rattle.keyring_model.proofs.Counts.{same, same_self, same_other, count, count-append, counted, uncounted, no_member, distinct-count, count-distinct, distinct_cons, below_cons}
use Rattle.keyring_model.proofs.Pigeonhole.{at_most}
use Rattle.keyring_model.proofs.Inside.{Record, on_chain}
use Rattle.keyring_model.proofs.Fuel.{fuel, chain_part, zero-distinct, zero_below, chain_few}
use Rattle.keyring_model.proofs.Frames.{sets_kept, sets_written, Accepted, OutsideRecord, record_size, record_kept, record_length}
use Rattle.keyring_model.proofs.Finding.{alike_other, first_found, first_frame, chain_frame, lowest_found, part_is, handle_is, Kept, index_kept, label_kept}
use Rattle.keyring_model.proofs.Changes.{Changed}

-- one chain of b' has i in front, the others are those of b: what adds up over joined lists grows by what i alone gives
module _ (μ : List ℕ → ℕ) (add : (l m : List ℕ) → μ (l ++ m) ≡ μ l + μ m) (b b' : List ℕ) (q i : ℕ)
    (others : (k : ℕ) → k < 16 → (k ≡ q → ⊥) → chain_of b' k ≡ chain_of b k) (grown : chain_of b' q ≡ i ∷ chain_of b q) where
  before : (n : ℕ) → n ≤ 16 → n ≤ q → μ (reached_from n b') ≡ μ (reached_from n b)
  unfolding reached_from
  before zero h k = refl
  before (suc n) h k =
      omega (
        arith,
        before n (omega arith) (omega arith),
        ap μ (others n (omega arith) (λ e. omega arith)),
        add (reached_from n b') (chain_of b' n),
        add (reached_from n b) (chain_of b n),
      )

  after : (n : ℕ) → n ≤ 16 → q < n → μ (reached_from n b') ≡ μ (i ∷ []) + μ (reached_from n b)
  unfolding reached_from
  after zero h k = absurd (omega arith)
  after (suc n) h k = go (after n (omega arith)) (eqb n q) refl
    where
      go : (q < n → μ (reached_from n b') ≡ μ (i ∷ []) + μ (reached_from n b)) → (t : Bool) → eqb n q ≡ t
          → μ (reached_from n b' ++ chain_of b' n) ≡ μ (i ∷ []) + μ (reached_from n b ++ chain_of b n)
      go r true e =
          let p : n ≡ q = eqb-true n q e in
          let g : chain_of b' n ≡ i ∷ chain_of b n = subst (λ (k : ℕ). chain_of b' k ≡ i ∷ chain_of b k) (sym p) grown in
          omega (
            arith,
            before n (omega arith) (omega arith),
            ap μ g,
            add (i ∷ []) (chain_of b n),
            add (reached_from n b') (chain_of b' n),
            add (reached_from n b) (chain_of b n),
          )
      go r false e =
          let f : n ≡ q → ⊥ = eqb-false n q e in
          omega (arith, r (omega arith), ap μ (others n (omega arith) f), add (reached_from n b') (chain_of b' n), add (reached_from n b) (chain_of b n))

  reached_grows : q < 16 → μ (reached b') ≡ μ (i ∷ []) + μ (reached b)
  reached_grows h = after 16 (omega arith) h

module _ (b l h : List ℕ) (i : ℕ) (a : Accepted b l h) (spare : free b ≡ some i) where
  abbrev b' : List ℕ
  b' = put_record b i l h

  abbrev q : ℕ
  q = head_for l

  abbrev bytes : List ℕ
  bytes = record_bytes (head_of b q) l h

  old : Fields b
  old = fields b (valid_fields b a.keyring)

  q_small : q < 16
  q_small = omega arith

  lowest_is : (not (member i (reached b)) ≡ true) × (1 ≤ i) × (i < 1 + (records b - 1))
  lowest_is = lowest_found (λ i. not (member i (reached b))) (records b - 1) 1 i spare

  off : member i (reached b) ≡ false
  off = not-true (member i (reached b)) lowest_is.0

  place : Record b i
  place = (lowest_is.1, omega (arith, lowest_is.2, old.sized.some))

  not_on : (k : ℕ) → k < 16 → member i (chain_of b k) ≡ true → ⊥
  not_on k h e = omega (arith, counted i (chain_of b k) e, uncounted i (reached b) off, chain_part (count i) (count-append i) b 16 k h)

  same_size : length b' ≡ length b
  same_size = record_length b l h i

  fits : i * 80 + 80 ≤ length b
  fits = omega (arith, old.sized.size, place.1)

  -- ---- the bytes

  kept : (j : ℕ) → OutsideRecord l i j → get_or b' j 0 ≡ get_or b j 0
  kept = record_kept b l h i a.label a.handle

  written : (k : ℕ) → k < 80 → get_or b' (i * 80 + k) 0 ≡ get_or bytes k 0
  unfolding put_record
  written k p =
      let size : length bytes ≡ 80 = record_size (head_of b q) l h a.label a.handle.filled in
      sets_kept (sets b (i * 80) bytes) (q * 2) (le_bytes 2 i) (i * 80 + k) (λ x y. omega (arith, place.0, q_small))
      ∙ sets_written b (i * 80) bytes k (omega (arith, fits)) (omega arith)

  label : label_of b' i ≡ l
  label =
      ap (λ (n : ℕ). take n (drop (i * 80 + 4) b')) (sym a.label)
      ∙ part_is b' (i * 80 + 4) l (omega (arith, fits, same_size, a.label))
      (λ k p. let e : i * 80 + 4 + k ≡ i * 80 + suc (suc (suc (suc k))) = omega arith in
      ap (λ (j : ℕ). get_or b' j 0) e ∙ written (suc (suc (suc (suc k)))) (omega (arith, a.label))
      ∙ get_or-append l (zero_filled h) 0 k p)

  next : next_of b' i ≡ head_of b q
  next =
      let e : i * 80 ≡ i * 80 + 0 = omega arith in
      let w0 : get_or b' (i * 80) 0 ≡ head_of b q % 256 = ap (λ (j : ℕ). get_or b' j 0) e ∙ written 0 (omega arith) in
      let w1 : get_or b' (i * 80 + 1) 0 ≡ head_of b q / 256 % 256 = written 1 (omega arith) in
      omega (arith, w0, w1, old.head q q_small, old.sized.most)

  kind : kind_of b' i ≡ kind_for h
  kind = written 2 (omega arith)

  zero_byte : zero_of b' i ≡ 0
  zero_byte = written 3 (omega arith)

  handle : handle_of b' i ≡ zero_filled h
  handle = handle_is b' h i a.handle (omega (arith, fits, same_size)) kind
      (λ k p. let e : i * 80 + 16 + k ≡ i * 80 + suc (suc (suc (suc (length l + k)))) = omega (arith, a.label) in
      ap (λ (j : ℕ). get_or b' j 0) e ∙ written (suc (suc (suc (suc (length l + k))))) (omega (arith, a.label))
      ∙ get_or-append-add l (zero_filled h) k 0)

  head_new : head_of b' q ≡ i
  unfolding put_record
  head_new =
      let c : List ℕ = sets b (i * 80) bytes in
      let size : q * 2 + 2 ≤ length c = rw length-sets (omega (arith, fits, place.0, q_small)) in
      let e : q * 2 ≡ q * 2 + 0 = omega arith in
      let w0 : get_or b' (q * 2) 0 ≡ i % 256
      = ap (λ (j : ℕ). get_or b' j 0) e ∙ sets_written c (q * 2) (le_bytes 2 i) 0 size (omega arith) in
      let w1 : get_or b' (q * 2 + 1) 0 ≡ i / 256 % 256 = sets_written c (q * 2) (le_bytes 2 i) 1 size (omega arith) in
      omega (arith, w0, w1, place.1, old.sized.most)

  others : (j : ℕ) → Record b j → (j ≡ i → ⊥) → Kept b b' (j * 80) 80
  others j r f p x y = kept p ((λ s t. omega arith), (λ s t. omega (arith, r.0, q_small)))

  head_other : (k : ℕ) → k < 16 → (k ≡ q → ⊥) → head_of b' k ≡ head_of b k
  head_other k h f = index_kept b b' (k * 2) (λ p x y. kept p ((λ s t. omega (arith, place.0)), (λ s t. omega arith)))

  -- ---- the chains

  same_next : (k : ℕ) → k < 16 → (j : ℕ) → member j (chain_of b k) ≡ true → next_of b' j ≡ next_of b j
  same_next k h j e =
      let r : Record b j = on_chain b old (records b) (head_of b k) j (old.head k h) e in
      let f : j ≡ i → ⊥ = λ p. not_on k h (subst (λ (m : ℕ). member m (chain_of b k) ≡ true) p e) in
      index_kept b b' (j * 80) (λ p x y. others j r f p x (omega arith))

  same_count : records b' ≡ records b
  same_count = ap (λ (n : ℕ). n / 80) same_size

  chain_other : (k : ℕ) → k < 16 → (k ≡ q → ⊥) → chain_of b' k ≡ chain_of b k
  chain_other k h f =
      ap₂ (λ (n i : ℕ). chain n b' i) same_count (head_other k h f) ∙ chain_frame b b' (records b) (head_of b k) (same_next k h)

  -- record 0, record i and those on the chains
  two_more : length (reached b) + 2 ≤ records b
  two_more =
      omega (
        arith,
        at_most (records b) (i ∷ 0 ∷ reached b) (distinct_cons i (0 ∷ reached b) out (zero-distinct b a.keyring))
            (below_cons (records b) i (0 ∷ reached b) place.1 (zero_below b a.keyring)),
      )
    where
      out : member i (0 ∷ reached b) ≡ false
      out = no_member i (0 ∷ reached b) (omega (arith, same_other i 0 (λ e. omega (arith, place.0)), uncounted i (reached b) off))

  chain_new : chain_of b' q ≡ i ∷ chain_of b q
  chain_new =
      let short : length (chain_of b q) < records b - 1 = omega (arith, two_more, chain_part length length-append b 16 q q_small) in
      let cut : chain (records b - 1) b (head_of b q) ≡ chain_of b q
      = fuel b (records b) (records b - 1) (head_of b q) (chain_few b a.keyring q q_small) short in
      ap₂ (λ (n i : ℕ). chain n b' i) same_count head_new
      ∙ chain-cons b' (records b) i (λ e. omega (arith, place.0)) (omega (arith, place.1))
      ∙ ap (λ (k : ℕ). i ∷ chain (records b - 1) b' k) next
      ∙ ap (λ (c : List ℕ). i ∷ c)
      (chain_frame b b' (records b - 1) (head_of b q) (λ j e. same_next q q_small j (ap (member j) (sym cut) ∙ e)) ∙ cut)

  grows : (μ : List ℕ → ℕ) → ((l m : List ℕ) → μ (l ++ m) ≡ μ l + μ m) → μ (reached b') ≡ μ (i ∷ []) + μ (reached b)
  grows μ add = reached_grows μ add b b' q i chain_other chain_new q_small

  once : distinct (reached b') ≡ true
  once = count-distinct (reached b') (λ j. go j (eqb j i) refl)
    where
      go : (j : ℕ) (t : Bool) → eqb j i ≡ t → count j (reached b') ≤ 1
      go j true e =
          let p : count j (reached b) ≡ 0 = ap (λ (k : ℕ). count k (reached b)) (eqb-true j i e) ∙ uncounted i (reached b) off in
          let s : same j i ≡ 1 = ap (λ (k : ℕ). same k i) (eqb-true j i e) ∙ same_self i in
          omega (arith, grows (count j) (count-append j))
      go j false e =
          omega (arith, grows (count j) (count-append j), same_other j i (eqb-false j i e), distinct-count (reached b) (valid_once b a.keyring) j)

  -- one record more is on a chain
  pub reached_more : length (reached (put_record b i l h)) ≡ suc (length (reached b))
  reached_more = omega (arith, grows length length-append)

  -- ---- the searches

  first_same : (l' : List ℕ) (k : ℕ) → k < 16 → first_with b' l' (chain_of b k) ≡ first_with b l' (chain_of b k)
  first_same l' k h =
      first_frame b b' l' (chain_of b k)
      (λ j e. let r : Record b j = on_chain b old (records b) (head_of b k) j (old.head k h) e in
      label_kept b b' same_size j
      (λ p x y. others j r (λ s. not_on k h (subst (λ (m : ℕ). member m (chain_of b k) ≡ true) s e)) p (omega arith) (omega arith)))

  search_other : (l' : List ℕ) → (l' ≡ l → ⊥) → first_on_chain b' l' ≡ first_on_chain b l'
  search_other l' f = go (eqb (head_for l') q) refl
    where
      small : head_for l' < 16
      small = omega arith

      go : (t : Bool) → eqb (head_for l') q ≡ t → first_on_chain b' l' ≡ first_on_chain b l'
      go true e =
          let p : head_for l' ≡ q = eqb-true (head_for l') q e in
          ap (first_with b' l') (subst (λ (k : ℕ). chain_of b' k ≡ i ∷ chain_of b k) (sym p) chain_new)
          ∙ first_other b' l' i (chain_of b (head_for l'))
          (ap (λ (m : List ℕ). alike m l') label ∙ alike_other l l' (λ s. f (sym s)))
          ∙ first_same l' (head_for l') small
      go false e =
          ap (first_with b' l') (chain_other (head_for l') small (eqb-false (head_for l') q e)) ∙ first_same l' (head_for l') small

  search_new : first_on_chain b' l ≡ some i
  search_new =
      ap (first_with b' l) chain_new
      ∙ first_match b' l i (chain_of b q) (ap (λ (m : List ℕ). alike m l) label ∙ alike_self l)

  heads_in : (k : ℕ) → k < 16 → head_of b' k < records b
  heads_in k h = go (eqb k q) refl
    where
      go : (t : Bool) → eqb k q ≡ t → head_of b' k < records b
      go true e = subst (λ (k : ℕ). head_of b' k < records b) (sym (eqb-true k q e)) (omega (arith, head_new, place.1))
      go false e = omega (arith, head_other k h (eqb-false k q e), old.head k h)

  -- all that was changed
  pub filling : Changed b (put_record b i l h) l h i
  filling =
      record {
        size = same_size;
        place = place;
        head = heads_in;
        tail = λ p x y. kept p ((λ s t. omega (arith, place.0)), (λ s t. omega (arith, q_small)));
        others = others;
        next = omega (arith, next, old.head q q_small);
        kind = kind;
        kind_small = a.handle.kind;
        zero = zero_byte;
        handle = handle;
        once = once;
        found = search_new;
        searches = search_other;
        elsewhere = λ l' f e. not_on (head_for l') (omega arith) (first_found b l' (chain_of b (head_for l')) i e).0;
      }
