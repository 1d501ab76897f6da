-- What both ways of adding do to a keyring, and what follows: it stays valid, the label is found, and every other answer stays.
-- Assumes nothing.
use mathlib.Core.Path.{◌≡◌, refl, sym, ap, ap₂, subst, ◌∙◌}
use mathlib.Core.Bool.{Bool, true, false, cond, ◌&&◌, and-eq-true_iff}
use mathlib.Core.List.{List}
use mathlib.Core.Option.{Option, none, some}
use Prim.Native.Nat.{ℕ, ◌+◌, ◌-◌, ◌*◌, ◌/◌, ◌%◌, ◌<◌}
use native.Mathlib.Omega.{arith}
use lib.Dec.{eqb, ltb, leb}
use lib.ListN.{length, get_or}
use borrow.Author.Tests.{eq-eqb, eqb-true, eqb-false, lt-ltb, le-leb}
use Rattle.bits.proofs.Choice.{cond_on}
use Rattle.keyring_model.specs.Records.{records, head_of, next_of, kind_of, zero_of, zero_filled, handle_of, head_for}
use Rattle.keyring_model.specs.Chains.{reached, distinct}
use Rattle.keyring_model.specs.Validity.{size_valid, heads_inside, tail_zero, record_valid, records_valid, valid, fields_valid}
use Rattle.keyring_model.specs.Lookup.{first_on_chain, Looked, unfound, looked, lookup}
use Rattle.keyring_model.specs.Add.{kind_for}
use Rattle.keyring_model.proofs.Walks.{every_all}
use Rattle.keyring_model.proofs.Facts.{Sized, Fields, fields, valid_fields}
use Rattle.keyring_model.proofs.Inside.{Record, on_chain}
use Rattle.keyring_model.proofs.Finding.{first_found, Kept, index_kept, looked_kept}

-- ---- validity from its parts

size_valid_lem : (b : List ℕ) → Sized b → size_valid b ≡ true
size_valid_lem b s =
    (and-eq-true_iff (leb 80 (length b) && leb (length b) 65520) (eqb (length b % 80) 0)).1 (
      (and-eq-true_iff (leb 80 (length b)) (leb (length b) 65520)).1
          (le-leb 80 (length b) (omega (arith, s.size, s.some)), le-leb (length b) 65520 (omega (arith, s.size, s.most))),
      eq-eqb (length b % 80) 0 (omega (arith, s.size)),
    )

record_valid_lem : (b : List ℕ) (i : ℕ) → next_of b i < records b → kind_of b i < 2 → zero_of b i ≡ 0 → record_valid b i ≡ true
record_valid_lem b i p q r =
    (and-eq-true_iff (ltb (next_of b i) (records b) && ltb (kind_of b i) 2) (eqb (zero_of b i) 0)).1 (
      (and-eq-true_iff (ltb (next_of b i) (records b)) (ltb (kind_of b i) 2)).1
          (lt-ltb (next_of b i) (records b) p, lt-ltb (kind_of b i) 2 q),
      eq-eqb (zero_of b i) 0 r,
    )

pub is_valid : (b : List ℕ) → Fields b → distinct (reached b) ≡ true → valid b ≡ true
unfolding valid
is_valid b f d =
    (and-eq-true_iff (fields_valid b) (distinct (reached b))).1 (
      (and-eq-true_iff (size_valid b && heads_inside b && tail_zero b) (records_valid b)).1 (
        (and-eq-true_iff (size_valid b && heads_inside b) (tail_zero b)).1 (
          (and-eq-true_iff (size_valid b) (heads_inside b)).1 (
            size_valid_lem b f.sized,
            every_all 16 (λ k. ltb (head_of b k) (records b)) (λ k h. lt-ltb (head_of b k) (records b) (f.head k h)),
          ),
          every_all 48 (λ j. eqb (get_or b (32 + j) 0) 0) (λ j h. eq-eqb (get_or b (32 + j) 0) 0 (f.tail j h)),
        ),
        every_all (records b - 1) (λ i. record_valid b (i + 1))
            (λ i h. let p : 0 < i + 1 = omega arith in let q : i + 1 < records b = omega arith in
            record_valid_lem b (i + 1) (f.next (i + 1) p q) (f.kind (i + 1) p q) (f.zero (i + 1) p q)),
      ),
      d,
    )

-- ---- a keyring b after label l was added with handle h, in record i

pub record Changed (b b' l h : List ℕ) (i : ℕ) : Type 0 where
  pub size : length b' ≡ length b
  pub place : Record b i
  pub head : (k : ℕ) → k < 16 → head_of b' k < records b
  pub tail : Kept b b' 32 48
  pub others : (j : ℕ) → Record b j → (j ≡ i → ⊥) → Kept b b' (j * 80) 80
  pub next : next_of b' i < records b
  pub kind : kind_of b' i ≡ kind_for h
  pub kind_small : kind_for h < 2
  pub zero : zero_of b' i ≡ 0
  pub handle : handle_of b' i ≡ zero_filled h
  pub once : distinct (reached b') ≡ true
  pub found : first_on_chain b' l ≡ some i
  pub searches : (l' : List ℕ) → (l' ≡ l → ⊥) → first_on_chain b' l' ≡ first_on_chain b l'
  pub elsewhere : (l' : List ℕ) → (l' ≡ l → ⊥) → first_on_chain b l' ≡ some i → ⊥

module _ (b b' l h : List ℕ) (i : ℕ) (v : valid b ≡ true) (c : Changed b b' l h i) where
  count_same : records b' ≡ records b
  count_same = ap (λ (n : ℕ). n / 80) c.size

  old : Fields b
  old = fields b (valid_fields b v)

  in_each : (j : ℕ) → 0 < j → j < records b → (next_of b' j < records b) × (kind_of b' j < 2) × (zero_of b' j ≡ 0)
  in_each j p q = go (eqb j i) refl
    where
      go : (t : Bool) → eqb j i ≡ t → (next_of b' j < records b) × (kind_of b' j < 2) × (zero_of b' j ≡ 0)
      go true e =
          subst (λ (j : ℕ). (next_of b' j < records b) × (kind_of b' j < 2) × (zero_of b' j ≡ 0)) (sym (eqb-true j i e))
          (c.next, omega (arith, c.kind, c.kind_small), c.zero)
      go false e =
          let kept : Kept b b' (j * 80) 80 = c.others j (p, q) (eqb-false j i e) in (
            omega (arith, index_kept b b' (j * 80) (λ p h k. kept p (omega arith) (omega arith)), old.next j p q),
            omega (arith, kept (j * 80 + 2) (omega arith) (omega arith), old.kind j p q),
            kept (j * 80 + 3) (omega arith) (omega arith) ∙ old.zero j p q,
          )

  -- valid again
  pub changed_valid : valid b' ≡ true
  changed_valid =
      is_valid b'
      (record {
        sized =
            record {
              size = omega (arith, c.size, count_same, old.sized.size);
              some = omega (arith, count_same, old.sized.some);
              most = omega (arith, count_same, old.sized.most);
            };
        head = λ k p. omega (arith, c.head k p, count_same);
        tail = λ j p. c.tail (32 + j) (omega arith) (omega arith) ∙ old.tail j p;
        next = λ j p q. omega (arith, (in_each j p (omega (arith, count_same))).0, count_same);
        kind = λ j p q. (in_each j p (omega (arith, count_same))).1;
        zero = λ j p q. (in_each j p (omega (arith, count_same))).2;
      })
      c.once

  -- the label found
  pub changed_found : length l ≡ 12 → lookup b' l ≡ record { number = 0; kind = kind_for h; handle = zero_filled h }
  unfolding lookup
  changed_found e =
      cond_on ((and-eq-true_iff (valid b') (eqb (length l) 12)).1 (changed_valid, eq-eqb (length l) 12 e)) (looked b' (first_on_chain b' l)) (unfound 15)
      ∙ ap (looked b') c.found
      ∙ ap₂ (λ (k : ℕ) (x : List ℕ). record { number = 0; kind = k; handle = x }) c.kind c.handle

  looked_same : (l' : List ℕ) → (l' ≡ l → ⊥) → looked b' (first_on_chain b l') ≡ looked b (first_on_chain b l')
  looked_same l' f = go (first_on_chain b l') refl
    where
      go : (o : Option ℕ) → first_on_chain b l' ≡ o → looked b' o ≡ looked b o
      go none e = refl
      go (some j) e =
          let q : head_for l' < 16 = omega arith in
          let at : Record b j = on_chain b old (records b) (head_of b (head_for l')) j (old.head (head_for l') q) (first_found b l' _ j e).0 in
          let not_i : j ≡ i → ⊥ = λ p. c.elsewhere l' f (e ∙ ap {B = Option ℕ} some p) in
          let s = looked_kept b b' c.size j (c.others j at not_i) in
          ap₂ (λ (k : ℕ) (x : List ℕ). record { number = 0; kind = k; handle = x }) s.0 s.1

  -- the answer for every other label
  pub changed_others : (l' : List ℕ) → (l' ≡ l → ⊥) → lookup b' l' ≡ lookup b l'
  unfolding lookup
  changed_others l' f =
      ap₂ (λ (t : Bool) (x : Looked). cond (t && eqb (length l') 12) x (unfound 15)) (changed_valid ∙ sym v)
      (ap (looked b') (c.searches l' f) ∙ looked_same l' f)
