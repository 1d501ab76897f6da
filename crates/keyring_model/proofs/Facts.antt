-- What is known of a block that refusal 15 does not meet.
-- Assumes nothing.
use mathlib.Core.Path.{◌≡◌, refl, sym, ap, ◌∙◌}
use mathlib.Core.Bool.{Bool, true, false, ◌&&◌}
use mathlib.Core.List.{List}
use Prim.Native.Nat.{ℕ, ◌+◌, ◌-◌, ◌*◌, ◌%◌, ◌<◌, ◌≤◌}
use native.Mathlib.Omega.{arith}
use lib.Dec.{eqb, ltb, leb}
use lib.ListN.{length, get_or}
use borrow.Author.Tests.{eqb-true, leb-true, ltb-true}
use Rattle.keyring_model.specs.Records.{records, head_of, next_of, kind_of, zero_of}
use Rattle.keyring_model.specs.Chains.{reached, distinct}
use Rattle.keyring_model.specs.Validity.{size_valid, heads_inside, tail_zero, record_valid, records_valid, fields_valid, valid}
use Rattle.keyring_model.proofs.Walks.{every_at}

-- the parts of a test that both hold
pub both : (a c : Bool) → (a && c) ≡ true → (a ≡ true) × (c ≡ true)
both true c e = (refl, e)
both false c e = absurd (let z : ◌≡◌ {A = ℕ} 0 1 = cc in omega arith)

pub record Sized (b : List ℕ) : Type 0 where
  pub size : length b ≡ records b * 80
  pub some : 1 ≤ records b
  pub most : records b ≤ 819

pub sized : (b : List ℕ) → size_valid b ≡ true → Sized b
sized b e =
    let p = both (leb 80 (length b) && leb (length b) 65520) (eqb (length b % 80) 0) e in
    let q = both (leb 80 (length b)) (leb (length b) 65520) p.0 in
    let least : 80 ≤ length b = leb-true 80 (length b) q.0 in
    let most : length b ≤ 65520 = leb-true (length b) 65520 q.1 in
    let even : length b % 80 ≡ 0 = eqb-true (length b % 80) 0 p.1 in
    record { size = omega arith; some = omega arith; most = omega arith }

-- all but "a record reached twice"
pub record Fields (b : List ℕ) : Type 0 where
  pub sized : Sized b
  pub head : (k : ℕ) → k < 16 → head_of b k < records b
  pub tail : (j : ℕ) → j < 48 → get_or b (32 + j) 0 ≡ 0
  pub next : (i : ℕ) → 0 < i → i < records b → next_of b i < records b
  pub kind : (i : ℕ) → 0 < i → i < records b → kind_of b i < 2
  pub zero : (i : ℕ) → 0 < i → i < records b → zero_of b i ≡ 0

record_facts : (b : List ℕ) (i : ℕ) → record_valid b i ≡ true → (next_of b i < records b) × (kind_of b i < 2) × (zero_of b i ≡ 0)
record_facts b i e =
    let p = both (ltb (next_of b i) (records b) && ltb (kind_of b i) 2) (eqb (zero_of b i) 0) e in
    let q = both (ltb (next_of b i) (records b)) (ltb (kind_of b i) 2) p.0 in
    (ltb-true (next_of b i) (records b) q.0, ltb-true (kind_of b i) 2 q.1, eqb-true (zero_of b i) 0 p.1)

pub fields : (b : List ℕ) → fields_valid b ≡ true → Fields b
fields b e =
    let p = both (size_valid b && heads_inside b && tail_zero b) (records_valid b) e in
    let q = both (size_valid b && heads_inside b) (tail_zero b) p.0 in
    let r = both (size_valid b) (heads_inside b) q.0 in
    record {
      sized = sized b r.0;
      head = λ k h. ltb-true (head_of b k) (records b) (every_at 16 (λ (k : ℕ). ltb (head_of b k) (records b)) r.1 k h);
      tail = λ j h. eqb-true (get_or b (32 + j) 0) 0 (every_at 48 (λ (j : ℕ). eqb (get_or b (32 + j) 0) 0) q.1 j h);
      next = λ i h k. (of_record i h k).0;
      kind = λ i h k. (of_record i h k).1;
      zero = λ i h k. (of_record i h k).2;
    }
  where
    of_record : (i : ℕ) → 0 < i → i < records b → (next_of b i < records b) × (kind_of b i < 2) × (zero_of b i ≡ 0)
    of_record i h k =
        let p = both (size_valid b && heads_inside b && tail_zero b) (records_valid b) e in
        let at : (i - 1) + 1 ≡ i = omega arith in
        record_facts b i
        (sym (ap (record_valid b) at) ∙ every_at (records b - 1) (λ (i : ℕ). record_valid b (i + 1)) p.1 (i - 1) (omega arith))

-- ---- a valid keyring

pub valid_fields : (b : List ℕ) → valid b ≡ true → fields_valid b ≡ true
unfolding valid
valid_fields b e = (both (fields_valid b) (distinct (reached b)) e).0

pub valid_once : (b : List ℕ) → valid b ≡ true → distinct (reached b) ≡ true
unfolding valid
valid_once b e = (both (fields_valid b) (distinct (reached b)) e).1
