-- Refusal 15 in the order of the code: the size, the other fields, the chains.
-- Assumes nothing.
use mathlib.Core.Path.{◌≡◌, refl, sym, ap, ap₂, ◌∙◌}
use mathlib.Core.Bool.{Bool, true, false, not, ◌&&◌, ◌||◌, and-true, and-false, and_assoc}
use mathlib.Core.List.{List}
use mathlib.Core.Option.{Option, none, some}
use Prim.Native.Nat.{ℕ, ◌+◌, ◌-◌, ◌*◌, ◌<◌, ◌≤◌}
use native.Mathlib.Omega.{arith}
use lib.Dec.{eqb, ltb}
use lib.ListN.{length, get_or, take, drop}
use lib.Seq.{get_or-take, get_or-drop}
use borrow.Author.Tests.{eqb-true, eqb-false, le-ltb}
use Rattle.keyring_model.specs.Records.{records, index_at, next_of, kind_of, zero_of}
use Rattle.keyring_model.specs.Chains.{reached, member, distinct}
use Rattle.keyring_model.specs.Validity.{every, record_valid, records_valid, valid, fields_valid}
use Rattle.keyring_model.proofs.Walks.{every-none, every_more, every-not}
use Rattle.keyring_model.proofs.Counts.{Below}
use Rattle.keyring_model.proofs.Facts.{Fields, fields}
use Rattle.keyring_model.proofs.Inside.{on_reached}
use Rattle.keyring_validity.specs.Marks.{Unmarked, marked, Gives, Checked}
use Rattle.keyring_validity.proofs.Marking.{given_some}
use Rattle.keyring_validity.proofs.Distinct.{went, went-distinct, marked_tells}

-- ---- a test of every number

pub every_start : (p : ℕ → Bool) → true ≡ every 0 p
every_start p = sym (every-none p)

-- the records behind record 0, one by one
module _ (b : List ℕ) (n i : ℕ) (t : Bool) (e : every (i - 1) (λ k. record_valid b (k + 1)) ≡ true) (f : t ≡ record_valid b i) where
  pub every_one_more : 1 ≤ i → t ≡ true → every (i + 1 - 1) (λ k. record_valid b (k + 1)) ≡ true
  every_one_more h g =
      let p : i + 1 - 1 ≡ i - 1 + 1 = omega arith in
      let q : i - 1 + 1 ≡ i = omega arith in
      ap (λ n. every n (λ k. record_valid b (k + 1))) p
      ∙ sym (every_more (λ k. record_valid b (k + 1)) (i - 1) true true (sym e) (sym g ∙ f ∙ ap (record_valid b) (sym q)))

  pub one_fails : n ≡ records b → 1 ≤ i → i < n → t ≡ false → false ≡ records_valid b
  one_fails p h k g =
      let q : i - 1 + 1 ≡ i = omega arith in
      sym (every-not (records b - 1) (λ k. record_valid b (k + 1)) (i - 1) (omega arith) (ap (record_valid b) q ∙ sym f ∙ g))

pub tail_byte : (b : List ℕ) (j : ℕ) → j < 48 → get_or (take 48 (drop 32 b)) j 0 ≡ get_or b (32 + j) 0
tail_byte b j h = get_or-take 48 (drop 32 b) j 0 h ∙ get_or-drop 32 b j 0

-- ---- a record

-- kind and zero byte as one number
pub kind_zero : (k z : ℕ) → ltb (k + 256 * z) 2 ≡ (ltb k 2 && eqb z 0)
kind_zero k z = go (eqb z 0) refl
  where
    go : (t : Bool) → eqb z 0 ≡ t → ltb (k + 256 * z) 2 ≡ (ltb k 2 && t)
    go true e =
        let p : k + 256 * z ≡ k = omega (arith, eqb-true z 0 e) in
        ap (λ (x : ℕ). ltb x 2) p ∙ sym (and-true (ltb k 2))
    go false e = le-ltb (k + 256 * z) 2 (let f : z ≡ 0 → ⊥ = eqb-false z 0 e in omega arith) ∙ sym (and-false (ltb k 2))

-- the next index, and these
pub record_told : (b : List ℕ) (i n next both : ℕ) → n ≡ records b → next ≡ index_at b (i * 80) → both ≡ index_at b (i * 80 + 2)
    → (ltb next n && ltb both 2) ≡ record_valid b i
record_told b i n next both e p q =
    let at : i * 80 + 2 + 1 ≡ i * 80 + 3 = omega arith in
    ap₂ (λ (x y : ℕ). ltb x y && ltb both 2) p e
    ∙ ap (λ (t : Bool). ltb (next_of b i) (records b) && t)
    (ap (λ (x : ℕ). ltb x 2) q ∙ ap (λ (j : ℕ). ltb (kind_of b i + 256 * get_or b j 0) 2) at ∙ kind_zero (kind_of b i) (zero_of b i))
    ∙ sym (and_assoc (ltb (next_of b i) (records b)) (ltb (kind_of b i) 2) (eqb (zero_of b i) 0))

-- ---- the whole block

module _ (b : List ℕ) where
  pub wrong_field : (m : List ℕ) → fields_valid b ≡ false → Checked b m false
  unfolding valid
  wrong_field m e =
      record {
        tells = sym (ap (λ (t : Bool). t && distinct (reached b)) e);
        marks = λ e. absurd (let z : ◌≡◌ {A = ℕ} 0 1 = cc in omega arith);
      }

  module _ (right : fields_valid b ≡ true) (m : List ℕ) (unmarked : Unmarked m) where
    below : Below (length m) (reached b)
    below j e =
        let f : Fields b = fields b right in
        omega (arith, (on_reached b f j e).1, unmarked.many)

    given_went : (m' : List ℕ) (r : Bool) (o : Option (List ℕ)) → Gives r m' o → r ≡ went o
    given_went m' r none g = g
    given_went m' r (some l) g = g.0

    -- the chains decide
    pub chains_decide : (m' : List ℕ) (r : Bool) → Gives r m' (marked m (reached b)) → Checked b m' r
    unfolding valid
    chains_decide m' r g =
        record {
          tells =
              given_went m' r (marked m (reached b)) g ∙ went-distinct (reached b) m below (λ i e. unmarked.clear i (on_reached b (fields b right) i e).0)
              ∙ sym (ap (λ (t : Bool). t && distinct (reached b)) right);
          marks =
              λ e i h.
              marked_tells (reached b) m m' below (given_some m' r (marked m (reached b)) g e) i
              ∙ ap (λ (x : ℕ). not (eqb x 0) || member i (reached b)) (unmarked.clear i h);
        }
