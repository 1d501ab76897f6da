-- What the first record with a label and the lowest number with a test are, and that a part of the block decides them.
-- Assumes nothing.
use mathlib.Core.Path.{◌≡◌, refl, sym, ap, ap₂, ◌∙◌}
use mathlib.Core.Bool.{Bool, true, false, cond, ◌||◌}
use mathlib.Core.List.{List, [], ◌∷◌}
use mathlib.Core.Option.{Option, none, some}
use Prim.Native.Nat.{ℕ, zero, suc, ◌+◌, ◌*◌, ◌-◌, ◌≤◌, ◌<◌, min}
use native.Mathlib.Omega.{arith}
use lib.Dec.{eqb}
use lib.ListN.{length, get_or, take, drop, length-take, length-drop, get_or-append}
use lib.Seq.{ext_get_or, get_or-take, get_or-drop}
use borrow.Author.Tests.{eq-eqb, eqb-true, eqb-false}
use Rattle.bits.specs.Bytes.{alike}
use Rattle.bits.proofs.Choice.{true-T}
use Rattle.bits.proofs.Lists.{alike-eq}
use Rattle.keyring_model.specs.Records.{next_of, kind_of, label_of, handle_size, zero_filled, handle_of}
use Rattle.keyring_model.specs.Chains.{chain, member}
use Rattle.keyring_model.specs.Lookup.{first_with}
use Rattle.keyring_model.specs.Add.{lowest, kind_for}
use Rattle.keyring_model.proofs.Frames.{Handle}

-- ---- members

pub member_head : (i : ℕ) (c : List ℕ) → member i (i ∷ c) ≡ true
unfolding member
member_head i c = ap (λ (t : Bool). t || member i c) (eq-eqb i i refl)

pub member_tail : (i j : ℕ) (c : List ℕ) → member j c ≡ true → member j (i ∷ c) ≡ true
unfolding member
member_tail i j c e = ap (λ (t : Bool). eqb j i || t) e ∙ go (eqb j i)
  where
    go : (t : Bool) → (t || true) ≡ true
    go true = refl
    go false = refl

-- ---- labels

pub alike_other : (l m : List ℕ) → (l ≡ m → ⊥) → alike l m ≡ false
alike_other l m f = go (alike l m) refl
  where
    go : (t : Bool) → alike l m ≡ t → t ≡ false
    go true e = absurd (f (alike-eq l m (true-T (alike l m) e)))
    go false e = refl

pub first_found : (b l c : List ℕ) (i : ℕ) → first_with b l c ≡ some i → (member i c ≡ true) × (label_of b i ≡ l)
unfolding first_with
first_found b l [] i e = absurd (let z : ◌≡◌ {A = ℕ} 0 1 = cc in omega arith)
first_found b l (j ∷ c) i e = go (first_found b l c i) (alike (label_of b j) l) refl e
  where
    go : (first_with b l c ≡ some i → (member i c ≡ true) × (label_of b i ≡ l)) → (t : Bool) → alike (label_of b j) l ≡ t
        → cond t (some j) (first_with b l c) ≡ some i → (member i (j ∷ c) ≡ true) × (label_of b i ≡ l)
    go r true p e =
        let q : j ≡ i = cc in
        (ap (λ (k : ℕ). member i (k ∷ c)) q ∙ member_head i c, ap (label_of b) (sym q) ∙ alike-eq (label_of b j) l (true-T (alike (label_of b j) l) p))
    go r false p e = let s = r e in (member_tail j i c s.0, s.1)

-- where the labels are the same, so is the record found
pub first_frame : (b b' l c : List ℕ) → ((j : ℕ) → member j c ≡ true → label_of b' j ≡ label_of b j) → first_with b' l c ≡ first_with b l c
unfolding first_with
first_frame b b' l [] f = refl
first_frame b b' l (i ∷ c) f =
    ap₂ (λ (m : List ℕ) (o : Option ℕ). cond (alike m l) (some i) o) (f i (member_head i c))
    (first_frame b b' l c (λ j e. f j (member_tail i j c e)))

-- ---- chains

-- where the next indices of its records are the same, so is the chain
pub chain_frame : (b b' : List ℕ) (n i : ℕ) → ((j : ℕ) → member j (chain n b i) ≡ true → next_of b' j ≡ next_of b j) → chain n b' i ≡ chain n b i
unfolding chain
chain_frame b b' zero i f = refl
chain_frame b b' (suc n) i f = go (chain_frame b b' n (next_of b i)) (eqb i 0) f
  where
    go : (((j : ℕ) → member j (chain n b (next_of b i)) ≡ true → next_of b' j ≡ next_of b j) → chain n b' (next_of b i) ≡ chain n b (next_of b i))
        → (t : Bool) → ((j : ℕ) → member j (cond t [] (i ∷ chain n b (next_of b i))) ≡ true → next_of b' j ≡ next_of b j)
        → cond t [] (i ∷ chain n b' (next_of b' i)) ≡ cond t [] (i ∷ chain n b (next_of b i))
    go r true f = refl
    go r false f =
        ap (λ (k : ℕ). i ∷ chain n b' k) (f i (member_head i (chain n b (next_of b i))))
        ∙ ap (λ (c : List ℕ). i ∷ c) (r (λ j e. f j (member_tail i j (chain n b (next_of b i)) e)))

-- ---- the lowest

module _ (p : ℕ → Bool) where
  pub lowest_found : (n s i : ℕ) → lowest p n s ≡ some i → (p i ≡ true) × (s ≤ i) × (i < s + n)
  unfolding lowest
  lowest_found zero s i e = absurd (let z : ◌≡◌ {A = ℕ} 0 1 = cc in omega arith)
  lowest_found (suc n) s i e = go (lowest_found n (s + 1) i) (p s) refl e
    where
      go : (lowest p n (s + 1) ≡ some i → (p i ≡ true) × (s + 1 ≤ i) × (i < s + 1 + n)) → (t : Bool) → p s ≡ t
          → cond t (some s) (lowest p n (s + 1)) ≡ some i → (p i ≡ true) × (s ≤ i) × (i < s + suc n)
      go r true q e = let h : s ≡ i = cc in (ap p (sym h) ∙ q, omega arith, omega arith)
      go r false q e = let h = r e in (h.0, omega (arith, h.1), omega (arith, h.2))

  pub lowest_fails : (n s : ℕ) → lowest p n s ≡ none → (j : ℕ) → s ≤ j → j < s + n → p j ≡ false
  unfolding lowest
  lowest_fails zero s e j h k = absurd (omega arith)
  lowest_fails (suc n) s e j h k = go (lowest_fails n (s + 1)) (p s) refl e (eqb j s) refl
    where
      go : (lowest p n (s + 1) ≡ none → (j : ℕ) → s + 1 ≤ j → j < s + 1 + n → p j ≡ false) → (t : Bool) → p s ≡ t
          → cond t (some s) (lowest p n (s + 1)) ≡ none → (u : Bool) → eqb j s ≡ u → p j ≡ false
      go r true q e u x = absurd (let z : ◌≡◌ {A = ℕ} 0 1 = cc in omega arith)
      go r false q e true x = ap p (eqb-true j s x) ∙ q
      go r false q e false x = let f : j ≡ s → ⊥ = eqb-false j s x in r e j (omega arith) (omega arith)

-- ---- fields

-- a part of a block, element by element
pub part_is : (b : List ℕ) (at : ℕ) (v : List ℕ) → at + length v ≤ length b
    → ((k : ℕ) → k < length v → get_or b (at + k) 0 ≡ get_or v k 0) → take (length v) (drop at b) ≡ v
part_is b at v h f =
    ext_get_or 0 (take (length v) (drop at b)) v size
    (λ k p. let q : k < length v = omega (arith, size) in get_or-take (length v) (drop at b) k 0 q ∙ get_or-drop at b k 0 ∙ f k q)
  where
    size : length (take (length v) (drop at b)) ≡ length v
    size = simp (length-take, length-drop) (omega arith)

-- a handle at its place, with its kind before it, is the handle of its record
pub handle_is : (b h : List ℕ) (i : ℕ) → Handle h → i * 80 + 80 ≤ length b → kind_of b i ≡ kind_for h
    → ((k : ℕ) → k < 64 → get_or b (i * 80 + 16 + k) 0 ≡ get_or (zero_filled h) k 0) → handle_of b i ≡ zero_filled h
handle_is b h i s p e f =
    ap zero_filled
    (ap (λ (n : ℕ). take n (drop (i * 80 + 16) b)) (ap handle_size e ∙ s.size)
    ∙ part_is b (i * 80 + 16) h (omega (arith, s.fits))
    (λ k q. f k (omega (arith, s.fits)) ∙ get_or-append h _ 0 k q))

module _ (b b' : List ℕ) where
  -- the bytes from `at` on are the same
  abbrev pub Kept : (at size : ℕ) → Type 0
  Kept at size = (p : ℕ) → at ≤ p → p < at + size → get_or b' p 0 ≡ get_or b p 0

  pub index_kept : (at : ℕ) → Kept at 2 → get_or b' at 0 + 256 * get_or b' (at + 1) 0 ≡ get_or b at 0 + 256 * get_or b (at + 1) 0
  index_kept at f = ap₂ (λ (x y : ℕ). x + 256 * y) (f at (omega arith) (omega arith)) (f (at + 1) (omega arith) (omega arith))

  module _ (same : length b' ≡ length b) where
    part_kept : (at n : ℕ) → Kept at n → take n (drop at b') ≡ take n (drop at b)
    part_kept at n f =
        ext_get_or 0 (take n (drop at b')) (take n (drop at b)) size
        (λ k p. let q : k < n = omega (arith, length-take n (drop at b')) in
        get_or-take n (drop at b') k 0 q ∙ get_or-drop at b' k 0 ∙ f (at + k) (omega arith) (omega arith)
        ∙ sym (get_or-take n (drop at b) k 0 q ∙ get_or-drop at b k 0))
      where
        size : length (take n (drop at b')) ≡ length (take n (drop at b))
        size = simp (length-take, length-drop) (ap (λ (m : ℕ). min n (m - at)) same)

    pub label_kept : (i : ℕ) → Kept (i * 80 + 4) 12 → label_of b' i ≡ label_of b i
    label_kept i f = part_kept (i * 80 + 4) 12 f

    -- the answer's two fields
    pub looked_kept : (i : ℕ) → Kept (i * 80) 80 → (kind_of b' i ≡ kind_of b i) × (handle_of b' i ≡ handle_of b i)
    looked_kept i f = (
      kind,
      ap zero_filled
          (ap (λ (k : ℕ). take (handle_size k) (drop (i * 80 + 16) b')) kind
          ∙ part_kept (i * 80 + 16) (handle_size (kind_of b i)) (λ p h k. f p (omega arith) (omega (arith, small (eqb (kind_of b i) 0))))),
    )
      where
        kind : kind_of b' i ≡ kind_of b i
        kind = f (i * 80 + 2) (omega arith) (omega arith)

        small : (t : Bool) → cond t 48 64 ≤ 64
        small true = omega arith
        small false = omega arith
