-- What adding writes: the length stays, every byte outside the places written stays, and after a refusal the whole block does.
-- Assumes nothing.
use mathlib.Core.Path.{◌≡◌, refl, sym, ap, subst, ◌∙◌}
use mathlib.Core.Bool.{Bool, true, false, ◌&&◌, ◌||◌}
use mathlib.Core.List.{List, [], ◌∷◌}
use mathlib.Core.Option.{Option, none, some}
use Prim.Native.Nat.{ℕ, zero, suc, ◌+◌, ◌*◌, ◌≤◌, ◌<◌}
use native.Mathlib.Nat.{add-zero}
use native.Mathlib.Omega.{arith}
use lib.Dec.{eqb}
use lib.ListN.{length, get_or, set, length-append, length-replicate, length-set}
use lib.Seq.{sets, length-sets, get_or-set_same, get_or-set_other}
use borrow.Author.Tests.{eqb-true}
use Rattle.bits.specs.Words.{le_bytes}
use Rattle.bits.proofs.Choice.{cond_on, cond_off}
use Rattle.keyring_model.specs.Records.{head_of, head_for, handle_size, zero_filled}
use Rattle.keyring_model.specs.Validity.{valid}
use Rattle.keyring_model.specs.Lookup.{first_on_chain}
use Rattle.keyring_model.specs.Add.{free, kind_for, record_bytes, put_handle, put_record, Added, added, added_new, added_at, add_valid, add}
use Rattle.keyring_model.proofs.Facts.{both}

-- ---- runs of stores

-- place j is none of the places from `at` on
abbrev pub Outside : (at size j : ℕ) → Type 0
Outside at size j = at ≤ j → j < at + size → ⊥

-- what a run of stores leaves, and what it writes
pub sets_kept : (b : List ℕ) (at : ℕ) (v : List ℕ) (j : ℕ) → Outside at (length v) j → get_or (sets b at v) j 0 ≡ get_or b j 0
sets_kept b at [] j f = refl
sets_kept b at (x ∷ v) j f =
    sets_kept (set b at x) (suc at) v j (λ h k. f (omega arith) (omega arith))
    ∙ get_or-set_other b at j x 0 (λ e. f (omega arith) (omega arith))

pub sets_written : (b : List ℕ) (at : ℕ) (v : List ℕ) (k : ℕ) → at + length v ≤ length b → k < length v
    → get_or (sets b at v) (at + k) 0 ≡ get_or v k 0
sets_written b at [] k h p = absurd (omega arith)
sets_written b at (x ∷ v) zero h p =
    ap (λ (j : ℕ). get_or (sets (set b at x) (suc at) v) j 0) (add-zero at)
    ∙ sets_kept (set b at x) (suc at) v at (λ h k. omega arith)
    ∙ get_or-set_same b at x 0 (omega arith)
sets_written b at (x ∷ v) (suc k) h p =
    let e : at + suc k ≡ suc at + k = omega arith in
    ap (λ (j : ℕ). get_or (sets (set b at x) (suc at) v) j 0) e
    ∙ sets_written (set b at x) (suc at) v k (rw length-set (omega arith)) (omega arith)

-- ---- the ways of adding

-- a handle of 48 or of 64 bytes
pub record Handle (h : List ℕ) : Type 0 where
  pub filled : length (zero_filled h) ≡ 64
  pub fits : length h ≤ 64
  pub size : handle_size (kind_for h) ≡ length h
  pub kind : kind_for h < 2

handled : (h : List ℕ) → (eqb (length h) 48 || eqb (length h) 64) ≡ true → Handle h
handled h e = go (eqb (length h) 48) refl e
  where
    room : length h ≤ 64 → length (zero_filled h) ≡ 64
    room p = simp (length-append, length-replicate) (omega arith)

    of : (k : ℕ) → kind_for h ≡ k → k < 2 → handle_size k ≡ length h → length h ≤ 64 → Handle h
    of k e p q r =
        record {
          filled = room r;
          fits = r;
          size = ap handle_size e ∙ q;
          kind = subst (λ (n : ℕ). n < 2) (sym e) p;
        }

    go : (t : Bool) → eqb (length h) 48 ≡ t → (t || eqb (length h) 64) ≡ true → Handle h
    go true p q =
        let s : length h ≡ 48 = eqb-true (length h) 48 p in
        of 0 (cond_on p 0 1) (omega arith) (sym s) (omega arith)
    go false p q =
        let s : length h ≡ 64 = eqb-true (length h) 64 q in
        of 1 (cond_off p 0 1) (omega arith) (sym s) (omega arith)

-- what 15 does not refuse
pub record Accepted (b l h : List ℕ) : Type 0 where
  pub keyring : valid b ≡ true
  pub label : length l ≡ 12
  pub handle : Handle h

pub accepted : (b l h : List ℕ) → add_valid b l h ≡ true → Accepted b l h
accepted b l h e =
    let p = both (valid b && eqb (length l) 12) (eqb (length h) 48 || eqb (length h) 64) e in
    let q = both (valid b) (eqb (length l) 12) p.0 in
    record { keyring = q.0; label = eqb-true (length l) 12 q.1; handle = handled h p.1 }

-- the three outcomes
pub data How (b l h : List ℕ) : Type 0 where
  refused : (k : ℕ) → (k ≡ 0 → ⊥) → add b l h ≡ added k b → How b l h
  replaced : Accepted b l h → (i : ℕ) → first_on_chain b l ≡ some i → add b l h ≡ added 0 (put_handle b i h) → How b l h
  filled : Accepted b l h → (i : ℕ) → first_on_chain b l ≡ none → free b ≡ some i → add b l h ≡ added 0 (put_record b i l h) → How b l h

-- what is not refused goes by the search
pub add_at : (b l h : List ℕ) → add_valid b l h ≡ true → add b l h ≡ added_at b l h (first_on_chain b l)
unfolding add
add_at b l h e = cond_on e (added_at b l h (first_on_chain b l)) (added 15 b)

pub how : (b l h : List ℕ) → How b l h
unfolding add
how b l h = go (add_valid b l h) refl (first_on_chain b l) refl (free b) refl
  where
    go : (t : Bool) → add_valid b l h ≡ t → (s : Option ℕ) → first_on_chain b l ≡ s → (o : Option ℕ) → free b ≡ o → How b l h
    go false e s p o q = refused 15 (λ z. omega arith) (cond_off e (added_at b l h (first_on_chain b l)) (added 15 b))
    go true e (some i) p o q = replaced (accepted b l h e) i p (add_at b l h e ∙ ap (added_at b l h) p)
    go true e none p none q = refused 17 (λ z. omega arith) (add_at b l h e ∙ ap (added_at b l h) p ∙ ap (added_new b l h) q)
    go true e none p (some i) q = filled (accepted b l h e) i p q (add_at b l h e ∙ ap (added_at b l h) p ∙ ap (added_new b l h) q)

-- ---- the length

module _ (b l h : List ℕ) (i : ℕ) where
  pub handle-length : length (put_handle b i h) ≡ length b
  unfolding put_handle
  handle-length =
      length-sets (set b (i * 80 + 2) (kind_for h)) (i * 80 + 16) (zero_filled h) ∙ length-set b (i * 80 + 2) (kind_for h)

  pub record_length : length (put_record b i l h) ≡ length b
  unfolding put_record
  record_length =
      length-sets (sets b (i * 80) (record_bytes (head_of b (head_for l)) l h)) (head_for l * 2) (le_bytes 2 i)
      ∙ length-sets b (i * 80) (record_bytes (head_of b (head_for l)) l h)

-- added or refused, the block keeps its length
pub add-length : (b l h : List ℕ) → length (add b l h).keyring ≡ length b
add-length b l h = go (how b l h)
  where
    go : How b l h → length (add b l h).keyring ≡ length b
    go (refused k f e) = ap (λ (a : Added). length a.keyring) e
    go (replaced a i p e) = ap (λ (a : Added). length a.keyring) e ∙ handle-length b l h i
    go (filled a i p q e) = ap (λ (a : Added). length a.keyring) e ∙ record_length b l h i

-- after a refusal the block is as it was
pub refused_keeps : (b l h : List ℕ) → ((add b l h).number ≡ 0 → ⊥) → (add b l h).keyring ≡ b
refused_keeps b l h f = go (how b l h)
  where
    go : How b l h → (add b l h).keyring ≡ b
    go (refused k g e) = ap (λ (a : Added). a.keyring) e
    go (replaced a i p e) = absurd (f (ap (λ (a : Added). a.number) e))
    go (filled a i p q e) = absurd (f (ap (λ (a : Added). a.number) e))

-- ---- the bytes

-- the 80 bytes of a record
pub record_size : (n : ℕ) (l h : List ℕ) → length l ≡ 12 → length (zero_filled h) ≡ 64 → length (record_bytes n l h) ≡ 80
record_size n l h p q = rw length-append (omega arith)

-- place j is in none of the places of record i that a replacement writes: its kind, its handle
abbrev pub OutsideHandle : (i j : ℕ) → Type 0
OutsideHandle i j = Outside (i * 80 + 2) 1 j × Outside (i * 80 + 16) 64 j

-- and in none that a new record i takes: its own, and the two of the label's head
abbrev pub OutsideRecord : List ℕ → (i j : ℕ) → Type 0
OutsideRecord l i j = Outside (i * 80) 80 j × Outside (head_for l * 2) 2 j

pub handle_kept : (b h : List ℕ) (i : ℕ) → Handle h → (j : ℕ) → OutsideHandle i j → get_or (put_handle b i h) j 0 ≡ get_or b j 0
unfolding put_handle
handle_kept b h i s j f =
    sets_kept (set b (i * 80 + 2) (kind_for h)) (i * 80 + 16) (zero_filled h) j
    (λ p q. f.1 p (omega (arith, s.filled)))
    ∙ get_or-set_other b (i * 80 + 2) j (kind_for h) 0 (λ e. f.0 (omega arith) (omega arith))

pub record_kept : (b l h : List ℕ) (i : ℕ) → length l ≡ 12 → Handle h → (j : ℕ) → OutsideRecord l i j
    → get_or (put_record b i l h) j 0 ≡ get_or b j 0
unfolding put_record
record_kept b l h i e s j f =
    sets_kept (sets b (i * 80) (record_bytes (head_of b (head_for l)) l h)) (head_for l * 2) (le_bytes 2 i) j f.1
    ∙ sets_kept b (i * 80) (record_bytes (head_of b (head_for l)) l h) j
    (λ p q. f.0 p (omega (arith, record_size (head_of b (head_for l)) l h e s.filled)))

-- place j is none that adding label l writes
abbrev UntouchedNew : List ℕ → ℕ → Option ℕ → Type 0
UntouchedNew l j none = Unit {0}
UntouchedNew l j (some i) = OutsideRecord l i j

abbrev UntouchedAt : List ℕ → List ℕ → ℕ → Option ℕ → Type 0
UntouchedAt b l j none = UntouchedNew l j (free b)
UntouchedAt b l j (some i) = OutsideHandle i j

abbrev pub Untouched : List ℕ → List ℕ → ℕ → Type 0
Untouched b l j = UntouchedAt b l j (first_on_chain b l)

-- every byte that is not written stays
pub add_frame : (b l h : List ℕ) (j : ℕ) → Untouched b l j → get_or (add b l h).keyring j 0 ≡ get_or b j 0
add_frame b l h j f = go (how b l h)
  where
    go : How b l h → get_or (add b l h).keyring j 0 ≡ get_or b j 0
    go (refused k g e) = ap (λ (a : Added). get_or a.keyring j 0) e
    go (replaced a i p e) =
        ap (λ (a : Added). get_or a.keyring j 0) e ∙ handle_kept b h i a.handle j (subst (UntouchedAt b l j) p f)
    go (filled a i p q e) =
        ap (λ (a : Added). get_or a.keyring j 0) e
        ∙ record_kept b l h i a.label a.handle j (subst (UntouchedNew l j) q (subst (UntouchedAt b l j) p f))
