-- A handle and a record, written part by part.
-- Assumes nothing.
use mathlib.Core.Path.{◌≡◌, refl, ap, ap₂, subst, ◌∙◌}
use mathlib.Core.List.{List, ◌∷◌, ◌++◌}
use Prim.Native.Nat.{ℕ, suc, ◌+◌, ◌*◌, ◌<◌, ◌≤◌}
use native.Mathlib.Nat.{zero-add}
use native.Mathlib.Omega.{arith}
use Rattle.std.proofs.lemmas.List.{drop-replicate}
use lib.ListN.{length, get_or, set, drop, replicate, length-append}
use lib.Seq.{sets, sets-eq}
use Rattle.bits.specs.Words.{le_bytes}
use Rattle.bits.proofs.Runs.{then, Writing, writing_more, writing_all}
use Rattle.keyring_model.specs.Records.{head_of, head_for, zero_filled}
use Rattle.keyring_model.specs.Add.{kind_for, put_handle, put_record}

-- a handle written over zeros
pub zeros_behind : (h : List ℕ) → h ++ drop (length h) (replicate 64 0) ≡ zero_filled h
zeros_behind h = ap (λ (z : List ℕ). h ++ z) (drop-replicate (length h) 64 0)

-- the same byte by byte: one more, and all
pub copied_more : {n : ℕ} {o a l : List ℕ} {i : ℕ} → Writing n o 0 a l i → i < n → Writing n o 0 a (set l i (get_or a i 0)) (i + 1)
copied_more {n} {o} {a} {l} {i} t h = subst (λ (m : ℕ). Writing n o 0 a (set l m (get_or a i 0)) (i + 1)) (zero-add i) (writing_more t h)

pub copied_all : {n : ℕ} {h l : List ℕ} {i : ℕ} → Writing n (replicate 64 0) 0 h l i → n ≤ i → n ≤ 64 → l ≡ zero_filled h
copied_all {n} {h} {l} {i} t past fits =
    let long : length h ≡ n = t.size in
    writing_all t past
    ∙ sets-eq h (replicate 64 0) 0 (omega arith)
    ∙ ap (λ (m : ℕ). h ++ drop m (replicate 64 0)) (zero-add (length h))
    ∙ zeros_behind h

pub handle_written : (b h : List ℕ) (i kind : ℕ) {m : List ℕ} → kind ≡ kind_for h → m ≡ sets (set b (i * 80 + 2) kind) (i * 80 + 16) (zero_filled h)
    → m ≡ put_handle b i h
unfolding put_handle
handle_written b h i kind e f = f ∙ ap (λ (x : ℕ). sets (set b (i * 80 + 2) x) (i * 80 + 16) (zero_filled h)) e

-- next index, kind, zero byte, label, handle, and the head
module _ (b l h : List ℕ) (i : ℕ) (twelve : length l ≡ 12) where
  abbrev next : ℕ
  next = head_of b (head_for l)

  pub record_written : (place next' kind : ℕ) {k m n o : List ℕ} → place ≡ head_for l * 2 → next' ≡ next → k ≡ sets b (i * 80) (le_bytes 2 next') → kind ≡ kind_for h
      → m ≡ sets (set (set k (i * 80 + 2) kind) (i * 80 + 3) 0) (i * 80 + 4) l
      → n ≡ sets m (i * 80 + 16) (zero_filled h) → o ≡ sets n place (le_bytes 2 i) → o ≡ put_record b i l h
  unfolding put_record
  record_written place next' kind {k} {m} {n} {o} p q e f g r s =
      let v : List ℕ = le_bytes 2 next in
      let w : List ℕ = kind_for h ∷ 0 ∷ l in
      let at_3 : i * 80 + 3 ≡ suc (i * 80 + 2) = omega arith in
      let at_4 : i * 80 + 4 ≡ suc (suc (i * 80 + 2)) = omega arith in
      let at_16 : i * 80 + 16 ≡ i * 80 + (2 + 14) = omega arith in
      let k_is : k ≡ sets b (i * 80) v = e ∙ ap (λ (x : ℕ). sets b (i * 80) (le_bytes 2 x)) q in
      let m_is : m ≡ sets b (i * 80) (v ++ w) =
      g ∙ ap (λ (x : ℕ). sets (set (set k (i * 80 + 2) x) (i * 80 + 3) 0) (i * 80 + 4) l) f
      ∙ ap₂ (λ (x y : ℕ). sets (set (set k (i * 80 + 2) (kind_for h)) x 0) y l) at_3 at_4
      ∙ then b (i * 80) 2 v w refl k_is in
      let size : length (v ++ w) ≡ 16 = simp length-append (omega arith) in
      s
      ∙ ap₂ (λ (x : List ℕ) (y : ℕ). sets x y (le_bytes 2 i)) (r ∙ then b (i * 80) 16 (v ++ w) (zero_filled h) size m_is) p
