-- The bytes of each record as runs of stores.
-- Assumes nothing.
use mathlib.Core.Path.{◌≡◌, ◌∙◌, refl, sym, ap}
use mathlib.Core.List.{List, [], ◌∷◌, ◌++◌, append-nil, append_assoc}
use Prim.Native.Nat.{ℕ, suc, ◌+◌, ◌*◌, ◌<◌}
use native.Mathlib.Numerals.{add-one}
use native.Mathlib.Omega.{arith}
use lib.ListN.{length, get_or, set, take, length-append}
use lib.Seq.{sets, take-suc}
use Rattle.bits.proofs.Runs.{then}
use Rattle.model.specs.Records.{processor_limit}
use Rattle.model.specs.Layout.{iw_key_size, entry_size, slot_size, platform_size, machine_size, key_bytes, entry_bytes, entries_bytes, slot_bytes, platform_bytes, machine_bytes}
use Rattle.model.specs.declared.IwKey.{IwKey}
use Rattle.model.proofs.InPlace.{sets_whole}
use Rattle.model.specs.declared.Processor.{Processor}
use Rattle.model.specs.declared.Slot.{Slot}
use Rattle.model.specs.declared.Platform.{Platform}
use Rattle.model.specs.declared.Machine.{Machine}

-- ---- an IWKey, an entry, a place for an IWKey

pub key_length : (k : IwKey) → length k.integrity ≡ 16 → length k.encryption ≡ 32 → length (key_bytes k) ≡ iw_key_size
key_length k p q = simp length-append (omega arith)

pub key_written : (o : List ℕ) (at : ℕ) (k : IwKey) {l m : List ℕ} → length k.integrity ≡ 16 → length k.encryption ≡ 32
    → l ≡ sets o at k.integrity → m ≡ sets l (at + 16) k.encryption
    → set (set m (at + 48) k.source) (at + 49) k.no_backup ≡ sets o at (key_bytes k)
key_written o at k {l} {m} p q e f =
    let z : List ℕ = k.source ∷ k.no_backup ∷ [] in
    let g : at + 48 ≡ at + 16 + 32 = omega arith in
    let h : at + 49 ≡ suc (at + 48) = omega arith in
    ap (λ (n : ℕ). set (set m (at + 48) k.source) n k.no_backup) h
    ∙ ap (λ (n : ℕ). sets m n z) g
    ∙ then l (at + 16) 32 k.encryption z q f
    ∙ then o at 16 k.integrity (k.encryption ++ z) p e

pub entry_length : (e : Processor) → length (key_bytes e.key) ≡ iw_key_size → length (entry_bytes e) ≡ entry_size
entry_length e h = length-append (key_bytes e.key) (e.copy_status ∷ []) ∙ omega arith

pub entry_written : (o : List ℕ) (at : ℕ) (e : Processor) {l : List ℕ} → length (key_bytes e.key) ≡ iw_key_size → l ≡ sets o at (key_bytes e.key)
    → set l (at + 50) e.copy_status ≡ sets o at (entry_bytes e)
entry_written o at e h p = then o at iw_key_size (key_bytes e.key) (e.copy_status ∷ []) h p

pub slot_written : (o : List ℕ) (at : ℕ) (t : Slot) {l : List ℕ} → l ≡ sets (set o at t.present) (at + 1) (key_bytes t.key) → l ≡ sets o at (slot_bytes t)
slot_written o at t p = p ∙ ap (λ (n : ℕ). sets (set o at t.present) n (key_bytes t.key)) (add-one at)

-- ---- the entries

entries_end : (l : List Processor) (e : Processor) → entries_bytes (l ++ (e ∷ [])) ≡ entries_bytes l ++ entry_bytes e
unfolding entries_bytes
entries_end [] e = append-nil (entry_bytes e)
entries_end (x ∷ l) e =
    ap (λ (w : List ℕ). entry_bytes x ++ w) (entries_end l e) ∙ sym (append_assoc (entry_bytes x) (entries_bytes l) (entry_bytes e))

module _ (l : List Processor) (i : ℕ) (d : Processor) (h : i < length l) where
  entries_more : entries_bytes (take (i + 1) l) ≡ entries_bytes (take i l) ++ entry_bytes (get_or l i d)
  entries_more =
      ap (λ (n : ℕ). entries_bytes (take n l)) (add-one i) ∙ ap entries_bytes (take-suc l i d h) ∙ entries_end (take i l) (get_or l i d)

  module _ (n : length (entries_bytes (take i l)) ≡ i * entry_size) where
    -- one entry more
    pub entries_length : length (entry_bytes (get_or l i d)) ≡ entry_size → length (entries_bytes (take (i + 1) l)) ≡ (i + 1) * entry_size
    entries_length k =
        ap length entries_more ∙ length-append (entries_bytes (take i l)) (entry_bytes (get_or l i d)) ∙ omega arith

    pub entries_written : (o : List ℕ) (at : ℕ) {s t : List ℕ} → s ≡ sets o at (entries_bytes (take i l))
        → t ≡ sets s (at + i * entry_size) (entry_bytes (get_or l i d)) → t ≡ sets o at (entries_bytes (take (i + 1) l))
    entries_written o at p q =
        q ∙ then o at (i * entry_size) (entries_bytes (take i l)) (entry_bytes (get_or l i d)) n p ∙ ap (sets o at) (sym entries_more)

-- ---- the platform and the machine

pub platform_length : (f : Platform) → length (slot_bytes f.backup) ≡ slot_size → length (slot_bytes f.store) ≡ slot_size
    → length (platform_bytes f) ≡ platform_size
platform_length f p q =
    let z : List ℕ = f.pending ∷ f.valid ∷ f.error ∷ f.consumed ∷ [] in
    length-append (slot_bytes f.backup) (slot_bytes f.store ++ z) ∙ omega (arith, length-append (slot_bytes f.store) z)

pub platform_written : (o : List ℕ) (at : ℕ) (f : Platform) {l m : List ℕ} → length (slot_bytes f.backup) ≡ slot_size → length (slot_bytes f.store) ≡ slot_size
    → l ≡ sets o at (slot_bytes f.backup) → m ≡ sets l (at + 51) (slot_bytes f.store)
    → set (set (set (set m (at + 102) f.pending) (at + 103) f.valid) (at + 104) f.error) (at + 105) f.consumed ≡ sets o at (platform_bytes f)
platform_written o at f {l} {m} p q e g =
    let z : List ℕ = f.pending ∷ f.valid ∷ f.error ∷ f.consumed ∷ [] in
    let a : at + 102 ≡ at + 51 + 51 = omega arith in
    let b : at + 103 ≡ suc (at + 102) = omega arith in
    let c : at + 104 ≡ suc (suc (at + 102)) = omega arith in
    let d : at + 105 ≡ suc (suc (suc (at + 102))) = omega arith in
    (λ j. set (set (set (set m (at + 102) f.pending) (b j) f.valid) (c j) f.error) (d j) f.consumed)
    ∙ ap (λ (n : ℕ). sets m n z) a
    ∙ then l (at + 51) 51 (slot_bytes f.store) z q g
    ∙ then o at 51 (slot_bytes f.backup) (slot_bytes f.store ++ z) p e

pub machine_written : (o : List ℕ) (m : Machine) {l n : List ℕ} → length o ≡ machine_size
    → length (entries_bytes m.processors) ≡ processor_limit * entry_size → length (platform_bytes m.platform) ≡ platform_size
    → l ≡ sets (set (set o 0 m.count) 1 m.features) 2 (entries_bytes m.processors) → n ≡ sets l 818 (platform_bytes m.platform)
    → n ≡ machine_bytes m
unfolding machine_bytes
machine_written o m {l} {n} h a b p q =
    let z : List ℕ = m.count ∷ m.features ∷ [] in
    let e = entries_bytes m.processors in
    let f = platform_bytes m.platform in
    let k : length (z ++ (e ++ f)) ≡ length o =
    ap (λ (n : ℕ). suc (suc n)) (length-append e f) ∙ omega arith in
    q ∙ then (sets o 0 z) 2 (processor_limit * entry_size) e f a p ∙ then o 0 2 z (e ++ f) refl refl ∙ sets_whole o (z ++ (e ++ f)) k
