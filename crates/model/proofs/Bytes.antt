-- The machine as bytes: reading what was written gives the record, and writing what was read gives the bytes.
-- Assumes nothing.
use mathlib.Core.Path.{◌≡◌, refl, sym, ap, ◌∙◌}
use mathlib.Core.List.{List, [], ◌∷◌, ◌++◌, append_assoc}
use Prim.Native.Nat.{ℕ, zero, suc, ◌+◌, ◌*◌, ◌≤◌}
use native.Mathlib.Omega.{arith}
use lib.ListN.{length, get_or, take, drop, length-append, length-drop, take-append-drop, drop_of_length-le}
use lib.Seq.{length-take-le, take_at, drop_at, get_or-drop, drop-drop, drop-cons}
use Rattle.model.specs.Records.{processor_limit}
use Rattle.model.specs.Layout.{iw_key_size, entry_size, slot_size, platform_size, machine_size, key_bytes, entry_bytes, entries_bytes, slot_bytes, platform_bytes, machine_bytes, key_at, entry_at, entries_at, slot_at, platform_at, machine_at, ShapedKey, ShapedEntries, ShapedPlatform, Shaped}
use Rattle.model.specs.declared.IwKey.{IwKey}
use Rattle.model.specs.declared.Processor.{Processor}
use Rattle.model.specs.declared.Slot.{Slot}
use Rattle.model.specs.declared.Platform.{Platform}
use Rattle.model.specs.declared.Machine.{Machine}

-- ---- the shape of what is read

key_shaped : (t : List ℕ) → iw_key_size ≤ length t → ShapedKey (key_at t)
key_shaped t h =
    record { integrity = length-take-le 16 t (omega arith); encryption = length-take-le 32 (drop 16 t) (simp length-drop (omega arith)) }

entries_shaped : (n : ℕ) (t : List ℕ) → n * entry_size ≤ length t → ShapedEntries (entries_at n t)
unfolding entries_at
entries_shaped zero t h = tt
entries_shaped (suc n) t h = (key_shaped t (omega arith), entries_shaped n (drop entry_size t) (simp length-drop (omega arith)))

entries_count : (n : ℕ) (t : List ℕ) → length (entries_at n t) ≡ n
unfolding entries_at
entries_count zero t = refl
entries_count (suc n) t = ap suc (entries_count n (drop entry_size t))

platform_shaped : (t : List ℕ) → platform_size ≤ length t → ShapedPlatform (platform_at t)
platform_shaped t h =
    record {
      backup = key_shaped (drop 1 t) (simp length-drop (omega arith));
      store = key_shaped (drop 1 (drop slot_size t)) (simp length-drop (omega arith));
    }

pub machine_shaped : (t : List ℕ) → length t ≡ machine_size → Shaped (machine_at t)
unfolding machine_at
machine_shaped t h =
    record {
      count = entries_count processor_limit (drop 2 t);
      processors = entries_shaped processor_limit (drop 2 t) (simp length-drop (omega arith));
      platform = platform_shaped (drop (2 + processor_limit * entry_size) t) (simp length-drop (omega arith));
    }

-- ---- the length of what is written

key_length : (k : IwKey) → ShapedKey k → length (key_bytes k) ≡ iw_key_size
key_length k h = simp length-append (omega arith)

pub entry_length : (e : Processor) → ShapedKey e.key → length (entry_bytes e) ≡ entry_size
entry_length e h = length-append (key_bytes e.key) (e.copy_status ∷ []) ∙ omega (arith, key_length e.key h)

pub entries_length : (l : List Processor) → ShapedEntries l → length (entries_bytes l) ≡ length l * entry_size
unfolding entries_bytes
entries_length [] h = refl
entries_length (e ∷ l) h = length-append (entry_bytes e) (entries_bytes l) ∙ omega (arith, entry_length e h.0, entries_length l h.1)

slot_length : (s : Slot) → ShapedKey s.key → length (slot_bytes s) ≡ slot_size
slot_length s h = ap suc (key_length s.key h)

platform_length : (f : Platform) → ShapedPlatform f → length (platform_bytes f) ≡ platform_size
platform_length f h =
    let z : List ℕ = f.pending ∷ f.valid ∷ f.error ∷ f.consumed ∷ [] in
    length-append (slot_bytes f.backup) (slot_bytes f.store ++ z)
    ∙ omega (arith, length-append (slot_bytes f.store) z, slot_length f.backup h.backup, slot_length f.store h.store)

pub bytes_length : (m : Machine) → Shaped m → length (machine_bytes m) ≡ machine_size
unfolding machine_bytes
bytes_length m h =
    ap (λ (n : ℕ). suc (suc n)) (length-append (entries_bytes m.processors) (platform_bytes m.platform))
    ∙ omega (arith, entries_length m.processors h.processors, platform_length m.platform h.platform)

-- ---- what was written, read

-- an element behind a front of known length
behind : (a b : List ℕ) (n k : ℕ) → length a ≡ n → get_or (a ++ b) (n + k) 0 ≡ get_or b k 0
behind a b n k e = sym (get_or-drop n (a ++ b) k 0) ∙ ap (λ (l : List ℕ). get_or l k 0) (drop_at a b n e)

-- the bytes of an IWKey and what follows them
key_then : (k : IwKey) (t : List ℕ) → key_bytes k ++ t ≡ k.integrity ++ (k.encryption ++ (k.source ∷ k.no_backup ∷ t))
key_then k t = simp append_assoc

key_back : (k : IwKey) (t : List ℕ) → ShapedKey k → key_at (key_bytes k ++ t) ≡ k
key_back k t h =
    let a = k.integrity in
    let b = k.encryption in
    let z : List ℕ = k.source ∷ k.no_backup ∷ t in
    ap key_at (key_then k t)
    ∙ (λ j.
    record {
      integrity = take_at a (b ++ z) 16 h.integrity j;
      encryption = (ap (take 32) (drop_at a (b ++ z) 16 h.integrity) ∙ take_at b z 32 h.encryption) j;
      source = (behind a (b ++ z) 16 32 h.integrity ∙ behind b z 32 0 h.encryption) j;
      no_backup = (behind a (b ++ z) 16 33 h.integrity ∙ behind b z 32 1 h.encryption) j;
    })

entry_back : (e : Processor) (t : List ℕ) → ShapedKey e.key → entry_at (entry_bytes e ++ t) ≡ e
entry_back e t h =
    let z : List ℕ = e.copy_status ∷ t in
    ap entry_at (append_assoc (key_bytes e.key) (e.copy_status ∷ []) t)
    ∙ (λ j.
    record { key = key_back e.key z h j; copy_status = behind (key_bytes e.key) z iw_key_size 0 (key_length e.key h) j })

entries_back : (l : List Processor) (t : List ℕ) → ShapedEntries l → entries_at (length l) (entries_bytes l ++ t) ≡ l
unfolding entries_at entries_bytes
entries_back [] t h = refl
entries_back (e ∷ l) t h =
    let r = entries_bytes l ++ t in
    ap (entries_at (suc (length l))) (append_assoc (entry_bytes e) (entries_bytes l) t)
    ∙ (λ j. entry_back e r h.0 j ∷ entries_at (length l) (drop_at (entry_bytes e) r entry_size (entry_length e h.0) j))
    ∙ ap (λ (x : List Processor). e ∷ x) (entries_back l t h.1)

slot_back : (s : Slot) (t : List ℕ) → ShapedKey s.key → slot_at (slot_bytes s ++ t) ≡ s
slot_back s t h = λ j. record { present = s.present; key = key_back s.key t h j }

platform_back : (f : Platform) → ShapedPlatform f → platform_at (platform_bytes f) ≡ f
platform_back f h =
    let b = slot_bytes f.backup in
    let s = slot_bytes f.store in
    let z : List ℕ = f.pending ∷ f.valid ∷ f.error ∷ f.consumed ∷ [] in
    let p = slot_length f.backup h.backup in
    let q = slot_length f.store h.store in
    let bits : (k : ℕ) → get_or (b ++ (s ++ z)) (slot_size + (slot_size + k)) 0 ≡ get_or z k 0 =
    λ k. behind b (s ++ z) slot_size (slot_size + k) p ∙ behind s z slot_size k q in
    λ j.
    record {
      backup = slot_back f.backup (s ++ z) h.backup j;
      store = (ap slot_at (drop_at b (s ++ z) slot_size p) ∙ slot_back f.store z h.store) j;
      pending = bits 0 j;
      valid = bits 1 j;
      error = bits 2 j;
      consumed = bits 3 j;
    }

pub at_bytes : (m : Machine) → Shaped m → machine_at (machine_bytes m) ≡ m
unfolding machine_at machine_bytes
at_bytes m h =
    let l = m.processors in
    let p = platform_bytes m.platform in
    let n : length (entries_bytes l) ≡ processor_limit * entry_size =
    entries_length l h.processors ∙ ap (λ (k : ℕ). k * entry_size) h.count in
    λ j.
    record {
      count = m.count;
      features = m.features;
      processors = (ap (λ (k : ℕ). entries_at k (entries_bytes l ++ p)) (sym h.count) ∙ entries_back l p h.processors) j;
      platform =
          (ap platform_at (drop_at (entries_bytes l) p (processor_limit * entry_size) n) ∙ platform_back m.platform h.platform) j;
    }

-- ---- what was read, written

-- an element in front of what follows it
front : (t : List ℕ) (j : ℕ) {w : List ℕ} → suc j ≤ length t → w ≡ drop (suc j) t → get_or t j 0 ∷ w ≡ drop j t
front t j h e = ap (λ (w : List ℕ). get_or t j 0 ∷ w) e ∙ sym (drop-cons t j 0 h)

key_again : (t : List ℕ) → iw_key_size ≤ length t → key_bytes (key_at t) ++ drop iw_key_size t ≡ t
key_again t h =
    key_then (key_at t) (drop iw_key_size t)
    ∙ ap (λ (w : List ℕ). take 16 t ++ (take 32 (drop 16 t) ++ w))
    (front t 48 (omega arith) (front t 49 (omega arith) refl) ∙ sym (drop-drop 32 16 t))
    ∙ ap (λ (w : List ℕ). take 16 t ++ w) (take-append-drop 32 (drop 16 t))
    ∙ take-append-drop 16 t

entry_again : (t : List ℕ) → entry_size ≤ length t → entry_bytes (entry_at t) ++ drop entry_size t ≡ t
entry_again t h =
    append_assoc (key_bytes (key_at t)) (get_or t iw_key_size 0 ∷ []) (drop entry_size t)
    ∙ ap (λ (w : List ℕ). key_bytes (key_at t) ++ w) (front t iw_key_size (omega arith) refl)
    ∙ key_again t (omega arith)

entries_again : (n : ℕ) (t : List ℕ) → n * entry_size ≤ length t → entries_bytes (entries_at n t) ++ drop (n * entry_size) t ≡ t
unfolding entries_bytes entries_at
entries_again zero t h = refl
entries_again (suc n) t h =
    let r = drop entry_size t in
    let l = entries_bytes (entries_at n r) in
    let e : suc n * entry_size ≡ entry_size + n * entry_size = omega arith in
    append_assoc (entry_bytes (entry_at t)) l (drop (suc n * entry_size) t)
    ∙ ap (λ (w : List ℕ). entry_bytes (entry_at t) ++ (l ++ w)) (ap (λ (k : ℕ). drop k t) e ∙ sym (drop-drop (n * entry_size) entry_size t))
    ∙ ap (λ (w : List ℕ). entry_bytes (entry_at t) ++ w) (entries_again n r (simp length-drop (omega arith)))
    ∙ entry_again t (omega arith)

slot_again : (t : List ℕ) → slot_size ≤ length t → slot_bytes (slot_at t) ++ drop slot_size t ≡ t
slot_again t h =
    front t 0 (omega arith)
    (ap (λ (w : List ℕ). key_bytes (key_at (drop 1 t)) ++ w) (sym (drop-drop iw_key_size 1 t))
    ∙ key_again (drop 1 t) (simp length-drop (omega arith)))

platform_again : (t : List ℕ) → length t ≡ platform_size → platform_bytes (platform_at t) ≡ t
platform_again t h =
    let r = drop slot_size t in
    let at = slot_size + slot_size in
    ap (λ (w : List ℕ). slot_bytes (slot_at t) ++ (slot_bytes (slot_at r) ++ w))
    (front t at (omega arith)
    (front t (at + 1) (omega arith)
    (front t (at + 2) (omega arith) (front t (at + 3) (omega arith) (sym (drop_of_length-le t {i = platform_size} (omega arith))))))
    ∙ sym (drop-drop slot_size slot_size t))
    ∙ ap (λ (w : List ℕ). slot_bytes (slot_at t) ++ w) (slot_again r (simp length-drop (omega arith)))
    ∙ slot_again t (omega arith)

-- the entries, and the platform behind them
rest_again : (n : ℕ) (t : List ℕ) → length t ≡ n * entry_size + platform_size
    → entries_bytes (entries_at n t) ++ platform_bytes (platform_at (drop (n * entry_size) t)) ≡ t
rest_again n t h =
    ap (λ (w : List ℕ). entries_bytes (entries_at n t) ++ w) (platform_again (drop (n * entry_size) t) (simp length-drop (omega arith)))
    ∙ entries_again n t (omega arith)

pub bytes_at : (t : List ℕ) → length t ≡ machine_size → machine_bytes (machine_at t) ≡ t
unfolding machine_bytes machine_at
bytes_at t h =
    front t 0 (omega arith)
    (front t 1 (omega arith)
    (ap (λ (w : List ℕ). entries_bytes (entries_at processor_limit (drop 2 t)) ++ platform_bytes (platform_at w))
    (sym (drop-drop (processor_limit * entry_size) 2 t))
    ∙ rest_again processor_limit (drop 2 t) (simp length-drop (omega arith))))
