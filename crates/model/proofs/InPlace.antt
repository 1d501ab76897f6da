-- An entry written at its place among the machine's bytes: what a step leaves of them.
-- Assumes nothing.
use mathlib.Core.Path.{◌≡◌, refl, sym, ap, ◌∙◌}
use mathlib.Core.List.{List, [], ◌∷◌, ◌++◌, append-nil}
use Prim.Native.Nat.{ℕ, zero, suc, ◌+◌, ◌*◌, ◌≤◌, ◌<◌}
use native.Mathlib.Nat.{zero-add, suc-add, not-suc-le-zero, le_of_suc-le-suc}
use native.Mathlib.Omega.{arith}
use lib.ListN.{length, get_or, set, length-set, drop_of_length-le}
use lib.Seq.{sets, sets-eq, set-append_left, get_or-set_same}
use Rattle.model.specs.Calls.{StepCall, step}
use Rattle.model.specs.Execution.{view_of, perform, call}
use Rattle.model.specs.Instructions.{executed}
use Rattle.model.specs.Records.{processor_limit, no_processor, processor_at, with_key, with_processor}
use Rattle.model.specs.Layout.{entry_size, machine_size, entry_bytes, entries_bytes, platform_bytes, machine_bytes, machine_at, ShapedKey, ShapedEntries, Shaped}
use Rattle.model.specs.declared.Processor.{Processor}
use Rattle.model.specs.declared.Machine.{Machine}
use Rattle.model.proofs.Bytes.{machine_shaped, entry_length, entries_length, bytes_at}
use Rattle.model.proofs.Frames.{call_performed, call_number, accepted_parts}
use Rattle.model.proofs.Refusals.{processor_below}
use Rattle.model.proofs.Shapes.{call_shaped}
use Rattle.model.proofs.Validities.{count_few}

-- ---- a run of stores behind an element, in front of a list, behind one, and over a whole one

sets_tail : (x : ℕ) (l : List ℕ) (i : ℕ) (v : List ℕ) → sets (x ∷ l) (suc i) v ≡ x ∷ sets l i v
sets_tail x l i [] = refl
sets_tail x l i (a ∷ v) = sets_tail x (set l i a) (suc i) v

sets_front : (l r : List ℕ) (i : ℕ) (v : List ℕ) → i + length v ≤ length l → sets (l ++ r) i v ≡ sets l i v ++ r
sets_front l r i [] h = refl
sets_front l r i (a ∷ v) h =
    ap (λ (t : List ℕ). sets t (suc i) v) (set-append_left l r i a (omega arith))
    ∙ sets_front (set l i a) r (suc i) v (simp length-set (omega arith))

sets_back : (l r : List ℕ) (i : ℕ) (v : List ℕ) → sets (l ++ r) (length l + i) v ≡ l ++ sets r i v
sets_back [] r i v = ap (λ (k : ℕ). sets r k v) (zero-add i)
sets_back (x ∷ l) r i v =
    ap (λ (k : ℕ). sets (x ∷ (l ++ r)) k v) (suc-add (length l) i) ∙ sets_tail x (l ++ r) (length l + i) v
    ∙ ap (λ (t : List ℕ). x ∷ t) (sets_back l r i v)

pub sets_whole : (l v : List ℕ) → length v ≡ length l → sets l 0 v ≡ v
sets_whole l v e =
    let h : 0 + length v ≤ length l = omega arith in
    let k : length l ≤ 0 + length v = omega arith in
    sets-eq v l 0 h ∙ ap (λ (t : List ℕ). v ++ t) (drop_of_length-le l {i = 0 + length v} k) ∙ append-nil v

-- ---- entries

entries_put : (l : List Processor) (p : ℕ) (e : Processor) → p < length l → ShapedEntries l → ShapedKey e.key
    → sets (entries_bytes l) (p * entry_size) (entry_bytes e) ≡ entries_bytes (set l p e)
unfolding entries_bytes
entries_put [] p e h s k = absurd (not-suc-le-zero h)
entries_put (x ∷ l) zero e h s k =
    let m = entry_length x s.0 in
    let n = entry_length e k in
    sets_front (entry_bytes x) (entries_bytes l) 0 (entry_bytes e) (omega arith)
    ∙ ap (λ (t : List ℕ). t ++ entries_bytes l) (sets_whole (entry_bytes x) (entry_bytes e) (n ∙ sym m))
entries_put (x ∷ l) (suc p) e h s k =
    let m = entry_length x s.0 in
    let a : suc p * entry_size ≡ length (entry_bytes x) + p * entry_size = omega arith in
    ap (λ (i : ℕ). sets (entry_bytes x ++ entries_bytes l) i (entry_bytes e)) a
    ∙ sets_back (entry_bytes x) (entries_bytes l) (p * entry_size) (entry_bytes e)
    ∙ ap (λ (t : List ℕ). entry_bytes x ++ t) (entries_put l p e (le_of_suc-le-suc h) s.1 k)

entry_shaped : (l : List Processor) (p : ℕ) → p < length l → ShapedEntries l → ShapedKey (get_or l p no_processor).key
entry_shaped [] p h s = absurd (not-suc-le-zero h)
entry_shaped (x ∷ l) zero h s = s.0
entry_shaped (x ∷ l) (suc p) h s = entry_shaped l p (le_of_suc-le-suc h) s.1

-- ---- a machine

machine_put : (m : Machine) (p : ℕ) (e : Processor) → Shaped m → p < processor_limit → ShapedKey e.key
    → sets (machine_bytes m) (2 + p * entry_size) (entry_bytes e) ≡ machine_bytes (with_processor p e m)
unfolding machine_bytes
machine_put m p e s h k =
    let n = entries_length m.processors s.processors in
    let b = entry_length e k in
    let c = s.count in
    let a : 2 + p * entry_size ≡ suc (suc (p * entry_size)) = omega arith in
    let entries = entries_bytes m.processors in
    let platform = platform_bytes m.platform in
    ap (λ (i : ℕ). sets (m.count ∷ m.features ∷ (entries ++ platform)) i (entry_bytes e)) a
    ∙ sets_tail m.count (m.features ∷ (entries ++ platform)) (suc (p * entry_size)) (entry_bytes e)
    ∙ ap (λ (t : List ℕ). m.count ∷ t) (sets_tail m.features (entries ++ platform) (p * entry_size) (entry_bytes e))
    ∙ ap (λ (t : List ℕ). m.count ∷ m.features ∷ t)
    (sets_front entries platform (p * entry_size) (entry_bytes e) (omega arith)
    ∙ ap (λ (t : List ℕ). t ++ platform) (entries_put m.processors p e (omega arith) s.processors k))

-- ---- a step that is not refused

-- it leaves the machine but for the entry of its processor
pub one_entry : (m : Machine) (s : StepCall) → s.processor < length m.processors → (call m (step s)).answer.number ≡ 0
    → (call m (step s)).machine ≡ with_processor s.processor (processor_at (call m (step s)).machine s.processor) m
unfolding perform
one_entry m s there accepted =
    let p = s.processor in
    let e = processor_at m p in
    let x = with_key (executed s e.key).key e in
    let here : (call m (step s)).machine ≡ with_processor p x m =
    ap (λ o. o.machine) (call_performed m (step s) (sym (call_number m (step s)) ∙ accepted)) in
    here ∙ ap (λ (d : Processor). with_processor p d m) (sym (ap (λ (z : Machine). processor_at z p) here ∙ get_or-set_same m.processors p x no_processor there))

pub processor_few : (m : Machine) (s : StepCall) → (call m (step s)).answer.number ≡ 0 → s.processor < processor_limit
processor_few m s accepted =
    let parts = accepted_parts m (step s) (sym (call_number m (step s)) ∙ accepted) in
    let few = count_few m parts.0 in
    let below = processor_below (view_of m) (step s) s.processor parts.1 refl in
    omega arith

-- so the machine's bytes differ from the block in that entry alone
pub step_entry : (t : List ℕ) (n : length t ≡ machine_size) (s : StepCall) → (call (machine_at t) (step s)).answer.number ≡ 0
    → sets t (2 + s.processor * entry_size) (entry_bytes (processor_at (call (machine_at t) (step s)).machine s.processor))
    ≡ machine_bytes (call (machine_at t) (step s)).machine
step_entry t n s accepted =
    let m = machine_at t in
    let after = (call m (step s)).machine in
    let p = s.processor in
    let few = processor_few m s accepted in
    let shaped = machine_shaped t n in
    let c = shaped.count in
    let kept = call_shaped m (step s) shaped in
    let d = kept.count in
    ap (λ (w : List ℕ). sets w (2 + p * entry_size) (entry_bytes (processor_at after p))) (sym (bytes_at t n))
    ∙ machine_put m p (processor_at after p) shaped few (entry_shaped after.processors p (omega arith) kept.processors)
    ∙ ap machine_bytes (sym (one_entry m s (omega arith) accepted))
