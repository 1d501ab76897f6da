-- The arrays have their declared lengths at power-on, and keep them in every call.
-- Assumes nothing.
use mathlib.Core.Path.{◌≡◌, refl, ◌∙◌}
use mathlib.Core.Bool.{Bool, true, false, ◌&&◌, ◌||◌, true≢false, false≢true}
use mathlib.Core.List.{List, [], ◌∷◌}
use mathlib.Core.Option.{some}
use Prim.Native.Nat.{ℕ, zero, suc, ◌<◌}
use native.Mathlib.Nat.{not-suc-le-zero, le_of_suc-le-suc}
use native.Mathlib.Omega.{arith}
use lib.Dec.{T, eqb}
use lib.ListN.{length, get_or, set, drop, replicate, length-append, length-drop, length-set, length-replicate}
use lib.Seq.{length-take-le}
use borrow.Author.Tests.{eqb-true}
use Rattle.bits.proofs.Choice.{on_cond}
use Rattle.bits.proofs.Xor.{xor_length}
use Rattle.isa.specs.declared.Decoded.{Decoded}
use Rattle.isa.specs.declared.Decoded.TheVariants as decoded
use Rattle.isa.specs.declared.Instruction.{Instruction}
use Rattle.isa.specs.declared.Instruction.TheVariants as instruction
use Rattle.isa.specs.declared.LoadIwKey.{LoadIwKey}
use Rattle.isa.specs.Decode.{decode}
use Rattle.model.specs.Numbers.{bit, part}
use Rattle.model.specs.Records.{processor_limit, zero_key, zero_processor, no_processor, processor_at, with_key, with_pending, with_consumed, with_processor, with_platform}
use Rattle.model.specs.Cpu.{cpu_size, xmm_at, xmm}
use Rattle.model.specs.Forms.{register_of, key_source, not_ready}
use Rattle.model.specs.Calls.{StepCall, Call, step, counter, read, write, settle, sleep, reset, taken}
use Rattle.model.specs.Validity.{valid}
use Rattle.model.specs.Refusals.{random_length, operands, refusal}
use Rattle.model.specs.Instructions.{Executed, plain_key, mixed_with, loaded_key, load, execute, stepped, executed}
use Rattle.model.specs.Backup.{Copied, copy_out, copy_in, written, settled, with_taken, store_kept, woken}
use Rattle.model.specs.Execution.{fresh, zero_platform, view_of, perform, call}
use Rattle.model.specs.Layout.{ShapedKey, ShapedEntries, ShapedPlatform, Shaped}
use Rattle.model.specs.declared.IwKey.{IwKey}
use Rattle.model.specs.declared.Processor.{Processor}
use Rattle.model.specs.declared.Slot.{Slot}
use Rattle.model.specs.declared.Platform.{Platform}
use Rattle.model.specs.declared.Machine.{Machine}
use Rattle.model.proofs.Refusals.{processor_below, cpu_length, random_length_lem}
use Rattle.model.proofs.Frames.{by_number, accepted_parts}
use Rattle.model.proofs.Validities.{count_few}

-- ---- power-on

zero_shaped : ShapedKey zero_key
zero_shaped = record { integrity = refl; encryption = refl }

replicate_shaped : (n : ℕ) (e : Processor) → ShapedKey e.key → ShapedEntries (replicate n e)
replicate_shaped zero e h = tt
replicate_shaped (suc n) e h = (h, replicate_shaped n e h)

-- all processors zero beside a platform
zeros_shaped : (count features : ℕ) (f : Platform) → ShapedPlatform f
    → Shaped (record { count = count; features = features; processors = replicate processor_limit zero_processor; platform = f })
zeros_shaped count features f h =
    record {
      count = length-replicate processor_limit zero_processor;
      processors = replicate_shaped processor_limit zero_processor zero_shaped;
      platform = h;
    }

pub fresh_shaped : (count features : ℕ) → Shaped (fresh count features)
fresh_shaped count features = zeros_shaped count features zero_platform (record { backup = zero_shaped; store = zero_shaped })

-- ---- a call that is not refused

at_shaped : (l : List Processor) (p : ℕ) (d : Processor) → p < length l → ShapedEntries l → ShapedKey (get_or l p d).key
at_shaped [] p d b h = absurd (not-suc-le-zero b)
at_shaped (e ∷ l) zero d b h = h.0
at_shaped (e ∷ l) (suc p) d b h = at_shaped l p d (le_of_suc-le-suc b) h.1

-- the IWKey of its processor has its lengths; past the last processor stands one that has not
processor_shaped : (m : Machine) (c : Call) (p : ℕ) → (operands c).processor ≡ some p → T (valid m) → refusal (view_of m) c ≡ 0 → Shaped m
    → ShapedKey (processor_at m p).key
processor_shaped m c p e v a h =
    at_shaped m.processors p no_processor (omega (arith, processor_below (view_of m) c p a e, count_few m v, h.count)) h.processors

-- ---- LOADIWKEY

xmm-length : (n : ℕ) (cpu : List ℕ) → length cpu ≡ cpu_size → length (xmm n cpu) ≡ 16
xmm-length n cpu h = length-take-le 16 (drop (xmm_at n) cpu) (simp length-drop (omega arith))

plain_shaped : (l : LoadIwKey) (cpu : List ℕ) → length cpu ≡ cpu_size → ShapedKey (plain_key l cpu)
plain_shaped l cpu h =
    let low = register_of l.src2 in
    record {
      integrity = xmm-length 0 cpu h;
      encryption = length-append (xmm low cpu) (xmm l.src1 cpu) ∙ omega (arith, xmm-length low cpu h, xmm-length l.src1 cpu h);
    }

mixed_shaped : (random : List ℕ) (k : IwKey) → length random ≡ 48 → ShapedKey k → ShapedKey (mixed_with random k)
mixed_shaped random k n h =
    let p : length (part 16 32 random) ≡ 16 = length-take-le 16 (drop 32 random) (simp length-drop (omega arith)) in
    let q : length (part 32 0 random) ≡ 32 = length-take-le 32 random (omega arith) in
    record {
      integrity = xor_length k.integrity (part 16 32 random) (omega (arith, h.integrity)) ∙ h.integrity;
      encryption = xor_length k.encryption (part 32 0 random) (omega (arith, h.encryption)) ∙ h.encryption;
    }

-- random data is there where it is used
ready : (random cpu : List ℕ) → random_length (length random) ≡ true → not_ready random cpu ≡ false → eqb (key_source cpu) 1 ≡ true
    → length random ≡ 48
ready random cpu r e u =
    eqb-true (length random) 48 (last (eqb (key_source cpu) 1) (eqb (length random) 0) (eqb (length random) 48) r e u)
  where
    last : (a b c : Bool) → (b || c) ≡ true → (a && b) ≡ false → a ≡ true → c ≡ true
    last true true c r e u = absurd (true≢false e)
    last true false c r e u = r
    last false b c r e u = absurd (false≢true u)

pub loaded_shaped : (l : LoadIwKey) (random cpu : List ℕ) → length cpu ≡ cpu_size → (eqb (key_source cpu) 1 ≡ true → length random ≡ 48)
    → ShapedKey (loaded_key l random cpu)
unfolding loaded_key
loaded_shaped l random cpu n r =
    let h = plain_shaped l cpu n in
    on_cond ShapedKey (eqb (key_source cpu) 1) _ _ (λ e. mixed_shaped random (plain_key l cpu) (r e) h) (λ e. h)

load_shaped : (l : LoadIwKey) (random : List ℕ) (k : IwKey) (cpu : List ℕ) → length cpu ≡ cpu_size → random_length (length random) ≡ true
    → ShapedKey k → ShapedKey (load l random k cpu).key
load_shaped l random k cpu n r h =
    on_cond (λ (x : Executed). ShapedKey x.key) (not_ready random cpu) _ _ (λ e. h) (λ e. loaded_shaped l random cpu n (ready random cpu r e))

module _ (s : StepCall) (n : length s.cpu ≡ cpu_size) (r : random_length (length s.random) ≡ true) (k : IwKey) (h : ShapedKey k) where
  execute_shaped : (i : Instruction) (bytes : ℕ) → ShapedKey (execute s.memory s.random i bytes k s.cpu).key
  execute_shaped (instruction.Use u) bytes = h
  execute_shaped (instruction.WideUse u) bytes = h
  execute_shaped (instruction.LoadIwKey l) bytes = load_shaped l s.random k s.cpu n r h
  execute_shaped (instruction.EncodeKey e) bytes = h

  stepped_shaped : (d : Decoded) → ShapedKey (stepped s k d).key
  stepped_shaped (decoded.Found what lock bytes) = execute_shaped what bytes
  stepped_shaped decoded.BadByte = h
  stepped_shaped decoded.EndOfString = h
  stepped_shaped decoded.Empty = h

  executed_shaped : ShapedKey (executed s k).key
  unfolding executed
  executed_shaped = stepped_shaped (decode s.string)

-- ---- the backup registers, settle, sleep and wake

abbrev ShapedCopied : Copied → Type 0
ShapedCopied x = ShapedKey x.processor.key × ShapedPlatform x.platform

out_shaped : (e : Processor) (f : Platform) → ShapedKey e.key → ShapedPlatform f → ShapedCopied (copy_out e f)
unfolding copy_out
out_shaped e f h g =
    on_cond ShapedCopied (eqb e.key.no_backup 1 || eqb f.pending 1) _ _ (λ t. (h, g)) (λ t. (h, record { backup = h; store = g.store }))

in_shaped : (e : Processor) (f : Platform) → ShapedKey e.key → ShapedPlatform f → ShapedCopied (copy_in e f)
unfolding copy_in
in_shaped e f h g = on_cond ShapedCopied (eqb f.backup.present 1) _ _ (λ t. (g.backup, g)) (λ t. (h, g))

written_shaped : (address value : ℕ) (e : Processor) (f : Platform) → ShapedKey e.key → ShapedPlatform f
    → ShapedCopied (written address value e f)
written_shaped address value e f h g =
    on_cond ShapedCopied (bit 0 value) _ _
    (λ t. on_cond ShapedCopied (eqb address 0xD91) _ _ (λ t. out_shaped e f h g) (λ t. in_shaped e f h g))
    (λ t. (h, g))

settled_shaped : (code : ℕ) (f : Platform) → ShapedPlatform f → ShapedPlatform (settled code f)
unfolding settled
settled_shaped code f h =
    on_cond ShapedPlatform (eqb f.pending 1) _ _
    (λ t.
    on_cond (λ (g : Platform). ShapedPlatform (with_pending 0 (with_consumed 1 g))) (eqb code 0) _ _
    (λ t. record { backup = h.backup; store = h.backup })
    (λ t. record { backup = h.backup; store = zero_shaped }))
    (λ t. h)

taken_shaped : (f : Platform) → ShapedPlatform f → ShapedPlatform (with_taken f)
unfolding with_taken
taken_shaped f h =
    on_cond ShapedPlatform (eqb f.pending 1) _ _ (λ t. record { backup = h.backup; store = h.store }) (λ t. h)

kept_shaped : (code : ℕ) (f : Platform) → ShapedPlatform f → ShapedKey (store_kept code f).key
kept_shaped code f h =
    let P : Slot → Type 0 = λ s. ShapedKey s.key in
    on_cond P (eqb code 2) _ _ (λ t. zero_shaped) (λ t. on_cond P (eqb code 1 && eqb f.pending 1) _ _ (λ t. h.backup) (λ t. h.store))

woken_shaped : (code : ℕ) (f : Platform) → ShapedPlatform f → ShapedPlatform (woken code f)
unfolding woken
woken_shaped code f h = record { backup = kept_shaped code f h; store = kept_shaped code f h }

-- ---- all

-- a processor stored
set_shaped : (l : List Processor) (p : ℕ) (e : Processor) → ShapedKey e.key → ShapedEntries l → ShapedEntries (set l p e)
set_shaped [] p e k h = tt
set_shaped (x ∷ l) zero e k h = (k, h.1)
set_shaped (x ∷ l) (suc p) e k h = (h.0, set_shaped l p e k h.1)

stored_shaped : (m : Machine) (p : ℕ) (e : Processor) (f : Platform) → ShapedKey e.key → ShapedPlatform f → Shaped m
    → Shaped (with_platform f (with_processor p e m))
stored_shaped m p e f k g h =
    record {
      count = length-set m.processors p e ∙ h.count;
      processors = set_shaped m.processors p e k h.processors;
      platform = g;
    }

perform_shaped : (m : Machine) (c : Call) → T (valid m) → refusal (view_of m) c ≡ 0 → Shaped m → Shaped (perform m c).machine
unfolding perform
perform_shaped m (step s) v t h =
    let e = processor_at m s.processor in
    stored_shaped m s.processor (with_key (executed s e.key).key e) m.platform
    (executed_shaped s (cpu_length (view_of m) s t) (random_length_lem (view_of m) s t) e.key (processor_shaped m (step s) s.processor refl v t h)) h.platform h
perform_shaped m (counter c) v t h = h
perform_shaped m (read r) v t h = h
perform_shaped m (write w) v t h =
    let e = processor_at m w.processor in
    let x = written w.address w.value e m.platform in
    let k = written_shaped w.address w.value e m.platform (processor_shaped m (write w) w.processor refl v t h) h.platform in
    stored_shaped m w.processor x.processor x.platform k.0 k.1 h
perform_shaped m (settle s) v t h =
    record { count = h.count; processors = h.processors; platform = settled_shaped s.code m.platform h.platform }
perform_shaped m (sleep s) v t h =
    zeros_shaped m.count m.features (woken s.code m.platform) (woken_shaped s.code m.platform h.platform)
perform_shaped m reset v t h = fresh_shaped m.count m.features
perform_shaped m taken v t h =
    record { count = h.count; processors = h.processors; platform = taken_shaped m.platform h.platform }

pub call_shaped : (m : Machine) (c : Call) → Shaped m → Shaped (call m c).machine
call_shaped m c h =
    by_number m c (λ o. Shaped o.machine) (λ e. let a = accepted_parts m c e in perform_shaped m c a.0 a.1 h) (λ e. h)
