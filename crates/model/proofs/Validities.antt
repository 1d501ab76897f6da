-- A call keeps what refusal 1 asks of the machine, the count and the features.
-- Assumes nothing.
use mathlib.Core.Path.{◌≡◌, ◌∙◌, refl, sym, subst}
use mathlib.Core.Bool.{Bool, true, false, cond, not, ◌&&◌, ◌||◌}
use mathlib.Core.List.{List, [], ◌∷◌}
use Prim.Native.Nat.{ℕ, zero, suc, ◌+◌, ◌^◌, ◌/◌, ◌<◌, ◌≤◌}
use native.Mathlib.Omega.{arith}
use lib.Dec.{T, eqb, leb, ltb, ltb→lt, lt→ltb, leb→le}
use lib.ListN.{get_or, set, replicate}
use borrow.Author.Tests.{ltb-false, lt-ltb}
use Rattle.bits.proofs.Choice.{cond_on, or_left, or_right, and_left, and_right, and_both, T_true, true-T, on_cond}
use Rattle.isa.specs.Decode.{decode}
use Rattle.isa.specs.declared.Decoded.{Decoded}
use Rattle.isa.specs.declared.Decoded.TheVariants as decoded
use Rattle.isa.specs.declared.Instruction.TheVariants as instruction
use Rattle.isa.specs.declared.LoadIwKey.{LoadIwKey}
use Rattle.model.specs.Numbers.{bit}
use Rattle.model.specs.Cpu.{cpl, eax}
use Rattle.model.specs.Forms.{no_backup_bit, key_source, not_ready}
use Rattle.model.specs.Instructions.{plain_key, mixed_with, loaded_key, executed}
use Rattle.model.specs.History.{load_in, makes, key_made}
use Rattle.model.specs.Records.{processor_limit, with_processor, with_processors, with_platform, no_backup_supported, random_source, zero_processor, no_processor, processor_at, absent, holding, with_key, with_copy_status, with_backup, with_store, with_pending, with_valid, with_error, with_consumed}
use Rattle.model.specs.Calls.{PowerOn, StepCall, Call, step, counter, read, write, settle, sleep, reset, taken, Outcome}
use Rattle.model.specs.Validity.{flag, valid_count, valid_features, valid_key, is_zero_key, valid_processor, valid_processors, valid_slot, valid_platform, valid}
use Rattle.model.specs.Refusals.{View, load_fault, refusal}
use Rattle.model.specs.Backup.{Copied, copy_out, copy_in, written, settled, with_taken, store_kept, woken}
use Rattle.model.specs.Execution.{fresh, done, view_of, perform, number_of, call, power_on}
use Rattle.model.specs.declared.IwKey.{IwKey}
use Rattle.model.specs.declared.Processor.{Processor}
use Rattle.model.specs.declared.Slot.{Slot}
use Rattle.model.specs.declared.Platform.{Platform}
use Rattle.model.specs.declared.Machine.{Machine}
use Rattle.model.proofs.Refusals.{processor_below, no_fault}
use Rattle.model.proofs.Frames.{by_number, executed_key}

-- ---- processors

zero_processor_lem : (below : Bool) → T (valid_processor below zero_processor)
zero_processor_lem true = tt
zero_processor_lem false = tt

zero-processors : (count i n : ℕ) → T (valid_processors count i (replicate n zero_processor))
unfolding valid_processors
zero-processors count i zero = tt
zero-processors count i (suc n) =
    and_both (valid_processor (ltb i count) zero_processor) (valid_processors count (suc i) (replicate n zero_processor))
    (zero_processor_lem (ltb i count)) (zero-processors count (suc i) n)

-- processor p, counted from the list's first, which has number i
processor_in : (count i : ℕ) (l : List Processor) (p : ℕ) → T (valid_processors count i l) → i + p < count → T (valid_processor true (get_or l p no_processor))
unfolding valid_processors
processor_in count i [] p t h = tt
processor_in count i (e ∷ l) zero t h =
    let q : i < count = omega arith in
    subst (λ (b : Bool). T (valid_processor b e)) (lt-ltb i count q)
    (and_left (valid_processor (ltb i count) e) (valid_processors count (suc i) l) t)
processor_in count i (e ∷ l) (suc p) t h =
    processor_in count (suc i) l p (and_right (valid_processor (ltb i count) e) (valid_processors count (suc i) l) t) (omega arith)

processors-set : (count i : ℕ) (l : List Processor) (p : ℕ) (x : Processor) → T (valid_processors count i l) → i + p < count → T (valid_processor true x)
    → T (valid_processors count i (set l p x))
unfolding valid_processors
processors-set count i [] p x t h v = t
processors-set count i (e ∷ l) zero x t h v =
    let q : i < count = omega arith in
    and_both (valid_processor (ltb i count) x) (valid_processors count (suc i) l)
    (subst (λ (b : Bool). T (valid_processor b x)) (sym (lt-ltb i count q)) v)
    (and_right (valid_processor (ltb i count) e) (valid_processors count (suc i) l) t)
processors-set count i (e ∷ l) (suc p) x t h v =
    and_both (valid_processor (ltb i count) e) (valid_processors count (suc i) (set l p x))
    (and_left (valid_processor (ltb i count) e) (valid_processors count (suc i) l) t)
    (processors-set count (suc i) l p x (and_right (valid_processor (ltb i count) e) (valid_processors count (suc i) l) t) (omega arith) v)

-- ---- the platform

record PlatformParts (f : Platform) : Type 0 where
  backup : T (valid_slot f.backup)
  store : T (valid_slot f.store)
  pending : T (flag f.pending)
  valid : T (flag f.valid)
  error : T (flag f.error)
  consumed : T (flag f.consumed)

platform_parts : (f : Platform) → T (valid_platform f) → PlatformParts f
platform_parts f t =
    let a = valid_slot f.backup in
    let b = valid_slot f.store in
    let c = flag f.pending in
    let d = flag f.valid in
    let e = flag f.error in
    let g = flag f.consumed in
    let t5 = and_left (a && b && c && d && e) g t in
    let t4 = and_left (a && b && c && d) e t5 in
    let t3 = and_left (a && b && c) d t4 in
    let t2 = and_left (a && b) c t3 in
    record {
      backup = and_left a b t2;
      store = and_right a b t2;
      pending = and_right (a && b) c t3;
      valid = and_right (a && b && c) d t4;
      error = and_right (a && b && c && d) e t5;
      consumed = and_right (a && b && c && d && e) g t;
    }

platform_of : (f : Platform) → PlatformParts f → T (valid_platform f)
platform_of f p =
    let a = valid_slot f.backup in
    let b = valid_slot f.store in
    let c = flag f.pending in
    let d = flag f.valid in
    let e = flag f.error in
    let g = flag f.consumed in
    and_both (a && b && c && d && e) g
    (and_both (a && b && c && d) e
    (and_both (a && b && c) d (and_both (a && b) c (and_both a b p.backup p.store) p.pending) p.valid)
    p.error)
    p.consumed

settled-valid : (code : ℕ) (f : Platform) → T (valid_platform f) → T (valid_platform (settled code f))
unfolding settled
settled-valid code f t = go (eqb f.pending 1) (eqb code 0)
  where
    p : PlatformParts f
    p = platform_parts f t

    go : (a b : Bool)
        → T (valid_platform
        (cond a
        (with_pending 0 (with_consumed 1 (cond b (with_store f.backup (with_valid 1 (with_error 0 f))) (with_store absent (with_valid 0 (with_error 1 f))))))
        f))
    go true true =
        platform_of (with_pending 0 (with_consumed 1 (with_store f.backup (with_valid 1 (with_error 0 f)))))
        (record { backup = p.backup; store = p.backup; pending = tt; valid = tt; error = tt; consumed = tt })
    go true false =
        platform_of (with_pending 0 (with_consumed 1 (with_store absent (with_valid 0 (with_error 1 f)))))
        (record { backup = p.backup; store = tt; pending = tt; valid = tt; error = tt; consumed = tt })
    go false b = t

taken-valid : (f : Platform) → T (valid_platform f) → T (valid_platform (with_taken f))
unfolding with_taken
taken-valid f t =
    let p = platform_parts f t in
    on_cond (λ g. T (valid_platform g)) (eqb f.pending 1) (with_consumed 1 f) f
    (λ e.
    platform_of (with_consumed 1 f)
    (record { backup = p.backup; store = p.store; pending = p.pending; valid = p.valid; error = p.error; consumed = tt }))
    (λ e. t)

one_or_zero : (b : Bool) → T (flag (cond b 1 0))
one_or_zero true = tt
one_or_zero false = tt

woken-valid : (code : ℕ) (f : Platform) → T (valid_platform f) → T (valid_platform (woken code f))
unfolding woken
woken-valid code f t =
    let p = platform_parts f t in
    let kept : T (valid_slot (store_kept code f)) =
    on_cond (λ s. T (valid_slot s)) (eqb code 2) absent (cond (eqb code 1 && eqb f.pending 1) f.backup f.store) (λ e. tt)
    (λ e. on_cond (λ s. T (valid_slot s)) (eqb code 1 && eqb f.pending 1) f.backup f.store (λ e. p.backup) (λ e. p.store)) in
    platform_of (woken code f)
    (record {
      backup = kept;
      store = kept;
      pending = tt;
      valid = one_or_zero (eqb (store_kept code f).present 1);
      error = one_or_zero (eqb code 2);
      consumed = tt;
    })

-- ---- a register write

record CopiedValid (x : Copied) : Type 0 where
  processor : T (valid_processor true x.processor)
  platform : T (valid_platform x.platform)

-- the IWKey of a processor below the count, and of a backup that is there
key_of : (e : Processor) → T (valid_processor true e) → T (valid_key e.key)
key_of e t = and_left (valid_key e.key) (flag e.copy_status) t

slot_key : (s : Slot) → T (valid_slot s) → eqb s.present 1 ≡ true → T (valid_key s.key)
slot_key s t q =
    subst (λ (b : Bool). T (cond b (valid_key s.key) (is_zero_key s.key))) q
    (and_right (flag s.present) (cond (eqb s.present 1) (valid_key s.key) (is_zero_key s.key)) t)

marked : (b : ℕ) (e : Processor) → T (flag b) → T (valid_key e.key) → T (valid_processor true (with_copy_status b e))
marked b e t k = and_both (valid_key e.key) (flag b) k t

out_valid : (e : Processor) (f : Platform) → T (valid_processor true e) → T (valid_platform f) → CopiedValid (copy_out e f)
unfolding copy_out
out_valid e f t u =
    let p = platform_parts f u in
    let g = with_backup (holding e.key) (with_pending 1 (with_valid 0 (with_error 0 (with_consumed 0 f)))) in
    on_cond CopiedValid (eqb e.key.no_backup 1 || eqb f.pending 1) (record { processor = with_copy_status 0 e; platform = f })
    (record { processor = with_copy_status 1 e; platform = g })
    (λ q. record { processor = marked 0 e tt (key_of e t); platform = u })
    (λ q.
    record {
      processor = marked 1 e tt (key_of e t);
      platform = platform_of g (record { backup = key_of e t; store = p.store; pending = tt; valid = tt; error = tt; consumed = tt });
    })

in_valid : (e : Processor) (f : Platform) → T (valid_processor true e) → T (valid_platform f) → CopiedValid (copy_in e f)
unfolding copy_in
in_valid e f t u =
    let p = platform_parts f u in
    let x = with_key f.backup.key e in
    on_cond CopiedValid (eqb f.backup.present 1) (record { processor = with_copy_status 1 x; platform = f })
    (record { processor = with_copy_status 0 e; platform = f })
    (λ q. record { processor = marked 1 x tt (slot_key f.backup p.backup q); platform = u })
    (λ q. record { processor = marked 0 e tt (key_of e t); platform = u })

written-valid : (address value : ℕ) (e : Processor) (f : Platform) → T (valid_processor true e) → T (valid_platform f)
    → CopiedValid (written address value e f)
written-valid address value e f t u =
    on_cond CopiedValid (bit 0 value) (cond (eqb address 0xD91) (copy_out e f) (copy_in e f)) (record { processor = e; platform = f })
    (λ q. on_cond CopiedValid (eqb address 0xD91) (copy_out e f) (copy_in e f) (λ r. out_valid e f t u) (λ r. in_valid e f t u))
    (λ q. record { processor = t; platform = u })

-- ---- a step

loaded_valid : (features : ℕ) (l : LoadIwKey) (random cpu : List ℕ) → load_fault features cpu ≡ false → T (valid_key (loaded_key l random cpu))
unfolding loaded_key
loaded_valid features l random cpu q =
    on_cond (λ k. T (valid_key k)) (eqb (key_source cpu) 1) (mixed_with random (plain_key l cpu)) (plain_key l cpu) (λ e. v) (λ e. v)
  where
    small : key_source cpu ≤ 1
    small =
        let a = ltb 0 (cpl cpu) in
        let b = ltb 1 (key_source cpu) in
        let c = not (eqb (eax cpu / 2 ^ 5) 0) in
        let d = eqb (no_backup_bit cpu) 1 && not (no_backup_supported features) in
        let e = eqb (key_source cpu) 1 && not (random_source features) in
        ltb-false 1 (key_source cpu) (or_right a b (or_left (a || b) c (or_left (a || b || c) d (or_left (a || b || c || d) e q))))

    v : T (flag (key_source cpu) && flag (no_backup_bit cpu))
    v = and_both (flag (key_source cpu)) (flag (no_backup_bit cpu)) (lt→ltb (key_source cpu) 2 (omega (arith, small))) (lt→ltb (no_backup_bit cpu) 2 (omega arith))

executed-valid : (v : View) (s : StepCall) → refusal v (step s) ≡ 0 → (k : IwKey) → T (valid_key k) → T (valid_key (executed s k).key)
executed-valid v s a k t = subst (λ (x : IwKey). T (valid_key x)) (sym (executed_key s k)) (go (decode s.string) refl)
  where
    made : (l : LoadIwKey) (lock : Bool) (bytes : ℕ) → decode s.string ≡ decoded.Found (instruction.LoadIwKey l) lock bytes
        → T (valid_key (cond (not (not_ready s.random s.cpu)) (loaded_key l s.random s.cpu) k))
    made l lock bytes q =
        on_cond (λ x. T (valid_key x)) (not (not_ready s.random s.cpu)) (loaded_key l s.random s.cpu) k
        (λ e. loaded_valid v.features l s.random s.cpu (no_fault v s a (instruction.LoadIwKey l) lock bytes q))
        (λ e. t)

    go : (d : Decoded) → decode s.string ≡ d → T (valid_key (cond (makes s (load_in d)) (key_made s (load_in d)) k))
    go (decoded.Found (instruction.Use u) lock bytes) q = t
    go (decoded.Found (instruction.WideUse u) lock bytes) q = t
    go (decoded.Found (instruction.LoadIwKey l) lock bytes) q = made l lock bytes q
    go (decoded.Found (instruction.EncodeKey e) lock bytes) q = t
    go decoded.BadByte q = t
    go decoded.EndOfString q = t
    go decoded.Empty q = t

-- ---- the machine

pub record MachineParts (m : Machine) : Type 0 where
  pub count : T (valid_count m.count)
  pub features : T (valid_features m.features)
  pub processors : T (valid_processors m.count 0 m.processors)
  pub platform : T (valid_platform m.platform)

pub machine_parts : (m : Machine) → T (valid m) → MachineParts m
unfolding valid
machine_parts m t =
    let a = valid_count m.count in
    let b = valid_features m.features in
    let c = valid_processors m.count 0 m.processors in
    let d = valid_platform m.platform in
    let t3 = and_left (a && b && c) d t in
    let t2 = and_left (a && b) c t3 in
    record { count = and_left a b t2; features = and_right a b t2; processors = and_right (a && b) c t3; platform = and_right (a && b && c) d t }

pub pending-flag : (m : Machine) → T (valid m) → m.platform.pending < 2
pending-flag m t = ltb→lt m.platform.pending 2 (platform_parts m.platform (machine_parts m t).platform).pending

pub status_flags : (m : Machine) → T (valid m) → (m.platform.valid < 2) × (m.platform.error < 2) × (m.platform.consumed < 2)
status_flags m t =
    let f = m.platform in
    let p = platform_parts f (machine_parts m t).platform in
    (ltb→lt f.valid 2 p.valid, ltb→lt f.error 2 p.error, ltb→lt f.consumed 2 p.consumed)

pub count_few : (m : Machine) → T (valid m) → m.count ≤ processor_limit
count_few m t = leb→le m.count processor_limit (and_right (leb 1 m.count) (leb m.count processor_limit) (machine_parts m t).count)

machine_of : (m : Machine) → MachineParts m → T (valid m)
unfolding valid
machine_of m p =
    let a = valid_count m.count in
    let b = valid_features m.features in
    let c = valid_processors m.count 0 m.processors in
    let d = valid_platform m.platform in
    and_both (a && b && c) d (and_both (a && b) c (and_both a b p.count p.features) p.processors) p.platform

fresh-valid : (count features : ℕ) → T (valid_count count) → T (valid_features features) → T (valid (fresh count features))
fresh-valid count features c f =
    machine_of (fresh count features) (record { count = c; features = f; processors = zero-processors count 0 processor_limit; platform = tt })

pub power_on-valid : (p : PowerOn) → (power_on p).answer.number ≡ 0 → ((power_on p).machine ≡ fresh p.count p.features) × T (valid (fresh p.count p.features))
power_on-valid p e = go (valid_count p.count && valid_features p.features) refl e
  where
    power : Bool → Outcome
    power t =
        cond (eqb (cond (not t) 1 0) 0) (done (fresh p.count p.features) [] [] 0)
        (record { machine = fresh 0 0; answer = record { number = cond (not t) 1 0; cpu = []; buffer = []; value = 0 } })

    go : (t : Bool) → (valid_count p.count && valid_features p.features) ≡ t → (power t).answer.number ≡ 0
        → ((power t).machine ≡ fresh p.count p.features) × T (valid (fresh p.count p.features))
    go true q z =
        let v = true-T (valid_count p.count && valid_features p.features) q in (
          refl,
          fresh-valid p.count p.features (and_left (valid_count p.count) (valid_features p.features) v)
              (and_right (valid_count p.count) (valid_features p.features) v),
        )
    go false q z = let n : ◌≡◌ {A = ℕ} 1 0 = z in absurd (omega arith)

perform-valid : (m : Machine) (c : Call) → refusal (view_of m) c ≡ 0 → T (valid m) → T (valid (perform m c).machine)
unfolding perform
perform-valid m (step s) a t =
    let p = machine_parts m t in
    let below = processor_below (view_of m) (step s) s.processor a refl in
    let e = processor_at m s.processor in
    let v = processor_in m.count 0 m.processors s.processor p.processors (omega arith) in
    let k = (executed s e.key).key in
    machine_of (with_processor s.processor (with_key k e) m)
    (record {
      count = p.count;
      features = p.features;
      processors =
          processors-set m.count 0 m.processors s.processor (with_key k e) p.processors (omega arith)
          (and_both (valid_key k) (flag e.copy_status) (executed-valid (view_of m) s a e.key (key_of e v))
          (and_right (valid_key e.key) (flag e.copy_status) v));
      platform = p.platform;
    })
perform-valid m (counter c) a t = t
perform-valid m (read r) a t = t
perform-valid m (write w) a t =
    let p = machine_parts m t in
    let below = processor_below (view_of m) (write w) w.processor a refl in
    let e = processor_at m w.processor in
    let v = processor_in m.count 0 m.processors w.processor p.processors (omega arith) in
    let x = written w.address w.value e m.platform in
    let c = written-valid w.address w.value e m.platform v p.platform in
    machine_of (with_platform x.platform (with_processor w.processor x.processor m))
    (record {
      count = p.count;
      features = p.features;
      processors =
          processors-set m.count 0 m.processors w.processor x.processor p.processors (omega arith) c.processor;
      platform = c.platform;
    })
perform-valid m (settle s) a t =
    let p = machine_parts m t in
    machine_of (with_platform (settled s.code m.platform) m)
    (record { count = p.count; features = p.features; processors = p.processors; platform = settled-valid s.code m.platform p.platform })
perform-valid m (sleep s) a t =
    let p = machine_parts m t in
    machine_of (with_processors (replicate processor_limit zero_processor) (with_platform (woken s.code m.platform) m))
    (record {
      count = p.count;
      features = p.features;
      processors = zero-processors m.count 0 processor_limit;
      platform = woken-valid s.code m.platform p.platform;
    })
perform-valid m reset a t = let p = machine_parts m t in fresh-valid m.count m.features p.count p.features
perform-valid m taken a t =
    let p = machine_parts m t in
    machine_of (with_platform (with_taken m.platform) m)
    (record { count = p.count; features = p.features; processors = p.processors; platform = taken-valid m.platform p.platform })

-- a valid machine's number is the refusal of its view
pub valid_number : (m : Machine) (c : Call) → T (valid m) → number_of m c ≡ refusal (view_of m) c
valid_number m c t = cond_on (T_true (valid m) t) (refusal (view_of m) c) 1

pub call-valid : (m : Machine) (c : Call) → T (valid m) → T (valid (call m c).machine)
call-valid m c t =
    by_number m c (λ o. T (valid o.machine)) (λ e. perform-valid m c (sym (valid_number m c t) ∙ e) t) (λ e. t)

-- count and features are never changed
pub call_view : (m : Machine) (c : Call) → view_of (call m c).machine ≡ view_of m
unfolding perform
call_view m c = by_number m c (λ o. view_of o.machine ≡ view_of m) (λ e. kept c) (λ e. refl)
  where
    kept : (c : Call) → view_of (perform m c).machine ≡ view_of m
    kept (step s) = refl
    kept (counter c) = refl
    kept (read r) = refl
    kept (write w) = refl
    kept (settle s) = refl
    kept (sleep s) = refl
    kept reset = refl
    kept taken = refl
