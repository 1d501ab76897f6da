-- Demand 3 holds: along every list of calls from a power-on that was not refused. So does what is said of counter calls beside it.
-- Assumes nothing.
use mathlib.Core.Path.{◌≡◌, ◌∙◌, refl, sym, ap, subst}
use mathlib.Core.Bool.{Bool, true, not, ◌&&◌}
use mathlib.Core.List.{List, [], ◌∷◌, ◌++◌, append_assoc}
use mathlib.Core.Option.{Option, none, some, map, some-injective, none-ne-some}
use Prim.Native.Nat.{ℕ, ◌+◌, ◌<◌, ◌≤◌}
use native.Mathlib.Omega.{arith}
use lib.Dec.{T, eqb, ltb, lt→ltb}
use lib.ListN.{length, take}
use borrow.Author.Tests.{ltb-false}
use Rattle.bits.proofs.Choice.{and_both, T_true}
use Rattle.isa.specs.Decode.{decode}
use Rattle.isa.specs.Ranges.{handle_length}
use Rattle.isa.specs.declared.Decoded.{Decoded}
use Rattle.isa.specs.declared.Decoded.TheVariants as decoded
use Rattle.isa.specs.declared.EncodeKey.{EncodeKey}
use Rattle.isa.specs.declared.Instruction.{Instruction}
use Rattle.isa.specs.declared.Instruction.TheVariants as instruction
use Rattle.isa.proofs.Fitting.{OnBlock, block_fits}
use Rattle.isa.proofs.Ranges.{outside_ends, length_some}
use Rattle.model.specs.Records.{processor_at}
use Rattle.model.specs.Cpu.{cpu_size, xmm, zf}
use Rattle.model.specs.Forms.{Form, single, wide, form_of, handle_address, handle_read}
use Rattle.model.specs.Calls.{PowerOn, StepCall, CounterCall, Call, step, counter, Answer, Outcome}
use Rattle.model.specs.Refusals.{View, operands, refusal}
use Rattle.model.specs.Instructions.{encoded_handle, used, execute, advanced, stepped, executed}
use Rattle.model.specs.Counter.{counted}
use Rattle.model.specs.Execution.{perform, call, run, power_on}
use Rattle.model.specs.History.{key_of, name_at, at_first, view_given, history, refusals}
use Rattle.model.specs.Demand3.{Encode, encode_made, encode_in, UseMade, use_made, use_in, encode_of, use_of, Agree, Works, answer_at, given, all_of, every_name, Demand3, Counts, CounterCalls}
use Rattle.model.specs.declared.IwKey.{IwKey}
use Rattle.model.specs.declared.Machine.{Machine}
use Rattle.model.proofs.Parts.{part_length}
use Rattle.model.proofs.Cpu.{registers}
use Rattle.model.proofs.Addresses.{handle_below_64}
use Rattle.model.proofs.Uses.{handle_given, use_zf, use_xmm, counter_counts}
use Rattle.model.proofs.Frames.{step_only, call_performed, call_number}
use Rattle.model.proofs.Refusals.{processor_below, cpu_length, memory_length, handle_inside, handle_sized, never_1}
use Rattle.model.proofs.Validities.{power_on-valid}
use Rattle.model.proofs.Histories.{Holds, key_at, name_given, key_more, number_told, holds_first, holds_run, numbers_run}

-- ---- what an encode and a use are

-- a property of every call that is an encode
encode_cases : (Q : Call → Encode → Type 0)
    → ((s : StepCall) (i : EncodeKey) (lock : Bool) (bytes : ℕ) → decode s.string ≡ decoded.Found (instruction.EncodeKey i) lock bytes
    → Q (step s) (encode_made s i))
    → (c : Call) (e : Encode) → ◌≡◌ {A = Option Encode} (encode_of c) (some e) → Q c e
encode_cases Q f = step_only (λ s. encode_in s (decode s.string)) Q (λ s e q. go s e (decode s.string) refl q)
  where
    go : (s : StepCall) (e : Encode) (d : Decoded) → decode s.string ≡ d → ◌≡◌ {A = Option Encode} (encode_in s d) (some e) → Q (step s) e
    go s e (decoded.Found (instruction.Use u) lock bytes) r q = absurd (none-ne-some e q)
    go s e (decoded.Found (instruction.WideUse u) lock bytes) r q = absurd (none-ne-some e q)
    go s e (decoded.Found (instruction.LoadIwKey l) lock bytes) r q = absurd (none-ne-some e q)
    go s e (decoded.Found (instruction.EncodeKey i) lock bytes) r q =
        subst (λ (x : Encode). Q (step s) x) (some-injective (encode_made s i) e q) (f s i lock bytes r)
    go s e decoded.BadByte r q = absurd (none-ne-some e q)
    go s e decoded.EndOfString r q = absurd (none-ne-some e q)
    go s e decoded.Empty r q = absurd (none-ne-some e q)

-- a property of every call that is a use
use_cases : (Q : Call → UseMade → Type 0)
    → ((s : StepCall) (what : Instruction) (lock : Bool) (bytes : ℕ) (f : Form) → decode s.string ≡ decoded.Found what lock bytes
    → ◌≡◌ {A = Option Form} (form_of what) (some f) → Q (step s) (use_made s bytes f))
    → (c : Call) (u : UseMade) → ◌≡◌ {A = Option UseMade} (use_of c) (some u) → Q c u
use_cases Q g = step_only (λ s. use_in s (decode s.string)) Q (λ s u q. go s u (decode s.string) refl q)
  where
    found : (s : StepCall) (u : UseMade) (what : Instruction) (lock : Bool) (bytes : ℕ) → decode s.string ≡ decoded.Found what lock bytes
        → (o : Option Form) → ◌≡◌ {A = Option Form} (form_of what) o → ◌≡◌ {A = Option UseMade} (map (use_made s bytes) o) (some u) → Q (step s) u
    found s u what lock bytes r none t q = absurd (none-ne-some u q)
    found s u what lock bytes r (some f) t q =
        subst (λ (x : UseMade). Q (step s) x) (some-injective (use_made s bytes f) u q) (g s what lock bytes f r t)

    go : (s : StepCall) (u : UseMade) (d : Decoded) → decode s.string ≡ d → ◌≡◌ {A = Option UseMade} (use_in s d) (some u) → Q (step s) u
    go s u (decoded.Found what lock bytes) r q = found s u what lock bytes r (form_of what) refl q
    go s u decoded.BadByte r q = absurd (none-ne-some u q)
    go s u decoded.EndOfString r q = absurd (none-ne-some u q)
    go s u decoded.Empty r q = absurd (none-ne-some u q)

-- the CPU record after an instruction that was decoded
executed_cpu : (s : StepCall) (k : IwKey) (what : Instruction) (lock : Bool) (bytes : ℕ) → decode s.string ≡ decoded.Found what lock bytes
    → (executed s k).cpu ≡ advanced bytes (execute s.memory s.random what bytes k s.cpu).cpu
unfolding executed
executed_cpu s k what lock bytes q = ap (λ (d : Decoded). (stepped s k d).cpu) q

execute_form : (memory random : List ℕ) (what : Instruction) (bytes : ℕ) (k : IwKey) (cpu : List ℕ) (f : Form)
    → ◌≡◌ {A = Option Form} (form_of what) (some f) → (execute memory random what bytes k cpu).cpu ≡ used memory bytes f k cpu
execute_form memory random (instruction.Use u) bytes k cpu f q =
    ap (λ (x : Form). used memory bytes x k cpu) (some-injective (single u) f q)
execute_form memory random (instruction.WideUse u) bytes k cpu f q =
    ap (λ (x : Form). used memory bytes x k cpu) (some-injective (wide u) f q)
execute_form memory random (instruction.LoadIwKey l) bytes k cpu f q = absurd (none-ne-some f q)
execute_form memory random (instruction.EncodeKey e) bytes k cpu f q = absurd (none-ne-some f q)

-- ---- the blocks of a use are registers, and its handle is in memory

form_registers : (s : List ℕ) (what : Instruction) (lock : Bool) (bytes : ℕ) (f : Form) → decode s ≡ decoded.Found what lock bytes
    → ◌≡◌ {A = Option Form} (form_of what) (some f) → T (registers f.blocks)
form_registers s (instruction.Use u) lock bytes f r q =
    let fits : u.block < 16 = subst OnBlock r (block_fits s 0) in
    subst (λ (x : Form). T (registers x.blocks)) (some-injective (single u) f q)
    (and_both (ltb u.block 16 && true) true (and_both (ltb u.block 16) true (lt→ltb u.block 16 fits) tt) tt)
form_registers s (instruction.WideUse u) lock bytes f r q =
    subst (λ (x : Form). T (registers x.blocks)) (some-injective (wide u) f q) tt
form_registers s (instruction.LoadIwKey l) lock bytes f r q = absurd (none-ne-some f q)
form_registers s (instruction.EncodeKey e) lock bytes f r q = absurd (none-ne-some f q)

module _ (v : View) (s : StepCall) (a : refusal v (step s) ≡ 0) (what : Instruction) (lock : Bool) (bytes : ℕ) (f : Form)
    (r : decode s.string ≡ decoded.Found what lock bytes) (q : ◌≡◌ {A = Option Form} (form_of what) (some f)) where
  pub handle_fits : (handle_address s.cpu bytes f.handle).linear + handle_length f.size ≤ length s.memory
  handle_fits =
      let at = (handle_address s.cpu bytes f.handle).linear in
      let n = handle_length f.size in
      let few = memory_length v s a in
      ltb-false (length s.memory) (at + n)
      (sym (outside_ends (length s.memory) at n (omega arith) (handle_below_64 s.cpu bytes f.handle) (length_some f.size))
      ∙ handle_inside v s a what lock bytes f r q)

  read_length : length (handle_read s.memory s.cpu bytes f) ≡ handle_length f.size
  read_length = part_length s.memory (handle_length f.size) (handle_address s.cpu bytes f.handle).linear handle_fits

-- ---- a use of an encoded handle

-- answer by answer
pub answer_at_lem : (m : Machine) (xs : List Call) (c : Call) (ys : List Call) → answer_at (run m (xs ++ c ∷ ys)) (length xs) ≡ (call (run m xs).machine c).answer
answer_at_lem m [] c ys = refl
answer_at_lem m (x ∷ xs) c ys = answer_at_lem (call m x).machine xs c ys

-- a property of the answers to two calls of a list
by_answers : (m : Machine) (calls xs : List Call) (e : Call) (ys : List Call) (u : Call) (zs : List Call) → calls ≡ xs ++ e ∷ (ys ++ u ∷ zs)
    → (P : Answer → Answer → Type 0) → P (call (run m xs).machine e).answer (call (run m (xs ++ e ∷ ys)).machine u).answer
    → P (answer_at (run m calls) (length xs)) (answer_at (run m calls) (length (xs ++ e ∷ ys)))
by_answers m calls xs e ys u zs split P h =
    let again : calls ≡ (xs ++ e ∷ ys) ++ u ∷ zs = split ∙ sym (append_assoc xs (e ∷ ys) (u ∷ zs)) in
    let gave = ap (λ (l : List Call). answer_at (run m l) (length xs)) split ∙ answer_at_lem m xs e (ys ++ u ∷ zs) in
    let gets = ap (λ (l : List Call). answer_at (run m l) (length (xs ++ e ∷ ys))) again ∙ answer_at_lem m (xs ++ e ∷ ys) u zs in
    subst (λ (a : Answer). P a (answer_at (run m calls) (length (xs ++ e ∷ ys)))) (sym gave)
    (subst (P (call (run m xs).machine e).answer) (sym gets) h)

module _ (p : PowerOn) (m : Machine) (first : Holds p [] m (at_first p)) where
  abbrev machine_after : List Call → Machine
  machine_after xs = (run m xs).machine

  pub holds : (xs : List Call) → Holds p xs (machine_after xs) (history p xs)
  holds xs = holds_run p [] xs m (at_first p) first

  module _ (xs : List Call) (c : Call) (zero : (call (machine_after xs) c).answer.number ≡ 0) where
    pub not_refused : refusal (view_given p) c ≡ 0
    not_refused = sym (number_told p xs c (machine_after xs) (history p xs) (holds xs)) ∙ sym (call_number (machine_after xs) c) ∙ zero

    pub was_performed : call (machine_after xs) c ≡ perform (machine_after xs) c
    was_performed = call_performed (machine_after xs) c (sym (call_number (machine_after xs) c) ∙ zero)

    -- its processor holds the key that the history names
    named_key : (q : ℕ) → (operands c).processor ≡ some q → (processor_at (machine_after xs) q).key ≡ key_of xs (name_at q (history p xs))
    named_key q r =
        key_at p xs (machine_after xs) (history p xs) (holds xs) q (processor_below (view_given p) c q not_refused r)

  -- the CPU record after a step: under that key
  module _ (xs : List Call) (s : StepCall) (done : (call (machine_after xs) (step s)).answer.number ≡ 0)
      (what : Instruction) (lock : Bool) (bytes : ℕ) (found : decode s.string ≡ decoded.Found what lock bytes) where
    cpu_after : (call (machine_after xs) (step s)).answer.cpu
        ≡ advanced bytes (execute s.memory s.random what bytes (key_of xs (name_at s.processor (history p xs))) s.cpu).cpu
    unfolding perform
    cpu_after =
        ap (λ (o : Outcome). o.answer.cpu) (was_performed xs (step s) done)
        ∙ executed_cpu s (processor_at (machine_after xs) s.processor).key what lock bytes found
        ∙ ap (λ (k : IwKey). advanced bytes (execute s.memory s.random what bytes k s.cpu).cpu) (named_key xs (step s) done s.processor refl)

  -- the encode s and, after the calls ys, the same name
  module _ (xs : List Call) (s : StepCall) (ys : List Call) where
    abbrev between : List Call
    between = xs ++ step s ∷ ys

    abbrev name : ℕ
    name = name_at s.processor (history p xs)

    abbrev k : IwKey
    k = key_of xs name

    same_key : (q : ℕ) → name ≡ name_at q (history p between) → key_of between (name_at q (history p between)) ≡ k
    same_key q e =
        ap (key_of between) (sym e) ∙ key_more p xs (step s ∷ ys) name (name_given p xs (machine_after xs) (history p xs) (holds xs) s.processor)

    module _ (i : EncodeKey) (lock : Bool) (bytes : ℕ) (r : decode s.string ≡ decoded.Found (instruction.EncodeKey i) lock bytes)
        (ne : (call (machine_after xs) (step s)).answer.number ≡ 0) where
      encode_length : length s.cpu ≡ cpu_size
      encode_length = cpu_length (view_given p) s (not_refused xs (step s) ne)

      given_handle : take (handle_length i.size) (call (machine_after xs) (step s)).answer.cpu ≡ encoded_handle i k s.cpu
      given_handle =
          ap (take (handle_length i.size)) (cpu_after xs s ne (instruction.EncodeKey i) lock bytes r) ∙ handle_given i k s.cpu encode_length bytes

      -- the use t
      steps_work : (t : StepCall) (what : Instruction) (lock' : Bool) (bytes' : ℕ) (f : Form) → decode t.string ≡ decoded.Found what lock' bytes'
          → ◌≡◌ {A = Option Form} (form_of what) (some f) → (call (machine_after between) (step t)).answer.number ≡ 0
          → name ≡ name_at t.processor (history p between)
          → Agree (use_made t bytes' f).bytes_read (take (handle_length i.size) (call (machine_after xs) (step s)).answer.cpu)
          → Works (encode_made s i) (use_made t bytes' f) (call (machine_after between) (step t)).answer.cpu
      steps_work t what lock' bytes' f r' q nu names agree =
          let l = encode_length in
          let accepted = not_refused between (step t) nu in
          let l' = cpu_length (view_given p) t accepted in
          let same = subst (Agree (use_made t bytes' f).bytes_read) given_handle agree in
          let after : (call (machine_after between) (step t)).answer.cpu ≡ advanced bytes' (used t.memory bytes' f k t.cpu) =
          cpu_after between t nu what lock' bytes' r'
          ∙ ap (advanced bytes')
          (execute_form t.memory t.random what bytes' (key_of between (name_at t.processor (history p between))) t.cpu f q)
          ∙ ap (λ (x : IwKey). advanced bytes' (used t.memory bytes' f x t.cpu)) (same_key t.processor names) in
          let fits = form_registers t.string what lock' bytes' f r' q in
          let n = read_length (view_given p) t accepted what lock' bytes' f r' q in (
            ap zf after ∙ use_zf i k s.cpu l t.memory bytes' f fits t.cpu l' n same,
            λ j h. ap (xmm j) after ∙ use_xmm i k s.cpu l t.memory bytes' f fits t.cpu l' n same j h,
          )

      -- the counter call c
      call_counts : (c : CounterCall) → (call (machine_after between) (counter c)).answer.number ≡ 0 → name ≡ name_at c.processor (history p between)
          → Agree c.handle (take (handle_length i.size) (call (machine_after xs) (step s)).answer.cpu)
          → Counts (encode_made s i) c (call (machine_after between) (counter c)).answer
      unfolding perform
      call_counts c nc names agree =
          let after : counted c (processor_at (machine_after between) c.processor).key ≡ counted c k =
          ap (counted c) (named_key between (counter c) nc c.processor refl ∙ same_key c.processor names) in
          let all = after
          ∙ counter_counts i k s.cpu encode_length c (handle_sized (view_given p) c (not_refused between (counter c) nc))
          (subst (Agree c.handle) given_handle agree) in
          let o = was_performed between (counter c) nc in
          ((λ j. (o j).answer.cpu) ∙ (λ j. (all j).cpu), (λ j. (o j).answer.buffer) ∙ (λ j. (all j).buffer))

  use_works : (xs : List Call) (e : Call) (ys : List Call) (u : Call)
      → (encode : Encode) → ◌≡◌ {A = Option Encode} (encode_of e) (some encode) → (call (machine_after xs) e).answer.number ≡ 0
      → (made : UseMade) → ◌≡◌ {A = Option UseMade} (use_of u) (some made) → (call (machine_after (xs ++ e ∷ ys)) u).answer.number ≡ 0
      → name_at encode.processor (history p xs) ≡ name_at made.processor (history p (xs ++ e ∷ ys))
      → Agree made.bytes_read (take (handle_length encode.size) (call (machine_after xs) e).answer.cpu)
      → Works encode made (call (machine_after (xs ++ e ∷ ys)) u).answer.cpu
  use_works xs e ys u encode qe ne made qu nu =
      encode_cases
      (λ c x.
      (call (machine_after xs) c).answer.number ≡ 0 → (call (machine_after (xs ++ c ∷ ys)) u).answer.number ≡ 0
      → name_at x.processor (history p xs) ≡ name_at made.processor (history p (xs ++ c ∷ ys))
      → Agree made.bytes_read (take (handle_length x.size) (call (machine_after xs) c).answer.cpu)
      → Works x made (call (machine_after (xs ++ c ∷ ys)) u).answer.cpu)
      (λ s i lock bytes r.
      use_cases
      (λ c y.
      (call (machine_after xs) (step s)).answer.number ≡ 0 → (call (machine_after (xs ++ step s ∷ ys)) c).answer.number ≡ 0
      → name_at s.processor (history p xs) ≡ name_at y.processor (history p (xs ++ step s ∷ ys))
      → Agree y.bytes_read (take (handle_length i.size) (call (machine_after xs) (step s)).answer.cpu)
      → Works (encode_made s i) y (call (machine_after (xs ++ step s ∷ ys)) c).answer.cpu)
      (λ t what lock' bytes' f r' q ne' nu' names agree.
      steps_work xs s ys i lock bytes r ne' t what lock' bytes' f r' q nu' names agree)
      u made qu)
      e encode qe ne nu

  counter_works : (xs : List Call) (e : Call) (ys : List Call) (c : CounterCall)
      → (encode : Encode) → ◌≡◌ {A = Option Encode} (encode_of e) (some encode) → (call (machine_after xs) e).answer.number ≡ 0
      → (call (machine_after (xs ++ e ∷ ys)) (counter c)).answer.number ≡ 0
      → name_at encode.processor (history p xs) ≡ name_at c.processor (history p (xs ++ e ∷ ys))
      → Agree c.handle (take (handle_length encode.size) (call (machine_after xs) e).answer.cpu)
      → Counts encode c (call (machine_after (xs ++ e ∷ ys)) (counter c)).answer
  counter_works xs e ys c encode qe =
      encode_cases
      (λ u x.
      (call (machine_after xs) u).answer.number ≡ 0 → (call (machine_after (xs ++ u ∷ ys)) (counter c)).answer.number ≡ 0
      → name_at x.processor (history p xs) ≡ name_at c.processor (history p (xs ++ u ∷ ys))
      → Agree c.handle (take (handle_length x.size) (call (machine_after xs) u).answer.cpu)
      → Counts x c (call (machine_after (xs ++ u ∷ ys)) (counter c)).answer)
      (λ s i lock bytes r ne. call_counts xs s ys i lock bytes r ne c)
      e encode qe

-- ---- the theorem

pub never : (p : PowerOn) (calls : List Call) → all_of (λ n. not (eqb n 1)) (refusals p calls) ≡ true
never p calls = T_true (all_of (λ n. not (eqb n 1)) (refusals p calls)) (go calls)
  where
    go : (l : List Call) → T (all_of (λ n. not (eqb n 1)) (refusals p l))
    go [] = tt
    go (c ∷ l) =
        and_both (not (eqb (refusal (view_given p) c) 1)) (all_of (λ n. not (eqb n 1)) (refusals p l)) (never_1 (view_given p) c) (go l)

pub power_on_holds : (p : PowerOn) → (power_on p).answer.number ≡ 0 → Holds p [] (power_on p).machine (at_first p)
power_on_holds p ok =
    let valid = power_on-valid p ok in
    subst (λ (x : Machine). Holds p [] x (at_first p)) (sym valid.0) (holds_first p valid.1)

pub demand_3 : (p : PowerOn) → (power_on p).answer.number ≡ 0 → (calls : List Call) → Demand3 p calls (run (power_on p).machine calls)
demand_3 p ok calls =
    let m = (power_on p).machine in
    let first = power_on_holds p ok in
    let last = holds p m first calls in
    record {
      numbers = numbers_run p [] calls m (at_first p) first;
      never1 = never p calls;
      keys = last.keys;
      names = T_true (every_name (given p calls) (history p calls)) last.givens;
      uses =
          λ xs e ys u zs split encode qe ne made qu nu names agree.
          by_answers m calls xs e ys u zs split
          (λ a b. a.number ≡ 0 → b.number ≡ 0 → Agree made.bytes_read (take (handle_length encode.size) a.cpu) → Works encode made b.cpu)
          (λ ne nu agree. use_works p m first xs e ys u encode qe ne made qu nu names agree) ne nu agree;
    }

pub counter_calls : (p : PowerOn) → (power_on p).answer.number ≡ 0 → (calls : List Call) → CounterCalls p calls (run (power_on p).machine calls)
counter_calls p ok calls =
    let m = (power_on p).machine in
    record {
      counts =
          λ xs e ys c zs split encode qe ne nc names agree.
          by_answers m calls xs e ys (counter c) zs split
          (λ a b. a.number ≡ 0 → b.number ≡ 0 → Agree c.handle (take (handle_length encode.size) a.cpu) → Counts encode c b)
          (λ ne nc agree. counter_works p m (power_on_holds p ok) xs e ys c encode qe ne nc names agree) ne nc agree;
    }
