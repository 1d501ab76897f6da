-- A call by value, through the layout, keeps its promise.
-- Assumes nothing.
use mathlib.Core.Path.{◌≡◌, ◌∙◌, refl, sym, ap, ap₂}
use mathlib.Core.Bool.{Bool, true, false, cond}
use mathlib.Core.List.{List, []}
use Prim.Native.Nat.{ℕ, ◌+◌, ◌*◌, ◌%◌, ◌<◌}
use native.Mathlib.Nat.{suc-ne-zero}
use native.Mathlib.Omega.{arith}
use lib.Dec.{eqb}
use lib.ListN.{length}
use lib.Seq.{sets, get_or-set_same}
use borrow.Author.Tests.{eqb-true, eqb-false, eq-eqb, ne_eqb}
use Rattle.bits.proofs.Choice.{cond_on, cond_off, on_cond}
use Rattle.model.specs.Calls.{PowerOn, StepCall, CounterCall, ReadCall, Call, step, counter, read, write, settle, sleep, reset, taken, on_cpu}
use Rattle.model.specs.Calls as calls
use Rattle.model.specs.Execution.{power_on_refusal, refused, perform, number_of, call, power_on}
use Rattle.model.specs.Layout.{entry_size, machine_size, entry_bytes, machine_bytes, machine_at}
use Rattle.model.specs.Lent.{Lent, into, wrong_size, power_on_lent, call_lent}
use Rattle.model.specs.declared.Machine.{Machine}
use Rattle.model.specs.declared.Processor.{Processor}
use Rattle.model.proofs.Bytes.{machine_shaped}
use Rattle.model.proofs.Frames.{by_number, read_kept}
use Rattle.model.proofs.Counter.{counter_lent}
use Rattle.model.proofs.Lent.{kept_lent}
use Rattle.model.proofs.InPlace.{processor_few, step_entry}
use Rattle.model.specs.Records.{no_processor, processor_at, with_processor}
use Rattle.cpuid_model.specs.Calls as cpuid
use Rattle.cpuid_model.specs.Calls.{CpuidCall, identify, identify_lent}
use Rattle.cpuid_model.specs.declared.Leaf.{Leaf}
use Rattle.cpuid_model.proofs.Calls.{lent_block}
use Rattle.cpuid_model.specs.Leaves.{zero_leaf}
use Rattle.step.specs.Meaning.{Left, left, left_of}
use Rattle.counter.specs.Meaning as counting
use Rattle.machine.specs.Meaning.{given}
use Rattle.refusal.specs.Numbers.{number_of as number_in, answer_of}
use Rattle.refusal.specs.declared.Refusal.{Refusal}
use Rattle.std.specs.Prelude.{Result, Ok, Err}
use Rattle.keylocker.specs.Meaning.{Called, called, called_of, finished}
use Rattle.keylocker.specs.Promises.{answer, gave, PowerOnPromise, StepPromise, CounterPromise, ReadPromise}

-- ---- what an answer can hold: a CPU record if the call is a step or a counter call, a buffer if it is a counter call, a value if it is a read

abbrev pub cpu_of : Call → List ℕ → List ℕ
cpu_of c cpu = on_cpu (λ s. cpu) (λ k. cpu) [] c

abbrev pub buffer_of : Call → List ℕ → List ℕ
buffer_of c buffer = on_cpu (λ s. []) (λ k. buffer) [] c

abbrev pub value_of : Call → ℕ → ℕ
value_of (step s) v = 0
value_of (counter c) v = 0
value_of (read r) v = v
value_of (write w) v = 0
value_of (settle s) v = 0
value_of (sleep s) v = 0
value_of reset v = 0
value_of taken v = 0

abbrev shown : Call → calls.Answer → calls.Answer
shown c a = answer a.number (cpu_of c a.cpu) (buffer_of c a.buffer) (value_of c a.value)

performed_as : (m : Machine) (c : Call) → (perform m c).answer ≡ shown c (perform m c).answer
unfolding perform
performed_as m (step s) = refl
performed_as m (counter c) = refl
performed_as m (read r) = refl
performed_as m (write w) = refl
performed_as m (settle s) = refl
performed_as m (sleep s) = refl
performed_as m reset = refl
performed_as m taken = refl

refused_as : (n : ℕ) (m : Machine) (c : Call) → (refused n m c).answer ≡ shown c (refused n m c).answer
refused_as n m (step s) = refl
refused_as n m (counter c) = refl
refused_as n m (read r) = refl
refused_as n m (write w) = refl
refused_as n m (settle s) = refl
refused_as n m (sleep s) = refl
refused_as n m reset = refl
refused_as n m taken = refl

pub answer_as : (block : List ℕ) (c : Call) → (call_lent block c).answer ≡ shown c (call_lent block c).answer
unfolding call_lent
answer_as block c =
    let m = machine_at block in
    on_cond (λ (x : Lent). x.answer ≡ shown c x.answer) (eqb (length block) machine_size) _ _
    (λ e. by_number m c (λ o. o.answer ≡ shown c o.answer) (λ f. performed_as m c) (λ f. refused_as _ m c)) (λ e. refused_as 1 m c)

-- number and block, and CPU record, buffer and value where there are any, are all
pub promised : (block after : List ℕ) (n : ℕ) (cpu buffer : List ℕ) (v : ℕ) (c : Call) → called n after ≡ called_of (call_lent block c)
    → cpu ≡ (call_lent block c).answer.cpu → buffer ≡ (call_lent block c).answer.buffer → v ≡ (call_lent block c).answer.value
    → gave after n (cpu_of c cpu) (buffer_of c buffer) (value_of c v) ≡ call_lent block c
promised block after n cpu buffer v c e f b g =
    (λ j. gave (e j).block (e j).number (cpu_of c (f j)) (buffer_of c (b j)) (value_of c (g j)))
    ∙ (λ j. record { block = (call_lent block c).block; answer = sym (answer_as block c) j })

-- ---- calls that are lent the block alone

-- no refusal has the number 0
pub positive : (e : Refusal) → eqb (number_in e) 0 ≡ false
positive e = grind arith

-- the number 0 is done, and any other refused
abbrev finished_by : List ℕ → Machine → Bool → ℕ → Called
finished_by block m t n = called n (cond t (machine_bytes m) block)

finished_of : {A : Type 0} (block : List ℕ) (o : calls.Outcome) (m : Machine) (a : Result A Refusal) → answer_of a ≡ o.answer.number → m ≡ o.machine
    → finished block m a ≡ finished_by block o.machine (eqb o.answer.number 0) o.answer.number
finished_of block o m (Ok x) e f = ap₂ (λ (m : Machine) (n : ℕ). finished_by block m (eqb n 0) n) f e
finished_of block o m (Err why) e f =
    ap (λ (t : Bool). finished_by block m t (number_in why)) (sym (positive why)) ∙ ap₂ (λ (m : Machine) (n : ℕ). finished_by block m (eqb n 0) n) f e

module _ (block : List ℕ) (c : Call) where
  short_called : (length block ≡ machine_size → ⊥) → called 1 block ≡ called_of (call_lent block c)
  unfolding call_lent
  short_called h = sym (ap called_of (cond_off (ne_eqb (length block) machine_size h) _ _))

  called_of_lem : {A : Type 0} (after : List ℕ) (n : ℕ) (m left : Machine) (a : Result A Refusal) → length block ≡ machine_size → m ≡ machine_at block
      → answer_of a ≡ (call m c).answer.number → left ≡ (call m c).machine → called n after ≡ finished block left a
      → gave after n (cpu_of c (call_lent block c).answer.cpu) (buffer_of c (call_lent block c).answer.buffer) (value_of c (call_lent block c).answer.value)
      ≡ call_lent block c
  unfolding call_lent
  called_of_lem after n m left a h r e d f =
      promised block after n _ _ _ c
      (f ∙ finished_of block (call m c) left a e d
      ∙ ap (λ (x : Machine). finished_by block (call x c).machine (eqb (call x c).answer.number 0) (call x c).answer.number) r
      ∙ sym (ap called_of (cond_on (eq-eqb (length block) machine_size h) _ _)))
      refl refl refl

  -- a call that is passed on to the machine in the block: what P says of its answer and of the machine that it leaves has to be the model's
  pub changed : {A : Type 0} (P : Machine → Result A Refusal → Type 0) (after : List ℕ) (n : ℕ)
      → ((length block ≡ machine_size → ⊥) → called n after ≡ called 1 block)
      → (length block ≡ machine_size → (m : Machine) × (a : Result A Refusal) × P m a × (called n after ≡ finished block m a))
      → ((m : Machine) (a : Result A Refusal) → P m a → (answer_of a ≡ (call (machine_at block) c).answer.number) × (m ≡ (call (machine_at block) c).machine))
      → gave after n (cpu_of c (call_lent block c).answer.cpu) (buffer_of c (call_lent block c).answer.buffer) (value_of c (call_lent block c).answer.value)
      ≡ call_lent block c
  changed P after n another done told = by (eqb (length block) machine_size) refl
    where
      by : (t : Bool) → eqb (length block) machine_size ≡ t
          → gave after n (cpu_of c (call_lent block c).answer.cpu) (buffer_of c (call_lent block c).answer.buffer) (value_of c (call_lent block c).answer.value)
          ≡ call_lent block c
      by true e =
          let h = eqb-true (length block) machine_size e in
          let d = done h in
          let t = told d.0 d.1 d.2 in
          called_of_lem after n (machine_at block) d.0 d.1 h refl t.0 t.1 d.3
      by false e =
          let h = eqb-false (length block) machine_size e in
          promised block after n _ _ _ c (another h ∙ short_called h) refl refl refl

-- ---- power-on

module _ (block : List ℕ) (p : PowerOn) where
  -- no CPU record, no value
  power_on_as : (power_on_lent block p).answer ≡ answer (power_on_lent block p).answer.number [] [] 0
  unfolding power_on_lent
  power_on_as =
      let P : calls.Answer → Type 0 = λ a. a ≡ answer a.number [] [] 0 in
      on_cond (λ (x : Lent). P x.answer) (eqb (length block) machine_size) (into block (power_on p)) (wrong_size block [] [])
      (λ e. on_cond (λ (o : calls.Outcome). P o.answer) (eqb (power_on_refusal p) 0) _ _ (λ f. refl) (λ f. refl)) (λ e. refl)

  pub power_on_promised : (after : List ℕ) (n : ℕ) → called n after ≡ called_of (power_on_lent block p) → PowerOnPromise block p after n
  power_on_promised after n e =
      (λ j. gave (e j).block (e j).number [] [] 0) ∙ (λ j. record { block = (power_on_lent block p).block; answer = sym power_on_as j })

  pub power_on_short : (length block ≡ machine_size → ⊥) → PowerOnPromise block p block 1
  unfolding power_on_lent
  power_on_short h =
      power_on_promised block 1 (sym (ap called_of (cond_off (ne_eqb (length block) machine_size h) (into block (power_on p)) (wrong_size block [] []))))

  pub power_on-called : {A : Type 0} (after : List ℕ) (n : ℕ) (m : Machine) (a : Result A Refusal) → length block ≡ machine_size
      → answer_of a ≡ (power_on p).answer.number → m ≡ (power_on p).machine → called n after ≡ finished block m a → PowerOnPromise block p after n
  unfolding power_on_lent
  power_on-called after n m a h e d f =
      power_on_promised after n
      (f ∙ finished_of block (power_on p) m a e d
      ∙ sym (ap called_of (cond_on (eq-eqb (length block) machine_size h) (into block (power_on p)) (wrong_size block [] []))))

-- ---- a read

module _ (block : List ℕ) (r : ReadCall) (old : ℕ) where
  -- its machine goes back to the bytes that it came from
  pub read_block : (call_lent block (read r)).block ≡ block
  read_block = kept_lent block (read r) (read_kept (machine_at block) r)

  abbrev given_answer : calls.Answer
  given_answer = (call_lent block (read r)).answer

  -- where it is refused none was read
  pub read_value : given_answer.value ≡ cond (eqb given_answer.number 0) given_answer.value 0
  unfolding call_lent perform
  read_value =
      let P : calls.Answer → Type 0 = λ a. a.value ≡ cond (eqb a.number 0) a.value 0 in
      on_cond (λ (x : Lent). P x.answer) (eqb (length block) machine_size) _ _
      (λ e.
      by_number (machine_at block) (read r) (λ o. P o.answer) (λ f. refl)
      (λ f. on_cond (λ (v : ℕ). 0 ≡ v) (eqb (number_of (machine_at block) (read r)) 0) 0 0 (λ g. refl) (λ g. refl)))
      (λ e. refl)

  pub read_promised : (n v : ℕ) → n ≡ given_answer.number → (n ≡ 0 → v ≡ given_answer.value) → ((n ≡ 0 → ⊥) → v ≡ old) → ReadPromise block r old v n
  read_promised n v e f k =
      record {
        answered =
            promised block block n given_answer.cpu [] (cond (eqb n 0) v 0) (read r) (λ j. called (e j) (sym read_block j)) refl
            (λ j. (sym (answer_as block (read r)) j).buffer)
            (on_cond (λ (x : ℕ). x ≡ given_answer.value) (eqb n 0) v 0 (λ t. f (eqb-true n 0 t))
            (λ t. sym (read_value ∙ cond_off (ap (λ (x : ℕ). eqb x 0) (sym e) ∙ t) given_answer.value 0)));
        kept = k;
      }

  pub read_short : (length block ≡ machine_size → ⊥) → ReadPromise block r old old 1
  read_short h = read_promised 1 old (λ j. (short_called block (read r) h j).number) (λ z. absurd (suc-ne-zero 0 z)) (λ n. refl)

  pub read-called : (m : Machine) (a : Result ℕ Refusal) → length block ≡ machine_size → m ≡ machine_at block → answer_of a ≡ (call m (read r)).answer.number
      → given 0 a ≡ (call m (read r)).answer.value → ReadPromise block r old (given old a) (answer_of a)
  unfolding call_lent
  read-called m a h w e f = go a (e ∙ (λ j. (same j).number)) (f ∙ (λ j. (same j).value))
    where
      same : (call m (read r)).answer ≡ given_answer
      same =
          ap (λ (x : Machine). (call x (read r)).answer) w
          ∙ sym (ap (λ (x : Lent). x.answer) (cond_on (eq-eqb (length block) machine_size h) _ _))

      go : (a : Result ℕ Refusal) → answer_of a ≡ given_answer.number → given 0 a ≡ given_answer.value → ReadPromise block r old (given old a) (answer_of a)
      go (Ok v) e f = read_promised 0 v e (λ z. f) (λ n. absurd (n refl))
      go (Err why) e f = read_promised (number_in why) old e (λ z. absurd (eqb-false (number_in why) 0 (positive why) z)) (λ n. refl)

-- ---- a step

module _ (block : List ℕ) (s : StepCall) where
  pub step_short : (length block ≡ machine_size → ⊥) → StepPromise block s block s.cpu 1
  unfolding call_lent
  step_short h =
      promised block block 1 s.cpu _ _ (step s) (short_called block (step s) h)
      (sym (ap (λ (x : Lent). x.answer.cpu) (cond_off (ne_eqb (length block) machine_size h) _ _))) refl refl

  pub step-called : {A : Type 0} (after cpu : List ℕ) (r : ℕ) (m n : Machine) (a : Result A Refusal) → length block ≡ machine_size → m ≡ machine_at block
      → left (answer_of a) n cpu ≡ left_of (call m (step s)) → called r after ≡ finished block n a → StepPromise block s after cpu r
  unfolding call_lent
  step-called after cpu r m n a h w d f =
      let o = call (machine_at block) (step s) in
      let e = d ∙ ap (λ (x : Machine). left_of (call x (step s))) w in
      let here = eq-eqb (length block) machine_size h in
      promised block after r cpu _ _ (step s)
      (f ∙ finished_of block o n a (λ j. (e j).number) (λ j. (e j).machine) ∙ sym (ap called_of (cond_on here _ _)))
      ((λ j. (e j).cpu) ∙ sym (ap (λ (x : Lent). x.answer.cpu) (cond_on here _ _))) refl refl

  -- it changes one entry of the block: to write that is to write the machine
  pub step_block : (cpu : List ℕ) (m : Machine) (e : Processor) → length block ≡ machine_size → m ≡ machine_at block
      → left 0 (with_processor (s.processor % 16) e m) cpu ≡ left_of (call m (step s)) → (after : List ℕ)
      → after ≡ sets block (2 + s.processor % 16 * entry_size) (entry_bytes e) → called 0 after ≡ called 0 (machine_bytes (with_processor (s.processor % 16) e m))
  step_block cpu m e h w d after q =
      let b = machine_at block in
      let o = call b (step s) in
      let i = s.processor % 16 in
      let g = d ∙ ap (λ (x : Machine). left_of (call x (step s))) w in
      let accepted : o.answer.number ≡ 0 = sym (ap (λ (x : Left). x.number) g) in
      let few = processor_few b s accepted in
      let shaped = (machine_shaped block h).count in
      let p : i ≡ s.processor = omega (arith, few) in
      let same : with_processor i e m ≡ o.machine = ap (λ (x : Left). x.machine) g in
      let here : i < length b.processors = omega arith in
      let entry : e ≡ processor_at o.machine i =
      sym (get_or-set_same b.processors i e no_processor here) ∙ ap (λ (x : Machine). processor_at x i) (ap (with_processor i e) (sym w) ∙ same) in
      let written : Processor → ℕ → List ℕ = λ x k. sets block (2 + k * entry_size) (entry_bytes x) in
      λ j. called 0 ((q ∙ ap₂ written (entry ∙ ap (processor_at o.machine) p) p ∙ step_entry block h s accepted ∙ ap machine_bytes (sym same)) j)

-- ---- a counter call

module _ (block : List ℕ) (c : CounterCall) where
  pub counter_short : (length block ≡ machine_size → ⊥) → CounterPromise block c block c.cpu c.buffer 1
  unfolding call_lent
  counter_short h =
      let lent : call_lent block (counter c) ≡ wrong_size block c.cpu c.buffer = cond_off (ne_eqb (length block) machine_size h) _ _ in
      promised block block 1 c.cpu c.buffer _ (counter c) (short_called block (counter c) h) (λ j. (sym lent j).answer.cpu) (λ j. (sym lent j).answer.buffer) refl

  -- the block is not written, and need not be
  pub counter-called : (cpu buffer : List ℕ) (m : Machine) (n : ℕ) → length block ≡ machine_size → m ≡ machine_at block
      → counting.left n m cpu buffer ≡ counting.left_of (call m (counter c)) → CounterPromise block c block cpu buffer n
  unfolding call_lent
  counter-called cpu buffer m n h w d =
      let o = call (machine_at block) (counter c) in
      let e = d ∙ ap (λ (x : Machine). counting.left_of (call x (counter c))) w in
      let lent : call_lent block (counter c) ≡ into block o = cond_on (eq-eqb (length block) machine_size h) _ _ in
      promised block block n cpu buffer _ (counter c) (λ j. called (((λ j. (e j).number) ∙ (λ j. (sym lent j).answer.number)) j) (sym (counter_lent block c) j))
      ((λ j. (e j).cpu) ∙ (λ j. (sym lent j).answer.cpu)) ((λ j. (e j).buffer) ∙ (λ j. (sym lent j).answer.buffer)) refl

-- ---- CPUID

module _ (block : List ℕ) (c : CpuidCall) (old : Leaf) where
  abbrev told : Leaf → Bool → ℕ → cpuid.Identified
  told l t n = record { number = n; registers = cond t l old }

  pub cpuid_called : (m : Machine) (a : Result Leaf Refusal) → length block ≡ machine_size → m ≡ machine_at block → answer_of a ≡ (identify m c).number
      → given zero_leaf a ≡ (identify m c).registers → record { number = answer_of a; registers = given old a } ≡ identify_lent block c old
  cpuid_called m a h w e f = go a e f ∙ ap (λ (x : Machine). by (identify x c)) w ∙ lent_block block c old h
    where
      by : cpuid.Identified → cpuid.Identified
      by i = told i.registers (eqb i.number 0) i.number

      go : (a : Result Leaf Refusal) → answer_of a ≡ (identify m c).number → given zero_leaf a ≡ (identify m c).registers
          → record { number = answer_of a; registers = given old a } ≡ told (identify m c).registers (eqb (identify m c).number 0) (identify m c).number
      go (Ok l) e f = ap₂ (λ (l : Leaf) (n : ℕ). told l (eqb n 0) n) f e
      go (Err why) e f = ap (λ (t : Bool). told zero_leaf t (number_in why)) (sym (positive why)) ∙ ap₂ (λ (l : Leaf) (n : ℕ). told l (eqb n 0) n) f e
