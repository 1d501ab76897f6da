-- A counter call: refused, or done.
-- Assumes nothing.
use mathlib.Core.Path.{◌≡◌, ◌∙◌, refl, sym, ap}
use mathlib.Core.Bool.{true, false}
use mathlib.Core.List.{List}
use mathlib.Core.Option.{Option, none, some}
use Prim.Native.Nat.{ℕ, ◌%◌, ◌<◌}
use lib.ListN.{get_or}
use native.Mathlib.Omega.{arith}
use Rattle.bits.proofs.Choice.{cond_on, cond_off, true-T}
use Rattle.model.specs.Calls.{CounterCall, counter}
use Rattle.fips197.specs.declared.Direction.TheVariants.{Encrypt}
use Rattle.model.specs.Counter.{Counted, size_of, counted_by, counted}
use Rattle.model.specs.Cpu.{cpl}
use Rattle.model.specs.Instructions.{opened_for}
use Rattle.model.specs.declared.IwKey.{IwKey}
use Rattle.model.specs.Records.{no_processor}
use Rattle.model.specs.Validity.{valid}
use Rattle.model.specs.Refusals.{first, refusal}
use Rattle.model.proofs.Counter.{counter-refusal}
use Rattle.model.specs.Execution.{view_of, refused, perform, call}
use Rattle.model.specs.Execution as execution
use Rattle.model.specs.declared.Machine.{Machine}
use Rattle.model.proofs.Frames.{call_performed, call_stopped}
use Rattle.model.proofs.Refusals.{processor_below}
use Rattle.model.proofs.Validities.{count_few}
use Rattle.refusal.specs.declared.Refusal.{Refusal}
use Rattle.refusal.specs.Numbers.{number_of}
use Rattle.counter.specs.Meaning.{counter_tests, left, left_of}

-- the same call on processor 0
abbrev pub anywhere : CounterCall → CounterCall
anywhere c = record { processor = 0; cpu = c.cpu; handle = c.handle; counter = c.counter; buffer = c.buffer }

-- what it does depends on the processor through its IWKey alone
any_processor : (c : CounterCall) (k : IwKey) → counted (anywhere c) k ≡ counted c k
unfolding counted
any_processor c k = by (opened_for k (cpl c.cpu) (size_of c.handle) Encrypt c.handle)
  where
    by : (o : Option (List ℕ)) → counted_by (size_of c.handle) o (anywhere c) ≡ counted_by (size_of c.handle) o c
    by none = refl
    by (some key) = refl

-- no refusal has the number 0
some_number : (e : Refusal) → 0 < number_of e
some_number e = grind arith

module _ (m : Machine) (c : CounterCall) where
  refused_left : (n : ℕ) → execution.number_of m (counter c) ≡ n → 0 < n → left n m c.cpu c.buffer ≡ left_of (call m (counter c))
  refused_left n e h =
      sym (ap left_of (call_stopped m (counter c) (λ z. omega (arith, e, z)) ∙ ap (λ (k : ℕ). refused k m (counter c)) e))

  pub invalid_left : valid m ≡ false → left 1 m c.cpu c.buffer ≡ left_of (call m (counter c))
  invalid_left v = refused_left 1 (cond_off v (refusal (view_of m) (counter c)) 1) (omega arith)

  module _ (v : valid m ≡ true) where
    number : execution.number_of m (counter c) ≡ first (counter_tests (view_of m) c)
    number = cond_on v (refusal (view_of m) (counter c)) 1 ∙ counter-refusal (view_of m) c

    pub stopped_left : (e : Refusal) → number_of e ≡ first (counter_tests (view_of m) c) → left (number_of e) m c.cpu c.buffer ≡ left_of (call m (counter c))
    stopped_left e h = refused_left (number_of e) (number ∙ sym h) (some_number e)

    pub done_left : 0 ≡ first (counter_tests (view_of m) c) → (x : Counted) → x ≡ counted (anywhere c) (get_or m.processors (c.processor % 16) no_processor).key
        → left 0 m x.cpu x.buffer ≡ left_of (call m (counter c))
    unfolding perform
    done_left a x e =
        let few = count_few m (true-T (valid m) v) in
        let below = processor_below (view_of m) (counter c) c.processor (counter-refusal (view_of m) c ∙ sym a) refl in
        let p : c.processor % 16 ≡ c.processor = omega arith in
        ap (λ (y : Counted). left 0 m y.cpu y.buffer)
        (e ∙ any_processor c (get_or m.processors (c.processor % 16) no_processor).key ∙ ap (λ (k : ℕ). counted c (get_or m.processors k no_processor).key) p)
        ∙ sym (ap left_of (call_performed m (counter c) (number ∙ sym a)))
