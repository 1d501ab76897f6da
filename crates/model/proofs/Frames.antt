-- What every call leaves as it was: a refused one leaves everything, a read the machine, a step all but the IWKey of its processor.
-- Assumes nothing.
use mathlib.Core.Path.{◌≡◌, ◌∙◌, refl, sym, ap, subst}
use mathlib.Core.Bool.{Bool, true, false, cond, not}
use mathlib.Core.List.{List}
use mathlib.Core.Option.{Option, none, some, none-ne-some}
use Prim.Native.Nat.{ℕ}
use native.Mathlib.Nat.{suc-ne-zero}
use lib.Dec.{T, eqb}
use borrow.Author.Tests.{eqb-true, eqb-false, eq-eqb, ne_eqb}
use lib.ListN.{get_or, set, get_or-map}
use lib.Seq.{set-get_or, get_or-set_other, map-set_same}
use Rattle.bits.proofs.Choice.{cond_on, cond_off}
use Rattle.model.specs.Calls.{StepCall, ReadCall, Call, step, counter, read, write, settle, sleep, reset, taken, on_step, Outcome}
use Rattle.model.specs.Validity.{valid}
use Rattle.model.specs.Refusals.{refusal}
use Rattle.isa.specs.Decode.{decode}
use Rattle.isa.specs.declared.Decoded.{Decoded}
use Rattle.isa.specs.declared.Decoded.TheVariants as decoded
use Rattle.isa.specs.declared.Instruction.TheVariants as instruction
use Rattle.model.specs.Cpu.{with_zf}
use Rattle.model.specs.Forms.{not_ready}
use Rattle.model.specs.Instructions.{Executed, loaded_key, stepped, executed}
use Rattle.model.specs.History.{load_in, makes, loads, key_made, key_in}
use Rattle.model.specs.declared.IwKey.{IwKey}
use Rattle.model.specs.Execution.{view_of, refused, perform, number_of, call}
use Rattle.model.specs.Records.{no_processor, processor_at, with_key, with_processor, with_processors}
use Rattle.model.specs.declared.Processor.{Processor}
use Rattle.model.specs.declared.Machine.{Machine}

-- ---- what only a step has

pub by_step : {A : Type 0} (f : StepCall → A) (d : A) (Q : Call → A → Type 0) → ((s : StepCall) → Q (step s) (f s)) → ((c : Call) → Q c d)
    → (c : Call) → Q c (on_step f d c)
by_step f d Q g h (step s) = g s
by_step f d Q g h (counter c) = h (counter c)
by_step f d Q g h (read r) = h (read r)
by_step f d Q g h (write w) = h (write w)
by_step f d Q g h (settle s) = h (settle s)
by_step f d Q g h (sleep s) = h (sleep s)
by_step f d Q g h reset = h reset
by_step f d Q g h taken = h taken

pub step_only : {A : Type 0} (f : StepCall → Option A) (Q : Call → A → Type 0) → ((s : StepCall) (x : A) → ◌≡◌ {A = Option A} (f s) (some x) → Q (step s) x)
    → (c : Call) (x : A) → ◌≡◌ {A = Option A} (on_step f none c) (some x) → Q c x
step_only {A} f Q g c x =
    by_step f none (λ c (o : Option A). ◌≡◌ {A = Option A} o (some x) → Q c x) (λ s q. g s x q) (λ c q. absurd (none-ne-some x q)) c

-- ---- a call is refused or performed

performed_number : (m : Machine) (c : Call) → (perform m c).answer.number ≡ 0
unfolding perform
performed_number m (step s) = refl
performed_number m (counter c) = refl
performed_number m (read r) = refl
performed_number m (write w) = refl
performed_number m (settle s) = refl
performed_number m (sleep s) = refl
performed_number m reset = refl
performed_number m taken = refl

module _ (m : Machine) (c : Call) where
  pub call_performed : number_of m c ≡ 0 → call m c ≡ perform m c
  unfolding call
  call_performed e = cond_on (eq-eqb (number_of m c) 0 e) (perform m c) (refused (number_of m c) m c)

  pub call_stopped : (number_of m c ≡ 0 → ⊥) → call m c ≡ refused (number_of m c) m c
  unfolding call
  call_stopped e = cond_off (ne_eqb (number_of m c) 0 e) (perform m c) (refused (number_of m c) m c)

  -- a property of the outcome, by the two ways
  pub by_number : (P : Outcome → Type 0) → (number_of m c ≡ 0 → P (perform m c)) → ((number_of m c ≡ 0 → ⊥) → P (refused (number_of m c) m c)) → P (call m c)
  by_number P f g = go (eqb (number_of m c) 0) refl
    where
      go : (t : Bool) → eqb (number_of m c) 0 ≡ t → P (call m c)
      go true q = let e = eqb-true (number_of m c) 0 q in subst P (sym (call_performed e)) (f e)
      go false q = let e = eqb-false (number_of m c) 0 q in subst P (sym (call_stopped e)) (g e)

  -- the number is 1, or the refusal of the view
  pub call_number : (call m c).answer.number ≡ number_of m c
  call_number = by_number (λ o. o.answer.number ≡ number_of m c) (λ e. performed_number m c ∙ sym e) (λ e. refl)

  -- a call that is performed passes 1 and every test
  pub accepted_parts : number_of m c ≡ 0 → T (valid m) × (refusal (view_of m) c ≡ 0)
  accepted_parts e = go (valid m) e
    where
      go : (b : Bool) → cond b (refusal (view_of m) c) 1 ≡ 0 → T b × (refusal (view_of m) c ≡ 0)
      go true e = (tt, e)
      go false e = absurd (suc-ne-zero 0 e)

  -- machine, CPU record and buffers are as lent
  pub refused_kept : ((call m c).answer.number ≡ 0 → ⊥) → call m c ≡ refused (number_of m c) m c
  refused_kept e = call_stopped (λ q. e (call_number ∙ q))

-- ---- reads and steps

pub read_kept : (m : Machine) (r : ReadCall) → (call m (read r)).machine ≡ m
unfolding perform
read_kept m r = by_number m (read r) (λ o. o.machine ≡ m) (λ e. refl) (λ e. refl)

-- only a LOADIWKEY that loads gives the processor another IWKey
pub executed_key : (s : StepCall) (k : IwKey) → (executed s k).key ≡ cond (loads s) (key_in (step s)) k
unfolding executed
executed_key s k = go (decode s.string)
  where
    kept : (t : Bool) (a b : Executed) → (cond t a b).key ≡ cond (not t) b.key a.key
    kept true a b = refl
    kept false a b = refl

    go : (d : Decoded) → (stepped s k d).key ≡ cond (makes s (load_in d)) (key_made s (load_in d)) k
    go (decoded.Found (instruction.Use u) lock bytes) = refl
    go (decoded.Found (instruction.WideUse u) lock bytes) = refl
    go (decoded.Found (instruction.LoadIwKey l) lock bytes) =
        kept (not_ready s.random s.cpu) (record { key = k; cpu = with_zf 1 s.cpu })
        (record { key = loaded_key l s.random s.cpu; cpu = with_zf 0 s.cpu })
    go (decoded.Found (instruction.EncodeKey e) lock bytes) = refl
    go decoded.BadByte = refl
    go decoded.EndOfString = refl
    go decoded.Empty = refl

module _ (m : Machine) (s : StepCall) where
  abbrev entry : Processor
  entry = processor_at m s.processor

  abbrev left : Machine
  left = (call m (step s)).machine

  -- a step that loads no IWKey leaves the whole machine
  pub step-loads : loads s ≡ false → left ≡ m
  unfolding perform
  step-loads q =
      by_number m (step s) (λ o. o.machine ≡ m)
      (λ e.
      ap (λ (k : IwKey). with_processor s.processor (with_key k entry) m)
      (executed_key s entry.key ∙ cond_off q (key_in (step s)) entry.key)
      ∙ ap (λ (l : List Processor). with_processors l m) (set-get_or m.processors s.processor no_processor))
      (λ e. refl)

  pub step_platform : left.platform ≡ m.platform
  unfolding perform
  step_platform = by_number m (step s) (λ o. o.machine.platform ≡ m.platform) (λ e. refl) (λ e. refl)

  pub step_others : (p : ℕ) → (p ≡ s.processor → ⊥) → processor_at left p ≡ processor_at m p
  unfolding perform
  step_others p q =
      by_number m (step s) (λ o. processor_at o.machine p ≡ processor_at m p)
      (λ e. get_or-set_other m.processors s.processor p (with_key (executed s entry.key).key entry) no_processor q)
      (λ e. refl)

  pub step_status : (p : ℕ) → (processor_at left p).copy_status ≡ (processor_at m p).copy_status
  unfolding perform
  step_status p =
      by_number m (step s) (λ o. (processor_at o.machine p).copy_status ≡ (processor_at m p).copy_status)
      (λ e.
      let l = m.processors in
      let x = with_key (executed s entry.key).key entry in
      sym (get_or-map (λ (r : Processor). r.copy_status) (set l s.processor x) p no_processor)
      ∙ ap (λ (t : List ℕ). get_or t p 0) (map-set_same (λ (r : Processor). r.copy_status) l s.processor x no_processor refl)
      ∙ get_or-map (λ (r : Processor). r.copy_status) l p no_processor)
      (λ e. refl)
