-- The calls on lent bytes are the calls on the machine in them.
-- Assumes nothing.
use mathlib.Core.Path.{◌≡◌, refl, sym, ap, subst, ◌∙◌}
use mathlib.Core.Bool.{cond}
use mathlib.Core.List.{List, [], ◌∷◌}
use Prim.Native.Nat.{ℕ}
use native.Mathlib.Nat.{suc-ne-zero}
use lib.Dec.{eqb}
use lib.ListN.{length}
use borrow.Author.Tests.{eqb-true, eqb-false, eq-eqb, ne_eqb}
use Rattle.bits.proofs.Choice.{cond_on, cond_off, on_cond}
use Rattle.model.specs.Calls.{PowerOn, Call, lent_cpu, lent_buffer, Outcome}
use Rattle.model.specs.Execution.{power_on, call, Run, run}
use Rattle.model.specs.Demand3.{Demand3, CounterCalls}
use Rattle.model.specs.Status.{StatusRegisters}
use Rattle.model.specs.Layout.{machine_size, machine_bytes, machine_at, Shaped}
use Rattle.model.specs.Lent.{Lent, into, wrong_size, power_on_lent, call_lent, run_lent}
use Rattle.model.specs.declared.Machine.{Machine}
use Rattle.model.proofs.Bytes.{bytes_length, at_bytes, bytes_at}
use Rattle.model.proofs.Frames.{refused_kept}
use Rattle.model.proofs.Shapes.{fresh_shaped, call_shaped}
use Rattle.model.proofs.Validities.{power_on-valid}
use Rattle.model.proofs.Demand3.{demand_3, counter_calls}
use Rattle.model.proofs.Registers.{status_registers}

-- ---- a refused call

pub refused_lent : (block : List ℕ) (c : Call) → ((call_lent block c).answer.number ≡ 0 → ⊥) → (call_lent block c).block ≡ block
unfolding call_lent
refused_lent block c =
    on_cond (λ (x : Lent). (x.answer.number ≡ 0 → ⊥) → x.block ≡ block) (eqb (length block) machine_size) _ _
    (λ e n. cond_off (ne_eqb (call (machine_at block) c).answer.number 0 n) (machine_bytes (call (machine_at block) c).machine) block)
    (λ e n. refl)

-- ---- a call that leaves the machine leaves the bytes that it came from

pub kept_lent : (block : List ℕ) (c : Call) → (call (machine_at block) c).machine ≡ machine_at block → (call_lent block c).block ≡ block
unfolding call_lent
kept_lent block c kept =
    on_cond (λ (x : Lent). x.block ≡ block) (eqb (length block) machine_size) _ _
    (λ e.
    on_cond (λ (l : List ℕ). l ≡ block) (eqb (call (machine_at block) c).answer.number 0) _ _
    (λ f. ap machine_bytes kept ∙ bytes_at block (eqb-true (length block) machine_size e)) (λ f. refl))
    (λ e. refl)

-- ---- a call, and a list of calls

-- the block stays where the machine does
block_after : (m : Machine) (c : Call)
    → cond (eqb (call m c).answer.number 0) (machine_bytes (call m c).machine) (machine_bytes m) ≡ machine_bytes (call m c).machine
block_after m c =
    on_cond (λ (l : List ℕ). l ≡ machine_bytes (call m c).machine) (eqb (call m c).answer.number 0) _ _ (λ e. refl)
    (λ e. ap (λ (o : Outcome). machine_bytes o.machine) (sym (refused_kept m c (eqb-false (call m c).answer.number 0 e))))

pub call_lent_lem : (m : Machine) (c : Call) → Shaped m
    → call_lent (machine_bytes m) c ≡ record { block = machine_bytes (call m c).machine; answer = (call m c).answer }
unfolding call_lent
call_lent_lem m c h =
    let b = machine_bytes m in
    cond_on (eq-eqb (length b) machine_size (bytes_length m h)) (into b (call (machine_at b) c)) (wrong_size b (lent_cpu c) (lent_buffer c))
    ∙ ap (λ (x : Machine). into b (call x c)) (at_bytes m h)
    ∙ (λ j. record { block = block_after m c j; answer = (call m c).answer })

pub run_lent_lem : (calls : List Call) (m : Machine) → Shaped m → run_lent (machine_bytes m) calls ≡ run m calls
run_lent_lem [] m h = λ j. record { answers = []; machine = at_bytes m h j }
run_lent_lem (c ∷ l) m h =
    ap (λ (x : Lent). record { answers = x.answer ∷ (run_lent x.block l).answers; machine = (run_lent x.block l).machine }) (call_lent_lem m c h)
    ∙ ap (λ (r : Run). record { answers = (call m c).answer ∷ r.answers; machine = r.machine })
    (run_lent_lem l (call m c).machine (call_shaped m c h))

-- ---- power-on

pub power_on_lent_lem : (block : List ℕ) (p : PowerOn) → (power_on_lent block p).answer.number ≡ 0
    → (length block ≡ machine_size) × ((power_on_lent block p).block ≡ machine_bytes (power_on p).machine) × ((power_on p).answer.number ≡ 0)
unfolding power_on_lent
power_on_lent_lem block p =
    on_cond
    (λ (x : Lent).
    x.answer.number ≡ 0 → (length block ≡ machine_size) × (x.block ≡ machine_bytes (power_on p).machine) × ((power_on p).answer.number ≡ 0))
    (eqb (length block) machine_size) (into block (power_on p)) (wrong_size block [] [])
    (λ t e. (eqb-true (length block) machine_size t, cond_on (eq-eqb (power_on p).answer.number 0 e) (machine_bytes (power_on p).machine) block, e))
    (λ t e. absurd (suc-ne-zero 0 e))

-- ---- a power-on and calls on one lent block

module _ (block : List ℕ) (p : PowerOn) (ok : (power_on_lent block p).answer.number ≡ 0) where
  powered : (power_on p).answer.number ≡ 0
  powered = (power_on_lent_lem block p ok).2

  pub run_on : (calls : List Call) → run_lent (power_on_lent block p).block calls ≡ run (power_on p).machine calls
  run_on calls =
      let shaped : Shaped (power_on p).machine = subst Shaped (sym (power_on-valid p powered).0) (fresh_shaped p.count p.features) in
      ap (λ (t : List ℕ). run_lent t calls) (power_on_lent_lem block p ok).1 ∙ run_lent_lem calls (power_on p).machine shaped

  pub demand_3_lent : (calls : List Call) → Demand3 p calls (run_lent (power_on_lent block p).block calls)
  demand_3_lent calls = subst (Demand3 p calls) (sym (run_on calls)) (demand_3 p powered calls)

  pub counter_calls_lent : (calls : List Call) → CounterCalls p calls (run_lent (power_on_lent block p).block calls)
  counter_calls_lent calls = subst (CounterCalls p calls) (sym (run_on calls)) (counter_calls p powered calls)

  pub status_registers_lent : (calls : List Call) → StatusRegisters p calls (run_lent (power_on_lent block p).block calls)
  status_registers_lent calls = subst (StatusRegisters p calls) (sym (run_on calls)) (status_registers p powered calls)
