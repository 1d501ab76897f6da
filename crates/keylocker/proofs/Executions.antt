-- Demand 3 of the exported calls: every execution satisfies it, and every list of calls from an accepted power-on has one execution and no other.
-- Assumes nothing.
use mathlib.Core.Path.{◌≡◌, ◌∙◌, refl, sym, ap, subst}
use mathlib.Core.Bool.{Bool, true, false, cond}
use mathlib.Core.List.{List, [], ◌∷◌}
use mathlib.Core.Option.{Option, some}
use Prim.Native.Nat.{ℕ}
use lib.Dec.{eqb}
use lib.ListN.{length, get_or}
use borrow.Author.Tests.{eqb-true, eq-eqb}
use Rattle.bits.proofs.Choice.{cond_on, on_cond}
use Rattle.model.specs.Calls.{PowerOn, StepCall, CounterCall, ReadCall, WriteCall, Call, step, counter, read, write, settle, sleep, reset, taken, Answer}
use Rattle.model.specs.Execution.{power_on, Run, run}
use Rattle.model.specs.History.{name_at, history}
use Rattle.model.specs.Demand3.{held, Demand3, CounterCalls}
use Rattle.model.specs.Status.{StatusRegisters, rule_calls, OperatorRule}
use Rattle.model.specs.Struck.{struck}
use Rattle.model.specs.Taken.{is_taken, TakenUnseen}
use Rattle.model.specs.Idle.{is_idle, IdleUnseen}
use Rattle.model.specs.Layout.{machine_size, machine_bytes, machine_at}
use Rattle.model.specs.Lent.{Lent, into, wrong_size, power_on_lent, call_lent, run_lent}
use Rattle.model.specs.Records.{zero_key}
use Rattle.model.specs.declared.IwKey.{IwKey}
use Rattle.model.proofs.Lent.{power_on_lent_lem, run_on, demand_3_lent, counter_calls_lent, status_registers_lent}
use Rattle.model.proofs.Operator.{operator_rule}
use Rattle.model.proofs.Taken.{taken_unseen}
use Rattle.model.proofs.Idle.{idle_lent, idle_unseen}
use Rattle.model.proofs.Counter.{counter_lent}
use Rattle.keylocker.specs.Meaning.{called}
use Rattle.keylocker.specs.Promises.{answer, gave, PowerOnPromise, StepPromise, CounterPromise, ReadPromise}
use Rattle.keylocker.specs.Executions.{Chain, ended, stepped, counted, did_read, wrote, settled, slept, was_reset, was_taken, Execution}
use Rattle.keylocker.proofs.Finishing.{power_on_promised, cpu_of, buffer_of, value_of, answer_as, promised, read_block, read_value, read_promised}

-- ---- what is promised is what the model's calls give, one after another

-- the block after a list of calls
abbrev block_after : List ℕ → List Call → List ℕ
block_after block [] = block
block_after block (c ∷ l) = block_after (call_lent block c).block l

record Ran (block : List ℕ) (calls : List Call) (answers : List Answer) (last : List ℕ) : Type 0 where
  run : run_lent block calls ≡ record { answers = answers; machine = machine_at last }
  left : block_after block calls ≡ last

ran_more : {before after last : List ℕ} {calls : List Call} {answers : List Answer} (c : Call) (a : Answer)
    → record { block = after; answer = a } ≡ call_lent before c → Ran after calls answers last → Ran before (c ∷ calls) (a ∷ answers) last
ran_more {calls = calls} c a e r =
    record {
      run =
          ap (λ (x : Lent). record { answers = x.answer ∷ (run_lent x.block calls).answers; machine = (run_lent x.block calls).machine }) (sym e)
          ∙ ap (λ (x : Run). record { answers = a ∷ x.answers; machine = x.machine }) r.run;
      left = ap (λ (x : Lent). block_after x.block calls) (sym e) ∙ r.left;
    }

chain_ran : {block last : List ℕ} {calls : List Call} {answers : List Answer} → Chain block calls answers last → Ran block calls answers last
chain_ran ended = record { run = refl; left = refl }
chain_ran (stepped s cpu n e l) = ran_more (step s) (answer n cpu [] 0) e (chain_ran l)
chain_ran (counted c cpu buffer n e l) = ran_more (counter c) (answer n cpu buffer 0) e (chain_ran l)
chain_ran (did_read r old v n e l) = ran_more (read r) (answer n [] [] (cond (eqb n 0) v 0)) e.answered (chain_ran l)
chain_ran (wrote w n e l) = ran_more (write w) (answer n [] [] 0) e (chain_ran l)
chain_ran (settled s n e l) = ran_more (settle s) (answer n [] [] 0) e (chain_ran l)
chain_ran (slept s n e l) = ran_more (sleep s) (answer n [] [] 0) e (chain_ran l)
chain_ran (was_reset n e l) = ran_more reset (answer n [] [] 0) e (chain_ran l)
chain_ran (was_taken n e l) = ran_more taken (answer n [] [] 0) e (chain_ran l)

module _ (p : PowerOn) (calls : List Call) (r : Run) (x : Execution p calls r) where
  powered : (power_on_lent x.lent p).answer.number ≡ 0
  powered = λ j. (sym x.on j).answer.number

  -- what the block held before power-on does not matter
  first_block : x.first ≡ machine_bytes (power_on p).machine
  first_block = (λ j. (x.on j).block) ∙ (power_on_lent_lem x.lent p powered).1

  -- the answers and the machine at the end
  execution_run : run_lent (machine_bytes (power_on p).machine) calls ≡ r
  execution_run =
      ap (λ (b : List ℕ). run_lent b calls) (sym first_block) ∙ (chain_ran x.chain).run ∙ (λ j. record { answers = r.answers; machine = x.machine j })

  execution_block : block_after (machine_bytes (power_on p).machine) calls ≡ x.last
  execution_block = ap (λ (b : List ℕ). block_after b calls) (sym first_block) ∙ (chain_ran x.chain).left

  -- ---- demand 3, and what the status registers tell

  lent_run : run_lent (power_on_lent x.lent p).block calls ≡ r
  lent_run = ap (λ (b : List ℕ). run_lent b calls) (power_on_lent_lem x.lent p powered).1 ∙ execution_run

  accepted : (power_on p).answer.number ≡ 0
  accepted = (power_on_lent_lem x.lent p powered).2

  model_run : run (power_on p).machine calls ≡ r
  model_run = sym (run_on x.lent p powered calls) ∙ lent_run

  pub demand_3_c : Demand3 p calls r
  demand_3_c = subst (Demand3 p calls) lent_run (demand_3_lent x.lent p powered calls)

  pub counter_calls_c : CounterCalls p calls r
  counter_calls_c = subst (CounterCalls p calls) lent_run (counter_calls_lent x.lent p powered calls)

  pub status_registers_c : StatusRegisters p calls r
  status_registers_c = subst (StatusRegisters p calls) lent_run (status_registers_lent x.lent p powered calls)

-- a write of 1 to 0xD91 on a processor, its copy status read 1 directly after it, valid read 1 later, and nothing between that takes either away: the store
-- has the processor's name, and holds its IWKey
pub operator_rule_c : (p : PowerOn) (r : Run) (xs : List Call) (w : WriteCall) (c : ReadCall) (ys : List Call) (v : ReadCall)
    → Execution p (rule_calls xs w c ys v) r → OperatorRule p r xs w c ys v
    → (◌≡◌ {A = Option ℕ} (history p (rule_calls xs w c ys v)).store (some (name_at w.processor (history p (rule_calls xs w c ys v)))))
    × (◌≡◌ {A = Option IwKey} (held r.machine).store (some (get_or (held r.machine).processors w.processor zero_key)))
operator_rule_c p r xs w c ys v x o =
    let calls = rule_calls xs w c ys v in operator_rule p r xs w c ys v (demand_3_c p calls r x) (status_registers_c p calls r x) o

-- what holds of every list of calls and the list without some of them, of an execution of each
module _ (p : PowerOn) (calls : List Call) (r s : Run) (out : Call → Bool) (x : Execution p calls r) (y : Execution p (struck out calls) s) where
  both : (P : Run → Run → Type 0)
      → ((power_on p).answer.number ≡ 0 → P (run (power_on p).machine calls) (run (power_on p).machine (struck out calls))) → P r s
  both P h =
      subst (P r) (model_run p (struck out calls) s y)
      (subst (λ (z : Run). P z (run (power_on p).machine (struck out calls))) (model_run p calls r x) (h (accepted p calls r x)))

-- with every `taken` struck out
pub taken_unseen_c : (p : PowerOn) (calls : List Call) (r s : Run) → Execution p calls r → Execution p (struck is_taken calls) s → TakenUnseen p calls r s
taken_unseen_c p calls r s x y = both p calls r s is_taken x y (TakenUnseen p calls) (λ ok. taken_unseen p ok calls)

-- with every idle step struck out
pub idle_unseen_c : (p : PowerOn) (calls : List Call) (r s : Run) → Execution p calls r → Execution p (struck is_idle calls) s → IdleUnseen p calls r s
idle_unseen_c p calls r s x y = both p calls r s is_idle x y (IdleUnseen p calls) (λ ok. idle_unseen p ok calls)

-- the block and the CPU record after an idle step, refused or not
pub idle_kept_c : (before after cpu : List ℕ) (s : StepCall) (number : ℕ) → StepPromise before s after cpu number → s.string ≡ []
    → (after ≡ before) × (cpu ≡ s.cpu)
idle_kept_c before after cpu s number h e = let x = h ∙ idle_lent s e before in (λ j. (x j).block, λ j. (x j).answer.cpu)

-- the block after a counter call, refused or not
pub counter_kept_c : (before after cpu buffer : List ℕ) (c : CounterCall) (number : ℕ) → CounterPromise before c after cpu buffer number → after ≡ before
counter_kept_c before after cpu buffer c number h = (λ j. (h j).block) ∙ counter_lent before c

-- ---- one execution, and no other

pub execution_only : (p : PowerOn) (calls : List Call) (r s : Run) (x : Execution p calls r) (y : Execution p calls s) → (r ≡ s) × (x.last ≡ y.last)
execution_only p calls r s x y =
    (sym (execution_run p calls r x) ∙ execution_run p calls s y, sym (execution_block p calls r x) ∙ execution_block p calls s y)

-- a read, whatever the value was before
module _ (block : List ℕ) (r : ReadCall) (old : ℕ) where
  abbrev given : Answer
  given = (call_lent block (read r)).answer

  abbrev found : ℕ
  found = cond (eqb given.number 0) given.value old

  read_found : ReadPromise block r old found given.number
  read_found =
      read_promised block r old given.number found refl (λ e. cond_on (eq-eqb given.number 0 e) given.value old)
      (λ n. on_cond (λ (v : ℕ). v ≡ old) (eqb given.number 0) given.value old (λ t. absurd (n (eqb-true given.number 0 t))) (λ t. refl))

  read_answer : answer given.number [] [] (cond (eqb given.number 0) found 0) ≡ given
  read_answer =
      ap (answer given.number [] []) (go (eqb given.number 0) ∙ sym (read_value block r old)) ∙ sym (answer_as block (read r))
    where
      go : (t : Bool) → cond t (cond t given.value old) 0 ≡ cond t given.value 0
      go true = refl
      go false = refl

module _ (block : List ℕ) (old : ℕ) (l : List Call) where
  -- the calls l after c, and c before them with an answer
  abbrev After : Call → List ℕ → Type 0
  After c b = Chain b l (run_lent (call_lent block c).block l).answers (block_after (call_lent block c).block l)

  abbrev With : Call → Answer → Type 0
  With c a = Chain block (c ∷ l) (a ∷ (run_lent (call_lent block c).block l).answers) (block_after (call_lent block c).block l)

  whole : (c : Call)
      → gave (call_lent block c).block (call_lent block c).answer.number (cpu_of c (call_lent block c).answer.cpu)
      (buffer_of c (call_lent block c).answer.buffer) (value_of c (call_lent block c).answer.value)
      ≡ call_lent block c
  whole c = promised block _ _ _ _ _ c refl refl refl refl

  chain_more : (c : Call) → After c (call_lent block c).block → With c (call_lent block c).answer
  chain_more (step s) x = subst (With (step s)) (sym (answer_as block (step s))) (stepped s _ _ (whole (step s)) x)
  chain_more (counter c) x = subst (With (counter c)) (sym (answer_as block (counter c))) (counted c _ _ _ (whole (counter c)) x)
  chain_more (read r) x =
      subst (With (read r)) (read_answer block r old)
      (did_read r old (found block r old) _ (read_found block r old) (subst (After (read r)) (read_block block r old) x))
  chain_more (write w) x = subst (With (write w)) (sym (answer_as block (write w))) (wrote w _ (whole (write w)) x)
  chain_more (settle s) x = subst (With (settle s)) (sym (answer_as block (settle s))) (settled s _ (whole (settle s)) x)
  chain_more (sleep s) x = subst (With (sleep s)) (sym (answer_as block (sleep s))) (slept s _ (whole (sleep s)) x)
  chain_more reset x = subst (With reset) (sym (answer_as block reset)) (was_reset _ (whole reset) x)
  chain_more taken x = subst (With taken) (sym (answer_as block taken)) (was_taken _ (whole taken) x)

chain_of : (block : List ℕ) (old : ℕ) (calls : List Call) → Chain block calls (run_lent block calls).answers (block_after block calls)
chain_of block old [] = ended
chain_of block old (c ∷ l) = chain_more block old l c (chain_of (call_lent block c).block old l)

-- what runs on lent bytes ends with the machine that is in them then
run_block : (block : List ℕ) (calls : List Call) → machine_at (block_after block calls) ≡ (run_lent block calls).machine
run_block block [] = refl
run_block block (c ∷ l) = run_block (call_lent block c).block l

module _ (block : List ℕ) (p : PowerOn) (size : length block ≡ machine_size) (ok : (power_on p).answer.number ≡ 0) where
  on_lent : PowerOnPromise block p (power_on_lent block p).block 0
  unfolding power_on_lent
  on_lent =
      power_on_promised block p (power_on_lent block p).block 0
      (λ j. called (sym (ap (λ (x : Lent). x.answer.number) (cond_on (eq-eqb (length block) machine_size size) (into block (power_on p)) (wrong_size block [] [])) ∙ ok) j) (power_on_lent block p).block)

  -- the value that a read finds before it is any
  pub execution_exists : (calls : List Call) (old : ℕ) → Execution p calls (run_lent (power_on_lent block p).block calls)
  execution_exists calls old =
      record {
        lent = block;
        first = (power_on_lent block p).block;
        last = block_after (power_on_lent block p).block calls;
        on = on_lent;
        chain = chain_of (power_on_lent block p).block old calls;
        machine = run_block (power_on_lent block p).block calls;
      }
