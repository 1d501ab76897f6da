-- Change request (vi): the idle step meets refusals 1 and 3 to 7 and no other, gives machine, block and CPU record back, and moves no name; striking it out
-- of a list of calls changes no other answer, and not the machine.
-- Assumes nothing.
use mathlib.Core.Path.{◌≡◌, ◌∙◌, refl, sym, ap}
use mathlib.Core.Bool.{Bool, true, false, cond, true≢false}
use mathlib.Core.List.{List, [], ◌∷◌, ◌++◌}
use mathlib.Core.Option.{Option, none}
use Prim.Native.Nat.{ℕ}
use native.Mathlib.Omega.{arith}
use lib.Dec.{eqb}
use lib.ListN.{length}
use borrow.Author.Tests.{eqb-true}
use Rattle.bits.proofs.Choice.{cond_off}
use Rattle.bits.proofs.Lists.{no_elements}
use Rattle.isa.specs.Decode.{decode}
use Rattle.isa.specs.declared.Decoded.{Decoded}
use Rattle.isa.specs.declared.Decoded.TheVariants as decoded
use Rattle.isa.proofs.Empty.{at_end}
use Rattle.model.specs.Records.{processor_at}
use Rattle.model.specs.Calls.{PowerOn, StepCall, Call, step}
use Rattle.model.specs.Refusals.{View, Asked, between, first, tests, of_step, refusal}
use Rattle.model.specs.Instructions.{stepped, executed}
use Rattle.model.specs.Execution.{done, perform, number_of, call, run, power_on}
use Rattle.model.specs.History.{History, view_given, load_in, makes, loads, moved, history}
use Rattle.model.specs.Demand3.{Encode, UseMade, encode_in, use_in, encode_of, use_of, answer_at}
use Rattle.model.specs.Layout.{machine_size, machine_at}
use Rattle.model.specs.Lent.{into, wrong_size, call_lent}
use Rattle.model.specs.Struck.{struck}
use Rattle.model.specs.Idle.{is_idle, idle_refusal, idle_answer, IdleUnseen}
use Rattle.model.specs.declared.Machine.{Machine}
use Rattle.model.proofs.Frames.{by_step, by_number, step-loads}
use Rattle.model.proofs.Histories.{number_told}
use Rattle.model.proofs.Demand3.{answer_at_lem, holds, power_on_holds}
use Rattle.model.proofs.Lent.{kept_lent}
use Rattle.model.proofs.Struck.{struck_answers, struck-run}

module _ (s : StepCall) (empty : s.string ≡ []) where
  nothing : decode s.string ≡ decoded.Empty
  nothing = ap decode empty ∙ at_end [] 0 (omega arith)

  -- ---- one idle step

  pub idle_refusal_lem : (v : View) → refusal v (step s) ≡ idle_refusal v (step s)
  unfolding refusal tests
  idle_refusal_lem v =
      ap (λ (d : Decoded). first (tests v (of_step (with d)))) nothing
      ∙ ap (λ (d : Decoded). first (between 3 7 (tests v (of_step (with d))))) (sym nothing)
    where
      with : Decoded → Asked
      with d = record { processor = s.processor; cpu = s.cpu; memory = length s.memory; random = length s.random; decoded = d }

  -- no load, encode or use
  pub idle_loads : loads s ≡ false
  idle_loads = ap (λ (d : Decoded). makes s (load_in d)) nothing

  pub idle_encode : ◌≡◌ {A = Option Encode} (encode_of (step s)) none
  idle_encode = ap (encode_in s) nothing

  pub idle_use : ◌≡◌ {A = Option UseMade} (use_of (step s)) none
  idle_use = ap (use_in s) nothing

  pub idle_moves : (p : PowerOn) (past : List Call) (h : History) → moved p past (step s) h ≡ h
  unfolding moved
  idle_moves p past h = cond_off idle_loads _ h

  module _ (m : Machine) where
    -- refused or not, machine and CPU record stay
    pub idle_call : call m (step s) ≡ record { machine = m; answer = idle_answer (number_of m (step s)) (step s) }
    unfolding perform executed
    idle_call = λ j. record { machine = step-loads m s idle_loads j; answer = answered j }
      where
        answered : (call m (step s)).answer ≡ idle_answer (number_of m (step s)) (step s)
        answered =
            by_number m (step s) (λ o. o.answer ≡ idle_answer (number_of m (step s)) (step s))
            (λ e. (λ j.
            record { number = sym e j; cpu = (stepped s (processor_at m s.processor).key (nothing j)).cpu; buffer = []; value = 0 }))
            (λ e. refl)

    pub idle_kept : number_of m (step s) ≡ 0 → call m (step s) ≡ done m s.cpu [] 0
    idle_kept e = idle_call ∙ ap (λ (n : ℕ). record { machine = m; answer = idle_answer n (step s) }) e

  -- so does the block, whatever it holds
  pub idle_lent : (block : List ℕ)
      → call_lent block (step s)
      ≡ record { block = block; answer = idle_answer (cond (eqb (length block) machine_size) (number_of (machine_at block) (step s)) 1) (step s) }
  unfolding call_lent
  idle_lent block =
      λ j.
      record {
        block = kept_lent block (step s) (λ i. (idle_call (machine_at block) i).machine) j;
        answer = go (eqb (length block) machine_size) j;
      }
    where
      go : (t : Bool)
          → (cond t (into block (call (machine_at block) (step s))) (wrong_size block s.cpu [])).answer
          ≡ idle_answer (cond t (number_of (machine_at block) (step s)) 1) (step s)
      go true = λ i. (idle_call (machine_at block) i).answer
      go false = refl

-- ---- idle steps among other calls

idle_cases : (Q : Call → Type 0) → ((s : StepCall) → s.string ≡ [] → Q (step s)) → (c : Call) → is_idle c ≡ true → Q c
idle_cases Q f =
    by_step (λ s. eqb (length s.string) 0) false (λ c b. b ≡ true → Q c)
    (λ s e. f s (no_elements s.string (eqb-true (length s.string) 0 e))) (λ c e. absurd (true≢false (sym e)))

idle_same : (m : Machine) (c : Call) → is_idle c ≡ true → call m c ≡ record { machine = m; answer = idle_answer (number_of m c) c }
idle_same m = idle_cases (λ c. call m c ≡ record { machine = m; answer = idle_answer (number_of m c) c }) (λ s e. idle_call s e m)

-- from any machine
module _ (m : Machine) where
  pub machine_same : (calls : List Call) → (run m calls).machine ≡ (run m (struck is_idle calls)).machine
  machine_same =
      struck-run is_idle (λ m n. m ≡ n) (λ m n h c. ap (λ (x : Machine). (call x c).machine) h)
      (λ m n h c e. (λ j. (idle_same m c e j).machine) ∙ h) m m refl

  pub answers_same : (calls xs : List Call) (c : Call) (ys : List Call) → calls ≡ xs ++ c ∷ ys → is_idle c ≡ false
      → answer_at (run m calls) (length xs) ≡ answer_at (run m (struck is_idle calls)) (length (struck is_idle xs))
  answers_same calls xs c ys split e =
      struck_answers is_idle (λ a b. a ≡ b) m calls xs c ys split e (ap (λ (x : Machine). (call x c).answer) (machine_same xs))

-- from a power-on
pub idle_unseen : (p : PowerOn) → (power_on p).answer.number ≡ 0 → (calls : List Call)
    → IdleUnseen p calls (run (power_on p).machine calls) (run (power_on p).machine (struck is_idle calls))
idle_unseen p ok calls =
    let m = (power_on p).machine in
    record {
      machine = machine_same m calls;
      answers = answers_same m calls;
      idle =
          λ xs c ys split e.
          ap (λ (l : List Call). answer_at (run m l) (length xs)) split ∙ answer_at_lem m xs c ys
          ∙ (λ j. (idle_same (run m xs).machine c e j).answer)
          ∙ ap (λ (n : ℕ). idle_answer n c)
          (number_told p xs c (run m xs).machine (history p xs) (holds p m (power_on_holds p ok) xs)
          ∙ idle_cases (λ c. refusal (view_given p) c ≡ idle_refusal (view_given p) c) (λ s e. idle_refusal_lem s e (view_given p)) c e);
    }
