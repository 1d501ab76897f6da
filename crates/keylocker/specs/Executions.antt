-- Demand 3: "Each call gets the machine that the one before left, and nobody else writes it meanwhile." Exported calls made one after another on one block,
-- of which nothing is known but what they promise.
-- Assumes nothing.
use Rattle.std.specs.Prelude.{◌≡◌, cond, List, [], ◌∷◌, ℕ, eqb}
use Rattle.model.specs.Calls.{PowerOn, StepCall, CounterCall, ReadCall, WriteCall, SettleCall, SleepCall, Call, step, counter, read, write, settle, sleep, reset, taken, Answer}
use Rattle.model.specs.Execution.{Run}
use Rattle.model.specs.Layout.{machine_at}
use Rattle.keylocker.specs.Promises.{answer, PowerOnPromise, StepPromise, CounterPromise, ReadPromise, WritePromise, SettlePromise, SleepPromise, ResetPromise, TakenPromise}

-- from a block, by calls, with these answers, to a block
pub data Chain : List ℕ → List Call → List Answer → List ℕ → Type 0 where
  ended : {block : List ℕ} → Chain block [] [] block
  stepped : {before after last : List ℕ} {calls : List Call} {answers : List Answer} (s : StepCall) (cpu : List ℕ) (number : ℕ)
      → StepPromise before s after cpu number → Chain after calls answers last
      → Chain before (step s ∷ calls) (answer number cpu [] 0 ∷ answers) last
  counted : {before after last : List ℕ} {calls : List Call} {answers : List Answer} (c : CounterCall) (cpu buffer : List ℕ) (number : ℕ)
      → CounterPromise before c after cpu buffer number → Chain after calls answers last
      → Chain before (counter c ∷ calls) (answer number cpu buffer 0 ∷ answers) last
  did_read : {block last : List ℕ} {calls : List Call} {answers : List Answer} (r : ReadCall) (old value number : ℕ)
      → ReadPromise block r old value number → Chain block calls answers last
      → Chain block (read r ∷ calls) (answer number [] [] (cond (eqb number 0) value 0) ∷ answers) last
  wrote : {before after last : List ℕ} {calls : List Call} {answers : List Answer} (w : WriteCall) (number : ℕ)
      → WritePromise before w after number → Chain after calls answers last → Chain before (write w ∷ calls) (answer number [] [] 0 ∷ answers) last
  settled : {before after last : List ℕ} {calls : List Call} {answers : List Answer} (s : SettleCall) (number : ℕ)
      → SettlePromise before s after number → Chain after calls answers last → Chain before (settle s ∷ calls) (answer number [] [] 0 ∷ answers) last
  slept : {before after last : List ℕ} {calls : List Call} {answers : List Answer} (s : SleepCall) (number : ℕ)
      → SleepPromise before s after number → Chain after calls answers last → Chain before (sleep s ∷ calls) (answer number [] [] 0 ∷ answers) last
  was_reset : {before after last : List ℕ} {calls : List Call} {answers : List Answer} (number : ℕ)
      → ResetPromise before after number → Chain after calls answers last → Chain before (reset ∷ calls) (answer number [] [] 0 ∷ answers) last
  was_taken : {before after last : List ℕ} {calls : List Call} {answers : List Answer} (number : ℕ)
      → TakenPromise before after number → Chain after calls answers last → Chain before (taken ∷ calls) (answer number [] [] 0 ∷ answers) last

-- a power-on that answered 0, on a block that held anything, and then the calls; r is what they answered and the machine in the block at the end
pub record Execution (p : PowerOn) (calls : List Call) (r : Run) : Type 0 where
  pub lent : List ℕ
  pub first : List ℕ
  pub last : List ℕ
  pub on : PowerOnPromise lent p first 0
  pub chain : Chain first calls r.answers last
  pub machine : machine_at last ≡ r.machine
