-- Change request (vi): "An empty instruction string is now accepted and changes nothing, RIP included." What it answers among other calls, and what tells a
-- list of calls from the same list with every idle step struck out.
-- Assumes nothing.
use Rattle.std.specs.Prelude.{◌≡◌, Bool, true, false, List, [], ◌∷◌, ◌++◌, ℕ, eqb, length}
use Rattle.model.specs.Calls.{PowerOn, Call, on_step, lent_cpu, Answer}
use Rattle.model.specs.Refusals.{View, between, first, tests, operands}
use Rattle.model.specs.Execution.{Run}
use Rattle.model.specs.History.{view_given}
use Rattle.model.specs.Demand3.{answer_at}
use Rattle.model.specs.Struck.{struck}

-- "a string at each tick, and an idle tick has none"
abbrev pub is_idle : Call → Bool
is_idle = on_step (λ s. eqb (length s.string) 0) false

-- "Refusals 1 to 7 still come first.": those of an idle step that passes 1, which has no code to be refused with 2
abbrev pub idle_refusal : View → Call → ℕ
idle_refusal v c = first (between 3 7 (tests v (operands c)))

-- refused or not, it gives the CPU record back
abbrev pub idle_answer : ℕ → Call → Answer
idle_answer n c = record { number = n; cpu = lent_cpu c; buffer = []; value = 0 }

-- after a power-on p that was not refused, the calls were made and gave r, and with every idle step struck out s
pub record IdleUnseen (p : PowerOn) (calls : List Call) (r s : Run) : Type 0 where
  pub machine : r.machine ≡ s.machine
  -- of every call that is left
  pub answers : (xs : List Call) (c : Call) (ys : List Call) → calls ≡ xs ++ c ∷ ys → is_idle c ≡ false
      → answer_at r (length xs) ≡ answer_at s (length (struck is_idle xs))
  -- of every idle step
  pub idle : (xs : List Call) (c : Call) (ys : List Call) → calls ≡ xs ++ c ∷ ys → is_idle c ≡ true
      → answer_at r (length xs) ≡ idle_answer (idle_refusal (view_given p) c) c
