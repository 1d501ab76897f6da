-- The scope, "Records": "For C it is lent as 924 bytes". The calls on a lent block of bytes, and lists of them on one block.
-- Assumes nothing.
use Rattle.std.specs.Prelude.{cond, List, [], ◌∷◌, ℕ, eqb, length}
use Rattle.model.specs.Calls.{PowerOn, Call, lent_cpu, lent_buffer, Answer, Outcome}
use Rattle.model.specs.Execution.{power_on, call, Run}
use Rattle.model.specs.Layout.{machine_size, machine_bytes, machine_at}

-- the block and the answer after a call
pub record Lent : Type 0 where
  pub block : List ℕ
  pub answer : Answer

-- what is by value goes back into the block, which stays where it is refused
abbrev pub into : List ℕ → Outcome → Lent
into block o = record { block = cond (eqb o.answer.number 0) (machine_bytes o.machine) block; answer = o.answer }

-- "Machine not 924 bytes (C form)" gives 1, with CPU record and buffer as lent
abbrev pub wrong_size : List ℕ → List ℕ → List ℕ → Lent
wrong_size block cpu buffer = record { block = block; answer = record { number = 1; cpu = cpu; buffer = buffer; value = 0 } }

-- "Of lent bytes power-on reads only the length. Refused, .. lent bytes stay."
unfoldable pub power_on_lent : List ℕ → PowerOn → Lent
power_on_lent block p = cond (eqb (length block) machine_size) (into block (power_on p)) (wrong_size block [] [])

-- the call on the machine in the block
unfoldable pub call_lent : List ℕ → Call → Lent
call_lent block c = cond (eqb (length block) machine_size) (into block (call (machine_at block) c)) (wrong_size block (lent_cpu c) (lent_buffer c))

-- a list of calls on one block, and the machine that is in it then
abbrev pub run_lent : List ℕ → List Call → Run
run_lent block [] = record { answers = []; machine = machine_at block }
run_lent block (c ∷ l) =
    record {
      answers = (call_lent block c).answer ∷ (run_lent (call_lent block c).block l).answers;
      machine = (run_lent (call_lent block c).block l).machine;
    }
