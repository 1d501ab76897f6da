-- What turns a counter call back past refusal 1, and what it leaves.
-- Assumes nothing.
use Rattle.std.specs.Prelude.{not, List, ◌∷◌, ℕ, eqb, leb, length}
use Rattle.model.specs.Calls as calls
use Rattle.model.specs.Calls.{CounterCall}
use Rattle.model.specs.Cpu.{cpu_size, control, bad_record}
use Rattle.model.specs.Refusals.{View, Test, test, bad_size}
use Rattle.model.specs.declared.Machine.{Machine}
use Rattle.refusals.specs.Parts.{single_tests}

-- 18 stands directly behind 5, and 10 and 11 follow as for the single form
abbrev pub counter_tests : View → CounterCall → List Test
counter_tests v c =
    test 3 (leb v.count c.processor)
    ∷ test 4 (not (eqb (length c.cpu) cpu_size))
    ∷ test 5 (bad_record c.cpu)
    ∷ test 18 (bad_size c)
    ∷ single_tests v.features (control c.cpu)

-- the number of its answer, the machine, the CPU record and the buffer
pub record Left : Type 0 where
  pub number : ℕ
  pub machine : Machine
  pub cpu : List ℕ
  pub buffer : List ℕ

abbrev pub left : ℕ → Machine → List ℕ → List ℕ → Left
left number m cpu buffer = record { number = number; machine = m; cpu = cpu; buffer = buffer }

-- what the model's call leaves
abbrev pub left_of : calls.Outcome → Left
left_of o = left o.answer.number o.machine o.answer.cpu o.answer.buffer
