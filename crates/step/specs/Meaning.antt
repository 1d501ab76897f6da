-- What a step leaves: the number of its refusal, or 0, the machine and the CPU record.
-- Assumes nothing.
use Rattle.std.specs.Prelude.{List, ℕ, Result, Ok, Err}
use Rattle.model.specs.Calls as calls
use Rattle.model.specs.Records.{with_processor}
use Rattle.model.specs.declared.Machine.{Machine}
use Rattle.model.specs.declared.Processor.{Processor}
use Rattle.refusal.specs.declared.Refusal.{Refusal}

pub record Left : Type 0 where
  pub number : ℕ
  pub machine : Machine
  pub cpu : List ℕ

abbrev pub left : ℕ → Machine → List ℕ → Left
left n m c = record { number = n; machine = m; cpu = c }

-- what the model's call leaves; one that is refused leaves machine and CPU record as they were
abbrev pub left_of : calls.Outcome → Left
left_of o = left o.answer.number o.machine o.answer.cpu

-- the machine with the entry that a step of processor p gives in its place; as it was, where the step is refused
abbrev pub machine_after : Machine → ℕ → Result Processor Refusal → Machine
machine_after m p (Ok e) = with_processor p e m
machine_after m p (Err why) = m
