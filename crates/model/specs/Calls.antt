-- The calls of demand 3 with all their arguments but the machine, and what a call gives.
-- Assumes nothing.
use Rattle.std.specs.Prelude.{List, [], ℕ}
use Rattle.std.proofs.Math.Option.{Option, none, some}
use Rattle.model.specs.declared.Machine.{Machine}

-- what power-on is given (the scope, "Records")
pub record PowerOn : Type 0 where
  pub count : ℕ
  pub features : ℕ

-- an instruction string on a processor; CPU record, memory, random data and string are bytes, of any length
pub record StepCall : Type 0 where
  pub processor : ℕ
  pub cpu : List ℕ
  pub memory : List ℕ
  pub random : List ℕ
  pub string : List ℕ

-- change request (vii): "One call is to take a processor, CPU record, handle with its size (48 or 64), a 16-byte counter block and a lent buffer." The size is
-- that of the handle lent; all are bytes, of any length
pub record CounterCall : Type 0 where
  pub processor : ℕ
  pub cpu : List ℕ
  pub handle : List ℕ
  pub counter : List ℕ
  pub buffer : List ℕ

-- the scope, "Backup, sleep, reset": "A register call takes a processor number, a CPL, an address and, to write, 64 bits"
pub record ReadCall : Type 0 where
  pub processor : ℕ
  pub cpl : ℕ
  pub address : ℕ

pub record WriteCall : Type 0 where
  pub processor : ℕ
  pub cpl : ℕ
  pub address : ℕ
  pub value : ℕ

-- the scope's settle: the persistent storage has taken the backup (0 good), or has failed (1 bad)
pub record SettleCall : Type 0 where
  pub code : ℕ

-- the scope's sleep and wake: what the storage kept (0 old, 1 new, 2 junk)
pub record SleepCall : Type 0 where
  pub code : ℕ

pub data Call : Type 0 where
  step : StepCall → Call
  counter : CounterCall → Call
  read : ReadCall → Call
  write : WriteCall → Call
  settle : SettleCall → Call
  sleep : SleepCall → Call
  reset : Call
  -- change request (v): the platform has taken the backup, and its storage is still at work
  taken : Call

-- ---- what a call has, or lacks

-- f of a step, g of a counter call, and d of every other call
abbrev pub on_cpu : {A : Type 0} → (StepCall → A) → (CounterCall → A) → A → Call → A
on_cpu f g d (step s) = f s
on_cpu f g d (counter c) = g c
on_cpu f g d (read r) = d
on_cpu f g d (write w) = d
on_cpu f g d (settle s) = d
on_cpu f g d (sleep s) = d
on_cpu f g d reset = d
on_cpu f g d taken = d

-- f of a step, and d of every other call
abbrev pub on_step : {A : Type 0} → (StepCall → A) → A → Call → A
on_step f d = on_cpu f (λ c. d) d

abbrev pub step_of : Call → Option StepCall
step_of = on_step some none

-- the CPU record as lent, empty where the call has none
abbrev pub lent_cpu : Call → List ℕ
lent_cpu = on_cpu (λ s. s.cpu) (λ c. c.cpu) []

-- the buffer as lent, empty where the call has none
abbrev pub lent_buffer : Call → List ℕ
lent_buffer = on_cpu (λ s. []) (λ c. c.buffer) []

-- ---- what a call gives

-- 0 or the refusal's number; the CPU record and the lent buffer after the call, as lent where it is refused and empty where it has none; the value read
pub record Answer : Type 0 where
  pub number : ℕ
  pub cpu : List ℕ
  pub buffer : List ℕ
  pub value : ℕ

pub record Outcome : Type 0 where
  pub machine : Machine
  pub answer : Answer
