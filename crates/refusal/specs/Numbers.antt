-- The number of each refusal, as C sees it: 1 to 14 of calls of a machine, 15 to 17 of a keyring, 18 of a counter call.
-- Assumes nothing.
use Rattle.std.specs.Prelude.{ℕ, Result, Ok, Err}
use Rattle.refusal.specs.declared.Refusal.{Refusal}
use Rattle.refusal.specs.declared.Refusal.TheVariants.{Machine, UnknownCode, Processor, CpuLength, CpuRecord, MemoryLength, RandomLength, BadByte, EndOfString, InvalidOpcode, NoMath, General, Stack, Page, Keyring, NoLabel, NoRoom, BufferSize}

abbrev pub number_of : Refusal → ℕ
number_of Machine = 1
number_of UnknownCode = 2
number_of Processor = 3
number_of CpuLength = 4
number_of CpuRecord = 5
number_of MemoryLength = 6
number_of RandomLength = 7
number_of BadByte = 8
number_of EndOfString = 9
number_of InvalidOpcode = 10
number_of NoMath = 11
number_of General = 12
number_of Stack = 13
number_of Page = 14
number_of Keyring = 15
number_of NoLabel = 16
number_of NoRoom = 17
number_of BufferSize = 18

-- what a call answers: 0, or the number of its refusal
abbrev pub answer_of : {A : Type 0} → Result A Refusal → ℕ
answer_of (Ok x) = 0
answer_of (Err e) = number_of e
