-- What each exported call promises its C caller: over the bytes and the value lent, at entry and at exit, and the number that it returns. A contract in
-- src/lib.rt is one of these, of its own parameters.
-- Assumes nothing.
use Rattle.std.specs.Prelude.{◌≡◌, cond, List, [], ℕ, eqb}
use Rattle.model.specs.Calls.{PowerOn, StepCall, CounterCall, ReadCall, WriteCall, SettleCall, SleepCall, step, counter, read, write, settle, sleep, reset, taken, Answer}
use Rattle.model.specs.Lent.{Lent, power_on_lent, call_lent}
use Rattle.cpuid_model.specs.Calls.{CpuidCall, identify_lent}
use Rattle.cpuid_model.specs.declared.Leaf.{Leaf}
use Rattle.keyring_model.specs.Lookup.{lookup_lent}
use Rattle.keyring_model.specs.Add.{added, add}

-- what a caller sees of an answer: the number returned, the CPU record and the buffer at exit, the value read
abbrev pub answer : ℕ → List ℕ → List ℕ → ℕ → Answer
answer number cpu buffer value = record { number = number; cpu = cpu; buffer = buffer; value = value }

-- and of a call: the block at exit, too
abbrev pub gave : List ℕ → ℕ → List ℕ → List ℕ → ℕ → Lent
gave block number cpu buffer value = record { block = block; answer = answer number cpu buffer value }

-- keylocker_power_on
abbrev pub PowerOnPromise : List ℕ → PowerOn → List ℕ → ℕ → Type 0
PowerOnPromise before p after number = gave after number [] [] 0 ≡ power_on_lent before p

-- keylocker_step: the CPU record at entry is among the arguments
abbrev pub StepPromise : List ℕ → StepCall → List ℕ → List ℕ → ℕ → Type 0
StepPromise before s after cpu number = gave after number cpu [] 0 ≡ call_lent before (step s)

-- keylocker_ctr: CPU record and buffer at entry are among the arguments. Handle and counter block are lent shared, so they are the same at exit.
abbrev pub CounterPromise : List ℕ → CounterCall → List ℕ → List ℕ → List ℕ → ℕ → Type 0
CounterPromise before c after cpu buffer number = gave after number cpu buffer 0 ≡ call_lent before (counter c)

-- keylocker_read: the block is lent shared, so it is the same at exit. Answered 0, the value at exit is the one read; else it is the old one, and none was
-- read.
pub record ReadPromise (block : List ℕ) (r : ReadCall) (old value number : ℕ) : Type 0 where
  pub answered : gave block number [] [] (cond (eqb number 0) value 0) ≡ call_lent block (read r)
  pub kept : (number ≡ 0 → ⊥) → value ≡ old

-- keylocker_write
abbrev pub WritePromise : List ℕ → WriteCall → List ℕ → ℕ → Type 0
WritePromise before w after number = gave after number [] [] 0 ≡ call_lent before (write w)

-- keylocker_settle
abbrev pub SettlePromise : List ℕ → SettleCall → List ℕ → ℕ → Type 0
SettlePromise before s after number = gave after number [] [] 0 ≡ call_lent before (settle s)

-- keylocker_sleep
abbrev pub SleepPromise : List ℕ → SleepCall → List ℕ → ℕ → Type 0
SleepPromise before s after number = gave after number [] [] 0 ≡ call_lent before (sleep s)

-- keylocker_reset
abbrev pub ResetPromise : List ℕ → List ℕ → ℕ → Type 0
ResetPromise before after number = gave after number [] [] 0 ≡ call_lent before reset

-- keylocker_taken
abbrev pub TakenPromise : List ℕ → List ℕ → ℕ → Type 0
TakenPromise before after number = gave after number [] [] 0 ≡ call_lent before taken

-- keylocker_cpuid: block and CPU record are lent shared, so they are the same at exit; the four registers, at entry and at exit
abbrev pub CpuidPromise : List ℕ → CpuidCall → Leaf → Leaf → ℕ → Type 0
CpuidPromise block c before after number = record { number = number; registers = after } ≡ identify_lent block c before

-- keylocker_keyring_lookup: keyring and label are lent shared, so they are the same at exit; kind and handle, at entry and at exit
abbrev pub KeyringLookupPromise : List ℕ → List ℕ → ℕ → List ℕ → ℕ → List ℕ → ℕ → Type 0
KeyringLookupPromise keyring label kind handle kind_after handle_after number =
    record { number = number; kind = kind_after; handle = handle_after } ≡ lookup_lent keyring label kind handle

-- keylocker_keyring_add: the whole block at exit
abbrev pub KeyringAddPromise : List ℕ → List ℕ → List ℕ → List ℕ → ℕ → Type 0
KeyringAddPromise before label handle after number = added number after ≡ add before label handle
