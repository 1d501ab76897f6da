-- Change request (v): "Settling and 0xD91 act as before." What tells a list of calls from the same list with every `taken` struck out.
-- Assumes nothing.
use Rattle.std.specs.Prelude.{◌≡◌, Bool, true, false, List, ◌∷◌, ◌++◌, ◌⊎◌, ℕ, ◌+◌, ◌%◌, eqb, length}
use Rattle.model.specs.Records.{with_consumed, with_platform}
use Rattle.model.specs.Validity.{valid}
use Rattle.model.specs.Calls.{PowerOn, Call, step, counter, read, write, settle, sleep, reset, taken, Answer}
use Rattle.model.specs.Execution.{Run}
use Rattle.model.specs.History.{history}
use Rattle.model.specs.Demand3.{answer_at}
use Rattle.model.specs.Struck.{struck}
use Rattle.model.specs.declared.Machine.{Machine}

abbrev pub is_taken : Call → Bool
is_taken (step s) = false
is_taken (counter c) = false
is_taken (read r) = false
is_taken (write w) = false
is_taken (settle s) = false
is_taken (sleep s) = false
is_taken reset = false
is_taken taken = true

-- a machine with `taken` calls against the one without: the same; or refusal 1 lets that pass, a backup is pending there, and consumed is 1 here
abbrev pub Alike : Machine → Machine → Type 0
Alike m n = (m ≡ n) ⊎ ((valid n ≡ true) × (n.platform.pending ≡ 1) × (m ≡ with_platform (with_consumed 1 n.platform) n))

-- a read of IA32_IWKEYBACKUP_STATUS
abbrev pub reads_status : Call → Bool
reads_status (step s) = false
reads_status (counter c) = false
reads_status (read r) = eqb r.address 0x991
reads_status (write w) = false
reads_status (settle s) = false
reads_status (sleep s) = false
reads_status reset = false
reads_status taken = false

-- with bit 3 of the value set: 0x991 has "valid in bit 0, error 2, consumed 3" and no more
abbrev pub with_bit3 : Answer → Answer
with_bit3 a = record { number = a.number; cpu = a.cpu; buffer = a.buffer; value = a.value % 8 + 8 }

-- a call's answer with `taken` calls before it against the one without: the same; or it read 0x991 while a backup was pending, and bit 3 is set
abbrev pub AnsweredAlike : Call → ℕ → Answer → Answer → Type 0
AnsweredAlike c pending a b = (a ≡ b) ⊎ ((reads_status c ≡ true) × (pending ≡ 1) × (a ≡ with_bit3 b))

-- after a power-on p that was not refused, the calls were made and gave r, and with every `taken` struck out s
pub record TakenUnseen (p : PowerOn) (calls : List Call) (r s : Run) : Type 0 where
  pub machine : Alike r.machine s.machine
  -- of every call that is left
  pub answers : (xs : List Call) (c : Call) (ys : List Call) → calls ≡ xs ++ c ∷ ys → is_taken c ≡ false
      → AnsweredAlike c (history p xs).pending (answer_at r (length xs)) (answer_at s (length (struck is_taken xs)))
