-- What the status registers tell (Intel 343965-001US chapter 4), over the names of the history machine: IA32_COPY_STATUS (0x990) of a processor, and the
-- valid and consumed bits of IA32_IWKEYBACKUP_STATUS (0x991).
-- Assumes nothing.
use Rattle.std.specs.Prelude.{◌≡◌, Bool, true, false, cond, not, ◌&&◌, ◌||◌, List, [], ◌∷◌, ◌++◌, ℕ, eqb, length}
use Rattle.std.proofs.Math.Option.{Option, none, some}
use Rattle.model.specs.Numbers.{bit}
use Rattle.model.specs.Calls.{PowerOn, ReadCall, WriteCall, Call, step, counter, read, write, settle, sleep, reset, taken}
use Rattle.model.specs.Refusals.{refusal}
use Rattle.model.specs.Execution.{Run}
use Rattle.model.specs.History.{History, at_first, view_given, loads, copies_out, next, history}
use Rattle.model.specs.Demand3.{answer_at}

-- backup or store is a name
abbrev pub is_name : Option ℕ → Bool
is_name none = false
is_name (some n) = true

-- which calls a refusal does not stop
abbrev pub accepted : PowerOn → Call → Bool
accepted p c = eqb (refusal (view_given p) c) 0

-- something that is told at the end of a list: each call moves it that a refusal does not stop, from the calls past, the names just before it, and what was
-- told then
abbrev pub told_from : {A : Type 0} → (List Call → History → Call → A → A) → PowerOn → List Call → History → A → List Call → A
told_from move p past h old [] = old
told_from move p past h old (c ∷ l) = told_from move p (past ++ (c ∷ [])) (next p past c h) (cond (accepted p c) (move past h c old) old) l

-- ---- copy status

-- a copy succeeds: out where nothing is pending and the processor's name has no NoBackup, in where the backup is a name
abbrev pub copies : List Call → WriteCall → History → Bool
copies past w h = cond (eqb w.address 0xD91) (copies_out past w.processor h) (is_name h.backup)

-- what a call does to the copy status of processor q, from the names just before it: a copy on q sets it, to 1 where it succeeds and else to 0; sleep and
-- reset set it to 0; no other call touches it
abbrev pub status_moved : List Call → History → ℕ → Call → ℕ → ℕ
status_moved past h q (step s) old = old
status_moved past h q (counter c) old = old
status_moved past h q (read r) old = old
status_moved past h q (write w) old = cond (bit 0 w.value && eqb w.processor q) (cond (copies past w h) 1 0) old
status_moved past h q (settle s) old = old
status_moved past h q (sleep s) old = 0
status_moved past h q reset old = 0
status_moved past h q taken old = old

abbrev pub status_from : PowerOn → List Call → History → ℕ → ℕ → List Call → ℕ
status_from p past h q = told_from (λ past h. status_moved past h q) p past h

-- the copy status of processor q after a list of calls from power-on: 0 at first
abbrev pub copy_status_of : PowerOn → List Call → ℕ → ℕ
copy_status_of p calls q = status_from p [] (at_first p) q 0 calls

-- a call that leaves the copy status of q: neither a copy on q nor a sleep or reset
abbrev pub no_copy_on : ℕ → Call → Bool
no_copy_on q (step s) = true
no_copy_on q (counter c) = true
no_copy_on q (read r) = true
no_copy_on q (write w) = not (bit 0 w.value && eqb w.processor q)
no_copy_on q (settle s) = true
no_copy_on q (sleep s) = false
no_copy_on q reset = false
no_copy_on q taken = true

-- each of the calls is refused or leaves it
abbrev pub status_left : PowerOn → ℕ → List Call → Bool
status_left p q [] = true
status_left p q (c ∷ l) = (not (accepted p c) || no_copy_on q c) && status_left p q l

-- ---- valid

-- nothing is pending, and the store is a name
abbrev pub backed_up : History → Bool
backed_up h = eqb h.pending 0 && is_name h.store

-- ---- consumed

-- what a call does to consumed, from the names just before it: settle and taken set it while a backup is pending; a copy out that succeeds, a sleep and a reset
-- clear it; no other call touches it
abbrev pub consumed_moved : List Call → History → Call → ℕ → ℕ
consumed_moved past h (step s) old = old
consumed_moved past h (counter c) old = old
consumed_moved past h (read r) old = old
consumed_moved past h (write w) old = cond (bit 0 w.value && (eqb w.address 0xD91 && copies_out past w.processor h)) 0 old
consumed_moved past h (settle s) old = cond (eqb h.pending 1) 1 old
consumed_moved past h (sleep s) old = 0
consumed_moved past h reset old = 0
consumed_moved past h taken old = cond (eqb h.pending 1) 1 old

-- consumed after a list of calls from power-on: 0 at first
abbrev pub consumed : PowerOn → List Call → ℕ
consumed p calls = told_from consumed_moved p [] (at_first p) 0 calls

-- ---- what reads answer

-- after a power-on p that was not refused, the calls were made and gave r
pub record StatusRegisters (p : PowerOn) (calls : List Call) (r : Run) : Type 0 where
  -- a read of 0x990 gives the copy status of its processor
  pub copy_status_read : (xs : List Call) (c : ReadCall) (ys : List Call) → calls ≡ xs ++ read c ∷ ys → (answer_at r (length xs)).number ≡ 0
      → c.address ≡ 0x990 → (answer_at r (length xs)).value ≡ copy_status_of p xs c.processor
  -- bit 0 of a read of 0x991, on any processor
  pub valid_read : (xs : List Call) (c : ReadCall) (ys : List Call) → calls ≡ xs ++ read c ∷ ys → (answer_at r (length xs)).number ≡ 0
      → c.address ≡ 0x991 → bit 0 (answer_at r (length xs)).value ≡ backed_up (history p xs)
  -- and bit 3
  pub consumed_read : (xs : List Call) (c : ReadCall) (ys : List Call) → calls ≡ xs ++ read c ∷ ys → (answer_at r (length xs)).number ≡ 0
      → c.address ≡ 0x991 → bit 3 (answer_at r (length xs)).value ≡ eqb (consumed p xs) 1
  -- 8, consumed and neither valid nor error, is read only while a backup is pending
  pub consumed_alone : (xs : List Call) (c : ReadCall) (ys : List Call) → calls ≡ xs ++ read c ∷ ys → (answer_at r (length xs)).number ≡ 0
      → c.address ≡ 0x991 → (answer_at r (length xs)).value ≡ 8 → (history p xs).pending ≡ 1

-- ---- the operator's rule

-- a call that leaves the IWKey of q and the backup: no load and no copy in on q, no copy out that succeeds on any processor, no sleep, no reset
abbrev pub leaves : List Call → History → ℕ → Call → Bool
leaves past h q (step s) = not (loads s && eqb s.processor q)
leaves past h q (counter c) = true
leaves past h q (read r) = true
leaves past h q (write w) =
    not (bit 0 w.value) || cond (eqb w.address 0xD91) (not (copies_out past w.processor h)) (not (eqb w.processor q))
leaves past h q (settle s) = true
leaves past h q (sleep s) = false
leaves past h q reset = false
leaves past h q taken = true

-- of calls that follow those past, each is refused or leaves both
abbrev pub undisturbed : PowerOn → List Call → History → ℕ → List Call → Bool
undisturbed p past h q [] = true
undisturbed p past h q (c ∷ l) = (not (accepted p c) || leaves past h q c) && undisturbed p (past ++ (c ∷ [])) (next p past c h) q l

-- the list: w writes, c reads copy status directly after it, v reads valid; xs stand before, ys between the reads
abbrev pub rule_calls : List Call → WriteCall → ReadCall → List Call → ReadCall → List Call
rule_calls xs w c ys v = xs ++ write w ∷ [] ++ read c ∷ ys ++ read v ∷ []

-- what the operator does and reads, on the processor of w, where the list gave r
pub record OperatorRule (p : PowerOn) (r : Run) (xs : List Call) (w : WriteCall) (c : ReadCall) (ys : List Call) (v : ReadCall) : Type 0 where
  -- "a write of 1 to 0xD91 on p"
  pub one : bit 0 w.value ≡ true
  pub copy_out : w.address ≡ 0xD91
  pub written : (answer_at r (length xs)).number ≡ 0
  -- "copy status of p read 1 directly after it"
  pub same_processor : c.processor ≡ w.processor
  pub copy_status_asked : c.address ≡ 0x990
  pub copy_status_told : (answer_at r (length (xs ++ write w ∷ []))).number ≡ 0
  pub copied : (answer_at r (length (xs ++ write w ∷ []))).value ≡ 1
  -- "no load and no 0xD92 on p, no other successful 0xD91 on any processor, no sleep and no reset followed"
  pub followed : undisturbed p (xs ++ write w ∷ []) (history p (xs ++ write w ∷ [])) w.processor (read c ∷ ys) ≡ true
  -- "valid 1"
  pub valid_asked : v.address ≡ 0x991
  pub valid_told : (answer_at r (length (xs ++ write w ∷ [] ++ read c ∷ ys))).number ≡ 0
  pub is_valid : bit 0 (answer_at r (length (xs ++ write w ∷ [] ++ read c ∷ ys))).value ≡ true
