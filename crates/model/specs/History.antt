-- The scope, "The plain history machine", line by line: it "is fed only what power-on was given and the calls", so no machine and no key moves it. The
-- scope's name is the number of the call whose LOADIWKEY made a key, or 0.
-- Assumes nothing.
use Rattle.std.specs.Prelude.{Bool, false, cond, not, ◌&&◌, List, [], ◌∷◌, ◌++◌, map, ℕ, zero, suc, eqb, length, get_or, set, replicate}
use Rattle.std.proofs.Math.Option.{Option, none, some}
use Rattle.isa.specs.Decode.{decode}
use Rattle.isa.specs.declared.Decoded.{Decoded}
use Rattle.isa.specs.declared.Decoded.TheVariants as decoded
use Rattle.isa.specs.declared.Instruction.TheVariants as instruction
use Rattle.isa.specs.declared.LoadIwKey.{LoadIwKey}
use Rattle.model.specs.Numbers.{bit}
use Rattle.model.specs.Records.{zero_key}
use Rattle.model.specs.Forms.{no_backup_bit, not_ready}
use Rattle.model.specs.Calls.{PowerOn, StepCall, WriteCall, Call, step, counter, read, write, settle, sleep, reset, taken, on_step}
use Rattle.model.specs.Refusals.{View, refusal}
use Rattle.model.specs.Instructions.{loaded_key}
use Rattle.model.specs.declared.IwKey.{IwKey}

-- "It has a name for each processor (0 at first), backup and store (a name or none, none at first) and pending (0 at first)."
pub record History : Type 0 where
  pub names : List ℕ
  pub backup : Option ℕ
  pub store : Option ℕ
  pub pending : ℕ

abbrev pub at_first : PowerOn → History
at_first p = record { names = replicate p.count 0; backup = none; store = none; pending = 0 }

-- "these tell which calls a refusal stops"
abbrev pub view_given : PowerOn → View
view_given p = record { count = p.count; features = p.features }

-- ---- what a name stands for

-- the LOADIWKEY in a string, if it is one
abbrev pub load_in : Decoded → Option LoadIwKey
load_in (decoded.Found (instruction.Use u) lock bytes) = none
load_in (decoded.Found (instruction.WideUse u) lock bytes) = none
load_in (decoded.Found (instruction.LoadIwKey l) lock bytes) = some l
load_in (decoded.Found (instruction.EncodeKey e) lock bytes) = none
load_in decoded.BadByte = none
load_in decoded.EndOfString = none
load_in decoded.Empty = none

-- "the calls, numbered from 1": call i + 1 of a list; past its end stands a call that loads nothing
abbrev pub call_at : List Call → ℕ → Call
call_at calls i = get_or calls i reset

-- "NoBackup of name i is EAX bit 0 of call i, of name 0 it is 0."
abbrev pub no_backup_in : Call → ℕ
no_backup_in = on_step (λ s. no_backup_bit s.cpu) 0

abbrev pub no_backup_of : List Call → ℕ → ℕ
no_backup_of calls zero = 0
no_backup_of calls (suc i) = no_backup_in (call_at calls i)

-- "The key of name i is the IWKey that call i's LOADIWKEY makes from its registers and random data, of name 0 all zero."
abbrev pub key_made : StepCall → Option LoadIwKey → IwKey
key_made s none = zero_key
key_made s (some l) = loaded_key l s.random s.cpu

abbrev pub key_in : Call → IwKey
key_in = on_step (λ s. key_made s (load_in (decode s.string))) zero_key

abbrev pub key_of : List Call → ℕ → IwKey
key_of calls zero = zero_key
key_of calls (suc i) = key_in (call_at calls i)

-- ---- how names move

abbrev pub name_at : ℕ → History → ℕ
name_at p h = get_or h.names p 0

abbrev pub renamed : ℕ → ℕ → History → History
renamed p n h = record { names = set h.names p n; backup = h.backup; store = h.store; pending = h.pending }

-- "LOADIWKEY at call i: its processor gets name i, except at source 1 without random data."
abbrev pub makes : StepCall → Option LoadIwKey → Bool
makes s none = false
makes s (some l) = not (not_ready s.random s.cpu)

abbrev pub loads : StepCall → Bool
loads s = makes s (load_in (decode s.string))

abbrev pub stepped_names : ℕ → StepCall → History → History
stepped_names i s h = cond (loads s) (renamed s.processor i h) h

-- "Write 0xD91, bit 0 set: where pending and the NoBackup of the processor's name are 0, backup := that name, pending 1."
abbrev pub copies_out : List Call → ℕ → History → Bool
copies_out past p h = eqb h.pending 0 && eqb (no_backup_of past (name_at p h)) 0

abbrev pub sent : ℕ → History → History
sent p h = record { names = h.names; backup = some (name_at p h); store = h.store; pending = 1 }

unfoldable pub copied_out : List Call → ℕ → History → History
copied_out past p h = cond (copies_out past p h) (sent p h) h

-- "Write 0xD92, bit 0 set: unless backup is none, the processor gets the backup's name."
abbrev pub gets : ℕ → Option ℕ → History → History
gets p none h = h
gets p (some n) h = renamed p n h

abbrev pub written_names : List Call → WriteCall → History → History
written_names past w h =
    cond (bit 0 w.value) (cond (eqb w.address 0xD91) (copied_out past w.processor h) (gets w.processor h.backup h)) h

-- "Settle, when pending: store := backup at code 0, none at 1; pending 0."
unfoldable pub settled_names : ℕ → History → History
settled_names code h =
    cond (eqb h.pending 1) (record { names = h.names; backup = h.backup; store = cond (eqb code 0) h.backup none; pending = 0 }) h

-- "Sleep, anywhere in the list: processors get name 0; store := backup at code 1 when pending, none at code 2, else kept; then backup := store, pending 0."
abbrev pub name_kept : ℕ → History → Option ℕ
name_kept code h = cond (eqb code 2) none (cond (eqb code 1 && eqb h.pending 1) h.backup h.store)

abbrev pub woken_names : PowerOn → ℕ → History → History
woken_names p code h = record { names = replicate p.count 0; backup = name_kept code h; store = name_kept code h; pending = 0 }

-- "Reset: all as at first."; "Any other call ..: nothing moves."; change request (v), of taken: "moves no name on it". The call has the number after those past.
unfoldable pub moved : PowerOn → List Call → Call → History → History
moved p past (step s) h = stepped_names (suc (length past)) s h
moved p past (counter c) h = h
moved p past (read r) h = h
moved p past (write w) h = written_names past w h
moved p past (settle s) h = settled_names s.code h
moved p past (sleep s) h = woken_names p s.code h
moved p past reset h = at_first p
moved p past taken h = h

-- "and any that a refusal stops: nothing moves"
abbrev pub next : PowerOn → List Call → Call → History → History
next p past c h = cond (eqb (refusal (view_given p) c) 0) (moved p past c h) h

-- ---- lists of calls

abbrev pub history_from : PowerOn → List Call → History → List Call → History
history_from p past h [] = h
history_from p past h (c ∷ l) = history_from p (past ++ (c ∷ [])) (next p past c h) l

-- "A list of demand 3 starts at a power-on"
abbrev pub history : PowerOn → List Call → History
history p calls = history_from p [] (at_first p) calls

-- which calls a refusal stops, and by which number
abbrev pub refusals : PowerOn → List Call → List ℕ
refusals p calls = map (refusal (view_given p)) calls
