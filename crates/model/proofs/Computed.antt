-- Demand 3's part on keys, copy status and valid, computed: lists that have each rule of the history machine at work, and one of them down to the keys. An
-- edit that breaks a rule is refused by a value.
-- Assumes nothing.
use mathlib.Core.Path.{◌≡◌, refl}
use mathlib.Core.Bool.{Bool, true, false}
use mathlib.Core.List.{List, [], ◌∷◌, ◌++◌, map}
use mathlib.Core.Option.{Option, none, some}
use Prim.Native.Nat.{ℕ}
use lib.ListN.{replicate}
use Rattle.isa.specs.Decode.{decode_at, modrm_of, instruction_of}
use Rattle.model.specs.Records.{holding}
use Rattle.model.specs.Cpu.{with_xmm}
use Rattle.model.specs.Calls.{PowerOn, Call, step, write, settle, sleep, reset, taken}
use Rattle.model.specs.Validity.{valid}
use Rattle.model.specs.Refusals.{tests, refusal}
use Rattle.model.specs.Instructions.{loaded_key}
use Rattle.model.specs.Execution.{run, power_on}
use Rattle.model.specs.History.{History, copied_out, settled_names, moved, history}
use Rattle.model.specs.Demand3.{Holding, held, named, given}
use Rattle.model.specs.Status.{copy_status_of, backed_up}
use Rattle.model.specs.Struck.{struck}
use Rattle.model.specs.Taken.{is_taken}
use Rattle.model.specs.Idle.{is_idle}
use Rattle.model.specs.Examples.{rax, on_processor, counts, load_iw_key}
use Rattle.model.specs.declared.IwKey.{IwKey}
use Rattle.model.specs.declared.Processor.{Processor}
use Rattle.model.specs.declared.Machine.{Machine}
use Rattle.model.proofs.Demand3.{demand_3}

-- two processors, all features
abbrev pub two : PowerOn
two = record { count = 2; features = 63 }

-- LOADIWKEY on a processor, with sixteen x in XMM0 and this EAX
abbrev pub load : ℕ → ℕ → List ℕ → ℕ → Call
load p eax random x = step (on_processor p (with_xmm 0 (replicate 16 x) (rax eax)) 0 random load_iw_key)

-- the empty string, with the EAX of a load that has NoBackup
abbrev pub idle : Call
idle = step (on_processor 0 (rax 1) 0 [] [])

-- a counter call, with the same EAX
abbrev pub counting : Call
counting = counts (rax 1) 48 16 3

abbrev pub out : ℕ → Call
out p = write (record { processor = p; cpl = 0; address = 0xD91; value = 1 })

abbrev pub into : ℕ → Call
into p = write (record { processor = p; cpl = 0; address = 0xD92; value = 1 })

abbrev pub settling : ℕ → Call
settling code = settle (record { code = code })

abbrev pub sleeping : ℕ → Call
sleeping code = sleep (record { code = code })

-- key 1 in backup and store
abbrev stored : List Call
stored = load 0 0 [] 1 ∷ out 0 ∷ settling 0 ∷ []

-- key 4 in the backup, pending, and key 1 in the store
abbrev pub pending : List Call
pending = stored ++ load 0 0 [] 2 ∷ out 0 ∷ []

-- key 1 in the backup, pending, and no store
abbrev pub out_only : List Call
out_only = load 0 0 [] 1 ∷ out 0 ∷ []

-- ---- the names

-- what a list of calls has to leave: the history, the copy status of both processors, and valid
record Left : Type 0 where
  names : History
  copy_statuses : List ℕ
  is_valid : Bool

record Line : Type 0 where
  calls : List Call
  left : Left

-- names of the two processors, backup, store, pending; the two copy statuses; valid
abbrev line : List Call → ℕ → ℕ → Option ℕ → Option ℕ → ℕ → ℕ → ℕ → Bool → Line
line calls a b backup store pending s t valid =
    record {
      calls = calls;
      left =
          record {
            names = record { names = a ∷ b ∷ []; backup = backup; store = store; pending = pending };
            copy_statuses = s ∷ t ∷ [];
            is_valid = valid;
          };
    }

abbrev lines : List Line
lines =
    -- a load with random data, and one that is not ready
    line (load 0 2 (replicate 48 0x5A) 1 ∷ []) 1 0 none none 0 0 0 false
    ∷ line (load 0 0 [] 1 ∷ load 0 2 [] 2 ∷ []) 1 0 none none 0 0 0 false
    -- a copy out at NoBackup, while pending, and once more when settled
    ∷ line (load 0 1 [] 1 ∷ out 0 ∷ []) 1 0 none none 0 0 0 false
    ∷ line (pending ++ load 0 0 [] 3 ∷ out 0 ∷ []) 6 0 (some 4) (some 1) 1 0 0 false
    ∷ line pending 4 0 (some 4) (some 1) 1 1 0 false
    -- a copy in without backup, over a key with NoBackup, and once more
    ∷ line (load 0 0 [] 1 ∷ into 0 ∷ []) 1 0 none none 0 0 0 false
    ∷ line (stored ++ load 1 1 [] 2 ∷ into 1 ∷ []) 1 1 (some 1) (some 1) 0 1 1 true
    ∷ line (stored ++ into 1 ∷ load 0 0 [] 2 ∷ out 0 ∷ into 1 ∷ []) 5 5 (some 5) (some 1) 1 1 1 false
    -- settled good and bad
    ∷ line (pending ++ settling 0 ∷ []) 4 0 (some 4) (some 4) 0 1 0 true
    ∷ line (pending ++ settling 1 ∷ []) 4 0 (some 4) none 0 1 0 false
    -- woken with the old store, the new one and junk, pending and not
    ∷ line (out_only ++ sleeping 0 ∷ []) 0 0 none none 0 0 0 false
    ∷ line (pending ++ sleeping 0 ∷ []) 0 0 (some 1) (some 1) 0 0 0 true
    ∷ line (pending ++ sleeping 1 ∷ []) 0 0 (some 4) (some 4) 0 0 0 true
    ∷ line (pending ++ sleeping 2 ∷ []) 0 0 none none 0 0 0 false
    ∷ line (stored ++ sleeping 1 ∷ []) 0 0 (some 1) (some 1) 0 0 0 true
    ∷ line (stored ++ sleeping 2 ∷ []) 0 0 none none 0 0 0 false
    -- taken, while pending and not
    ∷ line (pending ++ taken ∷ []) 4 0 (some 4) (some 1) 1 1 0 false
    ∷ line (stored ++ taken ∷ []) 1 0 (some 1) (some 1) 0 1 0 true
    -- idle steps: counted, and nothing else
    ∷ line (idle ∷ pending ++ idle ∷ []) 5 0 (some 5) (some 2) 1 1 0 false
    -- counter calls: the same
    ∷ line (counting ∷ pending ++ counting ∷ []) 5 0 (some 5) (some 2) 1 1 0 false
    -- reset
    ∷ line (stored ++ reset ∷ []) 0 0 none none 0 0 0 false
    ∷ []

abbrev left : List Call → Left
left l = record { names = history two l; copy_statuses = copy_status_of two l 0 ∷ copy_status_of two l 1 ∷ []; is_valid = backed_up (history two l) }

pub names_computed : map (λ l. left l.calls) lines ≡ map (λ l. l.left) lines
unfolding refusal tests moved copied_out settled_names decode_at modrm_of instruction_of
names_computed = refl

-- every `taken`, and every idle step, is struck out, and nothing else
pub taken-struck : struck is_taken (out 0 ∷ taken ∷ taken ∷ idle ∷ counting ∷ settling 0 ∷ sleeping 1 ∷ reset ∷ load 0 0 [] 1 ∷ taken ∷ [])
    ≡ out 0 ∷ idle ∷ counting ∷ settling 0 ∷ sleeping 1 ∷ reset ∷ load 0 0 [] 1 ∷ []
taken-struck = refl

pub idle-struck : struck is_idle (out 0 ∷ idle ∷ idle ∷ taken ∷ counting ∷ settling 0 ∷ sleeping 1 ∷ reset ∷ load 0 0 [] 1 ∷ idle ∷ [])
    ≡ out 0 ∷ taken ∷ counting ∷ settling 0 ∷ sleeping 1 ∷ reset ∷ load 0 0 [] 1 ∷ []
idle-struck = refl

-- which numbers of calls are names: 0, and that of a load; not that of a write, a load that is not ready, a refused one, or past the end
pub given_computed : map (given two (load 0 0 [] 1 ∷ out 0 ∷ load 0 2 [] 2 ∷ load 2 0 [] 3 ∷ [])) (0 ∷ 1 ∷ 2 ∷ 3 ∷ 4 ∷ 5 ∷ [])
    ≡ true ∷ true ∷ false ∷ false ∷ false ∷ false ∷ []
unfolding refusal tests decode_at modrm_of instruction_of
given_computed = refl

-- ---- the keys

-- the IWKey that `load` makes at EAX 0
abbrev loaded : ℕ → IwKey
loaded x = record { integrity = replicate 16 x; encryption = replicate 32 0; source = 0; no_backup = 0 }

-- what `pending` leaves: the store is not the backup, and one processor not the other
abbrev kept : Holding
kept = record { processors = loaded 2 ∷ loaded 0 ∷ []; backup = some (loaded 2); store = some (loaded 1); pending = 1 }

-- a machine that holds it, with an entry past the count
abbrev entry : ℕ → Processor
entry x = record { key = loaded x; copy_status = 0 }

abbrev holder : Machine
holder =
    record {
      count = 2;
      features = 63;
      processors = entry 2 ∷ entry 0 ∷ entry 3 ∷ [];
      platform = record { backup = holding (loaded 2); store = holding (loaded 1); pending = 1; valid = 0; error = 0; consumed = 0 };
    }

-- both sides of demand 3's equation, each by itself, and so the machine after these calls
pub keys_computed : (held holder ≡ kept) × (named pending (history two pending) ≡ kept) × (held (run (power_on two).machine pending).machine ≡ kept)
unfolding refusal tests moved copied_out settled_names loaded_key decode_at modrm_of instruction_of
keys_computed = (refl, refl, (demand_3 two refl pending).keys)
