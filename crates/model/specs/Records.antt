-- The scope, "Records": the machine and its parts. Each field has one setter.
-- Assumes nothing.
use Rattle.std.specs.Prelude.{Bool, List, [], ℕ, get_or, set, replicate}
use Rattle.model.specs.Numbers.{bit}
use Rattle.model.specs.declared.IwKey.{IwKey}
use Rattle.model.specs.declared.Processor.{Processor}
use Rattle.model.specs.declared.Slot.{Slot}
use Rattle.model.specs.declared.Platform.{Platform}
use Rattle.model.specs.declared.Machine.{Machine}

-- "processor count (1 to 16)"
abbrev pub processor_limit : ℕ
processor_limit = 16

-- "a feature byte (bit 0 KL, 1 firmware enabled, 2 wide, 3 backup registers, 4 NoBackup, 5 random source, 6 and 7 zero)"
abbrev pub key_locker : ℕ → Bool
key_locker features = bit 0 features

abbrev pub firmware_enabled : ℕ → Bool
firmware_enabled features = bit 1 features

abbrev pub wide_forms : ℕ → Bool
wide_forms features = bit 2 features

abbrev pub backup_registers : ℕ → Bool
backup_registers features = bit 3 features

abbrev pub no_backup_supported : ℕ → Bool
no_backup_supported features = bit 4 features

abbrev pub random_source : ℕ → Bool
random_source features = bit 5 features

-- "An IWKey is a 16-byte integrity key, a 32-byte encryption key, a key source (0 or 1) and NoBackup."
abbrev pub zero_key : IwKey
zero_key = record { integrity = replicate 16 0; encryption = replicate 32 0; source = 0; no_backup = 0 }

abbrev pub zero_processor : Processor
zero_processor = record { key = zero_key; copy_status = 0 }

-- "backup and store, each absent or one IWKey"
abbrev pub absent : Slot
absent = record { present = 0; key = zero_key }

abbrev pub holding : IwKey → Slot
holding k = record { present = 1; key = k }

-- what stands past the last processor: its arrays are empty, as the logic of the code has it; no call that is not refused gets there
abbrev pub no_processor : Processor
no_processor = record { key = record { integrity = []; encryption = []; source = 0; no_backup = 0 }; copy_status = 0 }

-- processor p of the machine
abbrev pub processor_at : Machine → ℕ → Processor
processor_at m p = get_or m.processors p no_processor

-- ---- setters

abbrev pub with_key : IwKey → Processor → Processor
with_key k e = record { key = k; copy_status = e.copy_status }

abbrev pub with_copy_status : ℕ → Processor → Processor
with_copy_status b e = record { key = e.key; copy_status = b }

abbrev pub with_backup : Slot → Platform → Platform
with_backup s f = record { backup = s; store = f.store; pending = f.pending; valid = f.valid; error = f.error; consumed = f.consumed }

abbrev pub with_store : Slot → Platform → Platform
with_store s f = record { backup = f.backup; store = s; pending = f.pending; valid = f.valid; error = f.error; consumed = f.consumed }

abbrev pub with_pending : ℕ → Platform → Platform
with_pending b f = record { backup = f.backup; store = f.store; pending = b; valid = f.valid; error = f.error; consumed = f.consumed }

abbrev pub with_valid : ℕ → Platform → Platform
with_valid b f = record { backup = f.backup; store = f.store; pending = f.pending; valid = b; error = f.error; consumed = f.consumed }

abbrev pub with_error : ℕ → Platform → Platform
with_error b f = record { backup = f.backup; store = f.store; pending = f.pending; valid = f.valid; error = b; consumed = f.consumed }

abbrev pub with_consumed : ℕ → Platform → Platform
with_consumed b f = record { backup = f.backup; store = f.store; pending = f.pending; valid = f.valid; error = f.error; consumed = b }

abbrev pub with_processors : List Processor → Machine → Machine
with_processors l m = record { count = m.count; features = m.features; processors = l; platform = m.platform }

abbrev pub with_processor : ℕ → Processor → Machine → Machine
with_processor p e m = with_processors (set m.processors p e) m

abbrev pub with_platform : Platform → Machine → Machine
with_platform f m = record { count = m.count; features = m.features; processors = m.processors; platform = f }
