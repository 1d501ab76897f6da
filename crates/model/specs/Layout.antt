-- The scope, "Records": the machine as 924 bytes. Each reader looks at the front of a list.
-- Assumes nothing.
use Rattle.std.specs.Prelude.{◌≡◌, List, [], ◌∷◌, ◌++◌, ℕ, zero, suc, ◌+◌, ◌*◌, length, get_or, take, drop}
use Rattle.model.specs.Numbers.{part}
use Rattle.model.specs.Records.{processor_limit}
use Rattle.model.specs.declared.IwKey.{IwKey}
use Rattle.model.specs.declared.Processor.{Processor}
use Rattle.model.specs.declared.Slot.{Slot}
use Rattle.model.specs.declared.Platform.{Platform}
use Rattle.model.specs.declared.Machine.{Machine}

-- ---- sizes

abbrev pub iw_key_size : ℕ
iw_key_size = 16 + 32 + 1 + 1

-- "16 entries of integrity key, encryption key, source, NoBackup, copy status"
abbrev pub entry_size : ℕ
entry_size = iw_key_size + 1

-- "each a presence byte and an IWKey"
abbrev pub slot_size : ℕ
slot_size = 1 + iw_key_size

-- "backup, then store, ..; pending, valid, error, consumed"
abbrev pub platform_size : ℕ
platform_size = slot_size + slot_size + 4

-- "count; features; 16 entries ..; backup, then store, ..; pending, valid, error, consumed"
abbrev pub machine_size : ℕ
machine_size = 2 + processor_limit * entry_size + platform_size

-- ---- the bytes of a machine

abbrev pub key_bytes : IwKey → List ℕ
key_bytes k = k.integrity ++ (k.encryption ++ (k.source ∷ k.no_backup ∷ []))

abbrev pub entry_bytes : Processor → List ℕ
entry_bytes e = key_bytes e.key ++ (e.copy_status ∷ [])

unfoldable pub entries_bytes : List Processor → List ℕ
entries_bytes [] = []
entries_bytes (e ∷ l) = entry_bytes e ++ entries_bytes l

abbrev pub slot_bytes : Slot → List ℕ
slot_bytes s = s.present ∷ key_bytes s.key

abbrev pub platform_bytes : Platform → List ℕ
platform_bytes f = slot_bytes f.backup ++ (slot_bytes f.store ++ (f.pending ∷ f.valid ∷ f.error ∷ f.consumed ∷ []))

unfoldable pub machine_bytes : Machine → List ℕ
machine_bytes m = m.count ∷ m.features ∷ (entries_bytes m.processors ++ platform_bytes m.platform)

-- ---- the machine in bytes

abbrev pub key_at : List ℕ → IwKey
key_at t = record { integrity = take 16 t; encryption = part 32 16 t; source = get_or t (16 + 32) 0; no_backup = get_or t (16 + 32 + 1) 0 }

abbrev pub entry_at : List ℕ → Processor
entry_at t = record { key = key_at t; copy_status = get_or t iw_key_size 0 }

-- n entries
unfoldable pub entries_at : ℕ → List ℕ → List Processor
entries_at zero t = []
entries_at (suc n) t = entry_at t ∷ entries_at n (drop entry_size t)

abbrev pub slot_at : List ℕ → Slot
slot_at t = record { present = get_or t 0 0; key = key_at (drop 1 t) }

abbrev pub platform_at : List ℕ → Platform
platform_at t =
    record {
      backup = slot_at t;
      store = slot_at (drop slot_size t);
      pending = get_or t (slot_size + slot_size) 0;
      valid = get_or t (slot_size + slot_size + 1) 0;
      error = get_or t (slot_size + slot_size + 2) 0;
      consumed = get_or t (slot_size + slot_size + 3) 0;
    }

unfoldable pub machine_at : List ℕ → Machine
machine_at t =
    record {
      count = get_or t 0 0;
      features = get_or t 1 0;
      processors = entries_at processor_limit (drop 2 t);
      platform = platform_at (drop (2 + processor_limit * entry_size) t);
    }

-- ---- the lengths that the declared arrays have, of which the records' types say nothing

pub record ShapedKey (k : IwKey) : Type 0 where
  pub integrity : length k.integrity ≡ 16
  pub encryption : length k.encryption ≡ 32

abbrev pub ShapedEntries : List Processor → Type 0
ShapedEntries [] = Unit {0}
ShapedEntries (e ∷ l) = ShapedKey e.key × ShapedEntries l

pub record ShapedPlatform (f : Platform) : Type 0 where
  pub backup : ShapedKey f.backup.key
  pub store : ShapedKey f.store.key

pub record Shaped (m : Machine) : Type 0 where
  pub count : length m.processors ≡ processor_limit
  pub processors : ShapedEntries m.processors
  pub platform : ShapedPlatform m.platform
