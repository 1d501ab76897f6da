-- The scope, "Backup, sleep, reset" (Intel 343965-001US chapter 4): the backup registers over one processor and the platform, and what the persistent
-- storage does.
-- Assumes nothing.
use Rattle.std.specs.Prelude.{cond, ◌&&◌, ◌||◌, ℕ, ◌+◌, ◌*◌, eqb}
use Rattle.model.specs.Numbers.{bit}
use Rattle.model.specs.Records.{absent, holding, with_key, with_copy_status, with_backup, with_store, with_pending, with_valid, with_error, with_consumed}
use Rattle.model.specs.declared.Processor.{Processor}
use Rattle.model.specs.declared.Slot.{Slot}
use Rattle.model.specs.declared.Platform.{Platform}

-- a processor and the platform after a copy
pub record Copied : Type 0 where
  pub processor : Processor
  pub platform : Platform

-- "fails if NoBackup or pending, with copy status 0 and the rest kept; else backup := IWKey, pending 1, the three backup bits 0, copy status 1"
unfoldable pub copy_out : Processor → Platform → Copied
copy_out e f =
    cond (eqb e.key.no_backup 1 || eqb f.pending 1)
    (record { processor = with_copy_status 0 e; platform = f })
    (record {
      processor = with_copy_status 1 e;
      platform = with_backup (holding e.key) (with_pending 1 (with_valid 0 (with_error 0 (with_consumed 0 f))));
    })

-- "fails (copy status 0) if backup is absent; else IWKey := backup, copy status 1"
unfoldable pub copy_in : Processor → Platform → Copied
copy_in e f =
    cond (eqb f.backup.present 1)
    (record { processor = with_copy_status 1 (with_key f.backup.key e); platform = f })
    (record { processor = with_copy_status 0 e; platform = f })

-- "Write 0xD91, bit 0 set", "Write 0xD92, bit 0 set", "Writing 0 does nothing." Any other address was refused.
abbrev pub written : ℕ → ℕ → Processor → Platform → Copied
written address value e f =
    cond (bit 0 value) (cond (eqb address 0xD91) (copy_out e f) (copy_in e f)) (record { processor = e; platform = f })

-- "Read 0x990: copy status in bit 0. Read 0x991: valid in bit 0, error 2, consumed 3"; "unnamed ones 0". Any other address was
-- refused.
abbrev pub register_read : ℕ → Processor → Platform → ℕ
register_read address e f = cond (eqb address 0x990) e.copy_status (f.valid + 4 * f.error + 8 * f.consumed)

-- "settle (0 good, 1 bad) acts only when pending. Good: store := backup, valid 1, error 0, consumed 1. Bad: store absent, valid 0, error 1, consumed 1.
-- Both: pending 0."
unfoldable pub settled : ℕ → Platform → Platform
settled code f =
    cond (eqb f.pending 1)
    (with_pending 0 (with_consumed 1
    (cond (eqb code 0)
    (with_store f.backup (with_valid 1 (with_error 0 f)))
    (with_store absent (with_valid 0 (with_error 1 f))))))
    f

-- change request (v): "A call "taken" sets consumed when pending is 1 and otherwise does nothing." In 001, chapter 4: "been consumed by the platform".
unfoldable pub with_taken : Platform → Platform
with_taken f = cond (eqb f.pending 1) (with_consumed 1 f) f

-- "If pending, the store becomes what it was, the backup, or junk; if not, only code 2 alters it." Junk is an absent store.
abbrev pub store_kept : ℕ → Platform → Slot
store_kept code f = cond (eqb code 2) absent (cond (eqb code 1 && eqb f.pending 1) f.backup f.store)

-- "consumed 0"; "Junk: backup and store absent, valid 0, error 1. Else backup := store, error 0, valid 1 exactly if present. Pending 0."
unfoldable pub woken : ℕ → Platform → Platform
woken code f =
    record {
      backup = store_kept code f;
      store = store_kept code f;
      pending = 0;
      valid = cond (eqb (store_kept code f).present 1) 1 0;
      error = cond (eqb code 2) 1 0;
      consumed = 0;
    }
