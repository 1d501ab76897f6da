-- Counter mode by tables, under a key: with the right tables and the key's schedule the cipher is that of FIPS 197.
-- Assumes nothing.
use Rattle.std.proofs.Common.{◌≡◌, ℕ, List, ap, ◌∙◌}
use Rattle.bits.specs.Words.{le_words}
use Rattle.fips197.specs.Aes.{encrypt}
use Rattle.fips197.specs.Cipher.{cipher}
use Rattle.fips197.specs.Sbox.{SboxTable}
use Rattle.fips197.specs.Sizes.{nk, nr}
use Rattle.fips197.specs.declared.KeySize.{KeySize}
use Rattle.aes.specs.Meaning.{key_bytes, schedule, stored_schedule}
use Rattle.aes.specs.declared.Key.{Key}
use Rattle.aes.proofs.KeySchedule.{schedule_stored}
use Rattle.aes_blocks.specs.Tables.{MixedTable}
use Rattle.aes_blocks.specs.TableCipher.{table_cipher}
use Rattle.aes_blocks.proofs.TableCipher.{schedule_by}
use Rattle.sp800_38a.specs.Counter.{ctr}
use Rattle.sp800_38a.proofs.Ctr.{ctr_ext}

pub masked_by : (t f : List ℕ) → MixedTable t → SboxTable f → (size : KeySize) (key : Key) (w : List ℕ) → le_words 4 w ≡ stored_schedule size (key_bytes size key)
    → (c s : List ℕ) → ctr (table_cipher t f (schedule size w) (nr size)) c s ≡ ctr (encrypt (nk size) (key_bytes size key)) c s
unfolding encrypt
masked_by t f rule box size key w stored c s =
    ctr_ext (table_cipher t f (schedule size w) (nr size)) (cipher (schedule size w) (nr size)) (schedule_by t f rule box size w) c s
    ∙ ap (λ (l : List ℕ). ctr (cipher l (nr size)) c s) (schedule_stored size key w stored)
