-- Blocks under a key's schedule, as AES under the key.
-- Assumes nothing.
use Rattle.std.proofs.Common.{◌≡◌, ◌∙◌, ℕ, List, ap}
use Rattle.bits.specs.Blocks.{map_blocks}
use Rattle.bits.specs.Words.{le_words}
use Rattle.fips197.specs.Aes.{encrypt, decrypt}
use Rattle.fips197.specs.Cipher.{cipher}
use Rattle.fips197.specs.InvCipher.{inv_cipher}
use Rattle.fips197.specs.Sizes.{nr}
use Rattle.fips197.specs.declared.Direction.TheVariants.{Encrypt, Decrypt}
use Rattle.fips197.specs.declared.KeySize.{KeySize}
use Rattle.aes.specs.Meaning.{key_bytes, schedule, stored_schedule}
use Rattle.aes.specs.declared.Key.{Key}
use Rattle.aes.specs.declared.Schedule.{Schedule}
use Rattle.aes.proofs.KeySchedule.{schedule_stored}
use Rattle.model.specs.Instructions.{aes}

module _ (size : KeySize) (key : Key) (w : Schedule) (same : w.size ≡ size) (stored : le_words 4 w.words ≡ stored_schedule size (key_bytes size key)) (n : ℕ) (s : List ℕ) where
  pub enciphered : map_blocks (cipher (schedule w.size w.words) (nr w.size)) n s ≡ map_blocks (aes Encrypt size (key_bytes size key)) n s
  unfolding encrypt
  enciphered =
      ap (λ (z : KeySize). map_blocks (cipher (schedule z w.words) (nr z)) n s) same
      ∙ ap (λ (l : List ℕ). map_blocks (cipher l (nr size)) n s) (schedule_stored size key w.words stored)

  pub deciphered : map_blocks (inv_cipher (schedule w.size w.words) (nr w.size)) n s ≡ map_blocks (aes Decrypt size (key_bytes size key)) n s
  unfolding decrypt
  deciphered =
      ap (λ (z : KeySize). map_blocks (inv_cipher (schedule z w.words) (nr z)) n s) same
      ∙ ap (λ (l : List ℕ). map_blocks (inv_cipher l (nr size)) n s) (schedule_stored size key w.words stored)
