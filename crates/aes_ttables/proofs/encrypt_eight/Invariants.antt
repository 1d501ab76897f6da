-- The first i pairs of blocks are enciphered and the rest are as they were.
-- Assumes nothing.
use Rattle.std.proofs.Common.{◌≡◌, ◌*◌, List, ℕ, length}
use Rattle.bits.specs.Blocks.{map_blocks}
use Rattle.fips197.specs.Sizes.{nr}
use Rattle.aes.specs.Meaning.{schedule}
use Rattle.aes_blocks.specs.TableCipher.{table_cipher}
use Rattle.aes_ttables.specs.Turned.{Turned}
use Rattle.aes_ttables.proofs.encrypt_eight.Given as goal

abbrev pub invariant-loop-i : goal.invariant-loop-i
invariant-loop-i l =
    record {
      size : length l.bytes ≡ 128;
      done : (t : List ℕ) → Turned t l.cipher.four.now
          → l.bytes ≡ map_blocks (table_cipher t l.cipher.one.tables.sbox.now (schedule l.cipher.one.schedule.now.size l.cipher.one.schedule.now.words) (nr l.cipher.one.schedule.now.size)) (2 * l.i) l.initial.bytes;
    }
