-- The state is what the rounds before i make.
-- Assumes nothing.
use Rattle.std.proofs.Common.{◌≡◌, ◌-◌, List, ℕ}
use Rattle.bits.specs.Words.{le_words}
use Rattle.aes.specs.Meaning.{bytes_of}
use Rattle.aes_blocks.specs.TableCipher.{table_rounds}
use Rattle.aes_ttables.specs.Turned.{Turned}
use Rattle.aes_ttables.proofs.encrypt_block.Given as goal

abbrev pub invariant-loop-i : goal.invariant-loop-i
invariant-loop-i l =
    (t : List ℕ) → Turned t l.cipher.four.now → bytes_of l.s ≡ table_rounds t (le_words 4 l.cipher.one.schedule.now.words) (l.i - 1) (bytes_of l.initial.s)
