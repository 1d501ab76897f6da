-- The state is what the rounds before i make.
-- Assumes nothing.
use Rattle.std.proofs.Common.{◌≡◌, ◌-◌}
use Rattle.bits.specs.Words.{le_words}
use Rattle.aes.specs.Meaning.{bytes_of}
use Rattle.aes_blocks.specs.TableCipher.{table_rounds}
use Rattle.aes_blocks.proofs.cipher.cipher.Given as goal

abbrev pub invariant-loop-i : goal.invariant-loop-i
invariant-loop-i l = bytes_of l.s ≡ table_rounds l.mixed (le_words 4 l.w.words) (l.i - 1) (bytes_of l.initial.s)
