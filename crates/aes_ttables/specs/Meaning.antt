-- What the ciphers by tables stand for.
-- Assumes nothing.
use Rattle.std.specs.Prelude.{List, ℕ}
use Rattle.fips197.specs.Sizes.{nr}
use Rattle.aes.specs.Meaning.{schedule}
use Rattle.aes_blocks.specs.TableCipher.{table_cipher}
use Rattle.aes_blocks.specs.declared.cipher.TableCipher.{TableCipher}
use Rattle.aes_ttables.specs.Turned.{Turned}
use Rattle.aes_ttables.specs.declared.FourTables.{FourTables}

-- FIPS 197 section 5.1: the cipher by the tables that are lent, whatever they hold
abbrev pub cipher_of : TableCipher → List ℕ → List ℕ
cipher_of c = table_cipher c.tables.mixed.now c.tables.sbox.now (schedule c.schedule.now.size c.schedule.now.words) (nr c.schedule.now.size)

-- the four tables are made from the one
abbrev pub MadeOfOne : FourTables → Type 0
MadeOfOne c = Turned c.one.tables.mixed.now c.four.now
