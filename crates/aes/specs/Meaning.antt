-- What the structs of this crate stand for.
-- Assumes nothing.
use Rattle.std.specs.Prelude.{List, ◌++◌, ℕ, ◌+◌, ◌-◌, ◌*◌, take, replicate}
use Rattle.bits.specs.Words.{le_bytes, le_words}
use Rattle.aes.specs.declared.Block.{Block}
use Rattle.aes.specs.declared.Key.{Key}
use Rattle.fips197.specs.declared.KeySize.{KeySize}
use Rattle.fips197.specs.KeyExpansion.{key_expansion}
use Rattle.fips197.specs.Sizes.{nk}

-- FIPS 197 section 3.4: the 16 bytes of a block, column by column
abbrev pub bytes_of : Block → List ℕ
bytes_of s = le_bytes 4 s.a ++ le_bytes 4 s.b ++ le_bytes 4 s.c ++ le_bytes 4 s.d

-- the 16 or 32 bytes of a key
abbrev pub key_bytes : KeySize → Key → List ℕ
key_bytes size k = take (4 * nk size) (bytes_of k.low ++ bytes_of k.high)

-- FIPS 197 section 5.2: the key schedule in an array of words: 4 (nr + 1) of them
abbrev pub schedule : KeySize → List ℕ → List ℕ
schedule size w = le_words 4 (take (4 * (nk size + 7)) w)

-- all 60 words of such an array: the schedule of a key, then zeros
abbrev pub stored_schedule : KeySize → List ℕ → List ℕ
stored_schedule size key = key_expansion (nk size) key ++ replicate (4 * (60 - 4 * (nk size + 7))) 0
