-- What the decoder gives, as the definitions of instruction strings have it.
-- Assumes nothing.
use Rattle.std.specs.Prelude.{ℕ, List, Option, Some, None, Result, Ok, Err}
use Rattle.isa.specs.Decode as isa
use Rattle.isa.specs.declared.Decoded.{Decoded}
use Rattle.isa.specs.declared.Decoded.TheVariants as decoded
use Rattle.isa.specs.declared.Prefixes.{Prefixes}
use Rattle.decoder.specs.declared.Found.{Found}
use Rattle.modrm.specs.declared.Malformed.{Malformed}
use Rattle.modrm.specs.declared.Malformed.TheVariants.{BadByte, EndOfString}

-- a string that is turned back
abbrev pub turned_back : Malformed → Decoded
turned_back BadByte = decoded.BadByte
turned_back EndOfString = decoded.EndOfString

-- the answer of a whole read: none is that there was no byte
abbrev pub decoded_of : Result (Option Found) Malformed → Decoded
decoded_of (Ok (Some f)) = decoded.Found f.what f.lock f.bytes
decoded_of (Ok None) = decoded.Empty
decoded_of (Err e) = turned_back e

-- where a reader stands after a read: behind what it read; a refused read, and one at the string's end, leave it where it was
abbrev pub behind : Decoded → ℕ → ℕ
behind (decoded.Found what lock next) at = next
behind decoded.BadByte at = at
behind decoded.EndOfString at = at
behind decoded.Empty at = at

-- the answer from the prefixes on
abbrev pub found_of : Result Found Malformed → Decoded
found_of (Ok f) = decoded.Found f.what f.lock f.bytes
found_of (Err e) = turned_back e

-- what stands behind the prefixes, once they are read
abbrev pub prefixed : List ℕ → Result Prefixes Malformed → ℕ → Decoded
prefixed s (Ok p) at = isa.escape_from s p (isa.byte_at s at)
prefixed s (Err e) at = turned_back e
