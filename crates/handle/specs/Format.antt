-- Intel 343965-001US section 1.4: the format of handles, over the length of the key: 48 bytes for a key of 16, 64 for one of 32.
-- Assumes nothing.
use Rattle.std.specs.Prelude.{Bool, ◌&&◌, not, List, ◌++◌, ℕ, ◌+◌, ◌*◌, ◌^◌, ◌/◌, ◌%◌, eqb, take, drop}
use Rattle.bits.specs.Words.{le_bytes, le_value}

-- 1.4: AAD in bits 127:0, integrity tag in bits 255:128, ciphertext from bit 256 on
abbrev pub handle : List ℕ → List ℕ → List ℕ → List ℕ
handle aad tag ciphertext = aad ++ tag ++ ciphertext

-- 1.4: the parts of a handle
abbrev pub aad_of : List ℕ → List ℕ
aad_of h = take 16 h

abbrev pub tag_of : List ℕ → List ℕ
tag_of h = take 16 (drop 16 h)

abbrev pub ciphertext_of : List ℕ → List ℕ
ciphertext_of h = drop 32 h

-- 1.4: the AAD with a key type in bits 27:24, restrictions in bits 2:0 and the reserved bits 0
unfoldable pub aad : ℕ → ℕ → List ℕ
aad key_type restrictions = le_bytes 16 (key_type % 16 * 2 ^ 24 + restrictions % 8)

-- A.3.2, A.3.3: bits 27:24
abbrev pub key_type : List ℕ → ℕ
key_type a = le_value a / 2 ^ 24 % 16

-- 1.1.1.1: bit 0: not usable at CPL > 0; bit 1: not for encryption; bit 2: not for decryption
abbrev pub restrictions : List ℕ → ℕ
restrictions a = le_value a % 8

-- A.3.1: a bit of 127:28 or 23:3 is set
abbrev pub reserved_bit_set : List ℕ → Bool
reserved_bit_set a = not (eqb (le_value a / 2 ^ 28) 0 && eqb (le_value a / 2 ^ 3 % 2 ^ 21) 0)
