-- Intel 343965-001US sections A.3.4 to A.3.7 and A.5: AES-GCM-SIV of RFC 8452 without a nonce, over the length of the key. The keys of an IWKey stand
-- where RFC 8452 has derived ones: the integrity key is its message-authentication key, the encryption key its message-encryption key.
-- The code of A.5.2 has misprints in its masks: the handle that chapter 6 prints settles TOP_ONE (proofs/Examples.antt), RFC 8452 section 4 AND_MASK.
-- Assumes nothing.
use Rattle.std.specs.Prelude.{cond, ℕ, zero, suc, ◌+◌, ◌*◌, ◌/◌, ◌%◌, length, get_or, take, drop}
use mathlib.Core.List.{List, [], ◌∷◌, ◌++◌, flat_map}
use Rattle.std.proofs.Math.Option.{Option, none, some}
use Rattle.bits.specs.Blocks.{blocks}
use Rattle.bits.specs.Bytes.{xor_bytes, alike}
use Rattle.bits.specs.Words.{le_bytes, le_value}
use Rattle.fips197.specs.Aes.{encrypt}
use Rattle.rfc8452.specs.Polyval.{polyval}
use Rattle.handle.specs.Format.{handle, aad_of, tag_of, ciphertext_of}

-- RFC 8452 section 4: the bit lengths of AAD and key, 8 bytes each
unfoldable pub length_block : List ℕ → List ℕ → List ℕ
length_block aad key = le_bytes 8 (8 * length aad) ++ le_bytes 8 (8 * length key)

-- RFC 8452 section 4: POLYVAL under the integrity key over AAD, key and length block
unfoldable pub hashed : List ℕ → List ℕ → List ℕ → List ℕ
hashed integrity aad key = polyval integrity (aad ∷ (blocks (length key / 16) key ++ (length_block aad key ∷ [])))

-- RFC 8452 section 4: the most significant bit of the last byte, cleared and set
unfoldable pub clear_top : List ℕ → List ℕ
clear_top b = take 15 b ++ (get_or b 15 0 % 128 ∷ [])

unfoldable pub set_top : List ℕ → List ℕ
set_top b = take 15 b ++ ((128 + get_or b 15 0 % 128) ∷ [])

-- RFC 8452 section 4: the tag
unfoldable pub tag : List ℕ → List ℕ → List ℕ → List ℕ → List ℕ
tag integrity encryption aad key = encrypt 8 encryption (clear_top (hashed integrity aad key))

-- RFC 8452 section 4: counter block i. The tag with the top bit set, and i added to its first 4 bytes, little-endian modulo 2^32.
unfoldable pub counter_block : List ℕ → ℕ → List ℕ
counter_block t i = le_bytes 4 (le_value (take 4 t) + i) ++ drop 4 (set_top t)

-- RFC 8452 section 4: n counter blocks from the i-th on
abbrev pub counter_blocks : List ℕ → ℕ → ℕ → List (List ℕ)
counter_blocks t i zero = []
counter_blocks t i (suc n) = counter_block t i ∷ counter_blocks t (i + 1) n

-- RFC 8452 section 4: n blocks of the keystream
unfoldable pub keystream : List ℕ → List ℕ → ℕ → List ℕ
keystream encryption t n = flat_map (encrypt 8 encryption) (counter_blocks t 0 n)

-- RFC 8452 section 4: a key XORed with the keystream, which makes the ciphertext, and the ciphertext, which makes the key
abbrev pub masked : List ℕ → List ℕ → List ℕ → List ℕ
masked encryption t s = xor_bytes s (keystream encryption t (length s / 16))

-- A.3.6 WrapKey128, A.3.7 WrapKey256: the handle of a key
unfoldable pub wrap_key : List ℕ → List ℕ → List ℕ → List ℕ → List ℕ
wrap_key integrity encryption aad key = let t = tag integrity encryption aad key in handle aad t (masked encryption t key)

-- A.3.4, A.3.5: the key that a handle holds, if it is authentic
unfoldable pub decrypted : List ℕ → List ℕ → List ℕ
decrypted encryption h = masked encryption (tag_of h) (ciphertext_of h)

-- A.3.4 UnwrapKeyAndAuthenticate384, A.3.5 UnwrapKeyAndAuthenticate512: the key exactly where the tag made anew is the handle's
unfoldable pub unwrap_key : List ℕ → List ℕ → List ℕ → Option (List ℕ)
unwrap_key integrity encryption h =
    let key = decrypted encryption h in cond (alike (tag integrity encryption (aad_of h) key) (tag_of h)) (some key) none
