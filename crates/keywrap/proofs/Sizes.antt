-- What depends on the size of the key: its blocks.
-- Assumes nothing.
use mathlib.Core.Path.{◌≡◌, refl, sym, ap}
use mathlib.Core.List.{List, ◌++◌}
use Rattle.bits.specs.Words.{le_bytes}
use Prim.Native.Nat.{ℕ, ◌+◌, ◌*◌, ◌≤◌}
use native.Mathlib.Omega.{arith}
use lib.ListN.{length, take}
use Rattle.fips197.specs.Sizes.{nk}
use Rattle.aes.specs.Meaning.{key_bytes}
use Rattle.aes.specs.declared.Key.{Key}
use Rattle.fips197.specs.declared.KeySize.{KeySize}
use Rattle.fips197.specs.declared.KeySize.TheVariants.{Aes128, Aes256}
use Rattle.keywrap.specs.Meaning.{handle_bytes, whole_handle}
use Rattle.keywrap.specs.declared.Handle.{Handle}

-- the blocks of a key
abbrev pub count : KeySize → ℕ
count Aes128 = 1
count Aes256 = 2

pub count_few : (size : KeySize) → 16 * count size ≤ 32
count_few Aes128 = omega arith
count_few Aes256 = omega arith

pub key_length : (size : KeySize) (k : Key) → length (key_bytes size k) ≡ 16 * count size
key_length Aes128 k = refl
key_length Aes256 k = refl

pub words_bytes : (size : KeySize) → 4 * nk size ≡ 16 * count size
words_bytes Aes128 = refl
words_bytes Aes256 = refl

-- the bytes that a handle of either size has are the first of all 64
pub first_bytes : (size : KeySize) (h : Handle) → handle_bytes size h ≡ take (32 + 4 * nk size) (whole_handle h)
first_bytes Aes128 h = refl
first_bytes Aes256 h = refl

-- the bit lengths of AAD and key
pub length_block_lem : (size : KeySize) (aad : List ℕ) (k : Key) → length aad ≡ 16 → le_bytes 8 128 ++ le_bytes 8 (32 * nk size) ≡ le_bytes 8 (8 * length aad) ++ le_bytes 8 (8 * length (key_bytes size k))
length_block_lem Aes128 aad k e = ap (λ (n : ℕ). le_bytes 8 (8 * n) ++ le_bytes 8 128) (sym e)
length_block_lem Aes256 aad k e = ap (λ (n : ℕ). le_bytes 8 (8 * n) ++ le_bytes 8 256) (sym e)
