-- What the structs of this crate stand for.
-- Assumes nothing.
use Rattle.std.specs.Prelude.{List, ◌++◌, ℕ, take, replicate}
use Rattle.std.specs.Prelude as answer
use Rattle.std.proofs.Math.Option.{Option, none, some}
use Rattle.aes.specs.Meaning.{bytes_of, key_bytes}
use Rattle.aes.specs.declared.Key.{Key}
use Rattle.fips197.specs.declared.KeySize.{KeySize}
use Rattle.handle.specs.Format as format
use Rattle.keywrap.specs.declared.Handle.{Handle}

-- Intel 343965-001US section 1.4: the 48 or 64 bytes of a handle
abbrev pub handle_bytes : KeySize → Handle → List ℕ
handle_bytes size h = format.handle (bytes_of h.aad) (bytes_of h.tag) (key_bytes size h.ciphertext)

-- all 32 bytes of a key's struct, and all 64 of a handle's
abbrev pub whole_key : Key → List ℕ
whole_key k = bytes_of k.low ++ bytes_of k.high

abbrev pub whole_handle : Handle → List ℕ
whole_handle h = format.handle (bytes_of h.aad) (bytes_of h.tag) (whole_key h.ciphertext)

-- a key or a handle in a struct that has room for 256 bits: the rest is zero
abbrev pub padded : ℕ → List ℕ → List ℕ
padded n l = take n (l ++ replicate 16 0)

-- the key that an answer hands out
abbrev pub opened : answer.Option Key → Option (List ℕ)
opened (answer.Some k) = some (whole_key k)
opened answer.None = none

abbrev pub padded_key : Option (List ℕ) → Option (List ℕ)
padded_key none = none
padded_key (some key) = some (padded 32 key)
