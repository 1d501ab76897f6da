-- What ENCODEKEY puts together: the AAD's words, the handle in its struct, and the handle stored register by register.
-- Assumes nothing.
use mathlib.Core.Path.{◌≡◌, ◌∙◌, ap}
use mathlib.Core.List.{List, ◌++◌}
use Prim.Native.Nat.{ℕ, ◌+◌, ◌*◌}
use native.Mathlib.Omega.{arith}
use lib.ListN.{length, take, replicate}
use lib.Seq.{take-take, take_at}
use Rattle.fips197.specs.Sizes.{nk}
use Rattle.aes.specs.Meaning.{key_bytes}
use Rattle.aes.proofs.KeySchedule.{rounds_few}
use Rattle.keywrap.proofs.Sizes.{first_bytes}
use Rattle.aes.specs.declared.Key.{Key}
use Rattle.fips197.specs.declared.KeySize.{KeySize}
use Rattle.isa.specs.Ranges.{handle_length}
use Rattle.keywrap.specs.Meaning.{whole_key, whole_handle, handle_bytes, padded}
use Rattle.keywrap.specs.declared.Handle.{Handle}

-- ---- key and handle in their structs

pub key_read : (size : KeySize) (k : Key) (cpu : List ℕ) → whole_key k ≡ take 32 cpu → key_bytes size k ≡ take (4 * nk size) cpu
key_read size k cpu e = ap (take (4 * nk size)) e ∙ take-take (4 * nk size) 32 cpu (omega (arith, rounds_few size))

pub handle_read : (size : KeySize) (h : Handle) (w : List ℕ) → whole_handle h ≡ padded 64 w → length w ≡ handle_length size → handle_bytes size h ≡ w
handle_read size h w e n =
    let m = 32 + 4 * nk size in
    first_bytes size h ∙ ap (take m) e ∙ take-take m 64 (w ++ replicate 16 0) (omega (arith, rounds_few size)) ∙ take_at w (replicate 16 0) m n
