-- The key size as C callers give it.
-- Assumes nothing.
use Rattle.std.specs.Prelude.{cond, ℕ, eqb}
use Rattle.fips197.specs.declared.KeySize.{KeySize}
use Rattle.fips197.specs.declared.KeySize.TheVariants.{Aes128, Aes256}

-- 0 is AES-128, any other number AES-256
abbrev pub size_of : ℕ → KeySize
size_of n = cond (eqb n 0) Aes128 Aes256
