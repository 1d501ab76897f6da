-- FIPS 197 section 5, figure 4: the key sizes.
-- Assumes nothing.
use Rattle.std.specs.Prelude.{ℕ, ◌+◌}
use Rattle.fips197.specs.declared.KeySize.{KeySize}
use Rattle.fips197.specs.declared.KeySize.TheVariants.{Aes128, Aes256}

-- the words of a key, Nk
abbrev pub nk : KeySize → ℕ
nk Aes128 = 4
nk Aes256 = 8

-- the number of rounds, Nr
abbrev pub nr : KeySize → ℕ
nr size = nk size + 6
