-- FIPS 197 section 5, figure 4: the words of a key, where the size is AES-128's or AES-256's.
-- Assumes nothing.
use Rattle.std.specs.Prelude.{◌≡◌, ◌⊎◌, ℕ}

abbrev pub IsKeyLength : ℕ → Type 0
IsKeyLength nk = (nk ≡ 4) ⊎ (nk ≡ 8)
