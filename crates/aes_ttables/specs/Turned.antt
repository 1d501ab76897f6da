-- Four tables in one array: a table of 256 words, and the same with every word turned by one, two and three bytes.
-- Assumes nothing.
use Rattle.std.specs.Prelude.{◌≡◌, List, ℕ, zero, suc, ◌+◌, ◌*◌, ◌<◌, get_or}
use Rattle.bits.specs.Words.{le_bytes}
use Rattle.fips197.specs.KeyExpansion.{rot_word}

-- FIPS 197 section 5.2's RotWord, n times
abbrev pub turns : ℕ → List ℕ → List ℕ
turns zero l = l
turns (suc n) l = rot_word (turns n l)

-- table n of the four is t with every word turned n times
abbrev pub Turned : List ℕ → List ℕ → Type 0
Turned t tables = (n k : ℕ) → n < 4 → k < 256 → le_bytes 4 (get_or tables (256 * n + k) 0) ≡ turns n (le_bytes 4 (get_or t k 0))
