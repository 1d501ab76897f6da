-- Numbers as bytes, lowest byte first.
-- Assumes nothing.
use Rattle.std.specs.Prelude.{List, [], ◌∷◌, ◌++◌, ℕ, zero, suc, ◌+◌, ◌*◌, ◌/◌, ◌%◌}

-- the n low bytes of a number
abbrev pub le_bytes : ℕ → ℕ → List ℕ
le_bytes zero x = []
le_bytes (suc n) x = x % 256 ∷ le_bytes n (x / 256)

-- the number that a list of bytes stands for
abbrev pub le_value : List ℕ → ℕ
le_value [] = 0
le_value (b ∷ l) = b + 256 * le_value l

-- the bytes of a list of words, n for each
abbrev pub le_words : ℕ → List ℕ → List ℕ
le_words n [] = []
le_words n (x ∷ l) = le_bytes n x ++ le_words n l
