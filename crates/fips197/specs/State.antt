-- FIPS 197 section 3.4: the state. Byte r of column c stands at r + 4c of the 16 bytes.
-- Assumes nothing.
use Rattle.std.specs.Prelude.{List, [], ◌∷◌, ℕ, ◌+◌, ◌*◌, get_or}

-- 3.4: the byte in row r and column c
abbrev pub at : List ℕ → ℕ → ℕ → ℕ
at s r c = get_or s (r + 4 * c) 0

-- 3.5: a word is four bytes, as a column is
abbrev pub word : (ℕ → ℕ) → List ℕ
word f = f 0 ∷ f 1 ∷ f 2 ∷ f 3 ∷ []

-- 3.5: column c of a state, with what follows it
abbrev pub column : (ℕ → ℕ → ℕ) → ℕ → List ℕ → List ℕ
column f c rest = f 0 c ∷ f 1 c ∷ f 2 c ∷ f 3 c ∷ rest

-- 3.4: the state with the byte f r c in row r and column c
abbrev pub state : (ℕ → ℕ → ℕ) → List ℕ
state f = column f 0 (column f 1 (column f 2 (column f 3 [])))
