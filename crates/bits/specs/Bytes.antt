-- Lists of bytes.
-- Assumes nothing.
use Rattle.std.specs.Prelude.{Bool, true, false, ◌&&◌, List, [], ◌∷◌, ℕ, ◌<◌, eqb}
use Rattle.std.specs.Int.Bits.{bit_xor}

-- every number of the list is a byte
abbrev pub Bytes : List ℕ → Type 0
Bytes [] = Unit {0}
Bytes (b ∷ l) = (b < 256) × Bytes l

-- two lists, element by element, as far as the shorter goes
abbrev pub zip_bytes : (ℕ → ℕ → ℕ) → List ℕ → List ℕ → List ℕ
zip_bytes f [] m = []
zip_bytes f (a ∷ l) [] = []
zip_bytes f (a ∷ l) (b ∷ m) = f a b ∷ zip_bytes f l m

abbrev pub xor_bytes : List ℕ → List ℕ → List ℕ
xor_bytes l m = zip_bytes bit_xor l m

-- a test that two lists are equal
abbrev pub alike : List ℕ → List ℕ → Bool
alike [] [] = true
alike [] (y ∷ m) = false
alike (x ∷ l) [] = false
alike (x ∷ l) (y ∷ m) = eqb x y && alike l m
