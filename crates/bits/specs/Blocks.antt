-- Byte lists read as blocks of 16 bytes.
-- Assumes nothing.
use Rattle.std.specs.Prelude.{List, [], ◌∷◌, ◌++◌, ℕ, zero, suc, take, drop}

-- f at each of the first n blocks; what follows them stays
abbrev pub map_blocks : (List ℕ → List ℕ) → ℕ → List ℕ → List ℕ
map_blocks f zero s = s
map_blocks f (suc n) s = f (take 16 s) ++ map_blocks f n (drop 16 s)

-- the first n blocks
abbrev pub blocks : ℕ → List ℕ → List (List ℕ)
blocks zero s = []
blocks (suc n) s = take 16 s ∷ blocks n (drop 16 s)
