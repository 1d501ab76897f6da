-- What a C caller gets for a key or none.
-- Assumes nothing.
use Rattle.std.specs.Prelude.{List, ℕ, replicate}
use Rattle.std.proofs.Math.Option.{Option, none, some}

-- 1 for a key, 0 for none
abbrev pub code : Option (List ℕ) → ℕ
code none = 0
code (some key) = 1

-- the key, or 32 zeros
abbrev pub bytes : Option (List ℕ) → List ℕ
bytes none = replicate 32 0
bytes (some key) = key
