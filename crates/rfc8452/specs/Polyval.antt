-- RFC 8452 section 3: POLYVAL.
-- Assumes nothing.
use Rattle.std.specs.Prelude.{List, [], ◌∷◌, map, ℕ}
use Rattle.bits.specs.Words.{le_bytes, le_value}
use Rattle.rfc8452.specs.Field.{add, dot}

-- section 3: S_j = dot(S_{j-1} + X_j, H), from S on
abbrev pub polyval_from : ℕ → ℕ → List ℕ → ℕ
polyval_from h s [] = s
polyval_from h s (x ∷ l) = polyval_from h (dot (add s x) h) l

-- section 3: POLYVAL(H, X_1, ..., X_s), on blocks of 16 bytes
unfoldable pub polyval : List ℕ → List (List ℕ) → List ℕ
polyval h blocks = le_bytes 16 (polyval_from (le_value h) 0 (map le_value blocks))
