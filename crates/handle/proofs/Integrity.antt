-- Under an all-zero integrity key the tag depends on the encryption key alone: neither AAD nor key, of whatever lengths, are told apart.
-- Assumes nothing.
use mathlib.Core.Path.{◌≡◌, sym, ap, ◌∙◌}
use mathlib.Core.List.{List, [], ◌∷◌, ◌++◌, map}
use Prim.Native.Nat.{ℕ, ◌/◌}
use lib.ListN.{length, replicate}
use Rattle.bits.specs.Blocks.{blocks}
use Rattle.bits.specs.Words.{le_bytes, le_value}
use Rattle.fips197.specs.Aes.{encrypt}
use Rattle.rfc8452.specs.Field.{add, dot}
use Rattle.rfc8452.specs.Polyval.{polyval_from, polyval}
use Rattle.rfc8452.proofs.Field.{dot-zero}
use Rattle.handle.specs.Wrap.{length_block, hashed, clear_top, tag}

polyval-zero : (s x : ℕ) (l : List ℕ) → polyval_from 0 s (x ∷ l) ≡ 0
polyval-zero s x [] = dot-zero (add s x)
polyval-zero s x (y ∷ l) = polyval-zero (dot (add s x) 0) y l

pub hashed-zero : (aad key : List ℕ) → hashed (replicate 16 0) aad key ≡ replicate 16 0
unfolding hashed polyval
hashed-zero aad key = ap (le_bytes 16) (polyval-zero 0 (le_value aad) (map le_value (blocks (length key / 16) key ++ (length_block aad key ∷ []))))

pub zero_integrity : (e aad key aad' key' : List ℕ) → tag (replicate 16 0) e aad key ≡ tag (replicate 16 0) e aad' key'
unfolding tag
zero_integrity e aad key aad' key' = ap (λ (x : List ℕ). encrypt 8 e (clear_top x)) (hashed-zero aad key ∙ sym (hashed-zero aad' key'))
