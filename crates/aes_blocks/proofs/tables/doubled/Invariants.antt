-- The entries below i are doubled.
-- Assumes nothing.
use Rattle.std.proofs.Common.{◌≡◌, ℕ, ◌+◌, ◌<◌, length, get_or}
use Rattle.fips197.specs.Field as fips
use Rattle.aes_blocks.proofs.tables.doubled.Given as goal

abbrev pub invariant-loop-i : goal.invariant-loop-i
invariant-loop-i l = (length l.twice ≡ 64) × ((k : ℕ) → k < l.i → get_or l.twice k 0 ≡ fips.xtime (get_or l.sbox (l.at + k) 0))
