-- The entries below i are right.
-- Assumes nothing.
use Rattle.std.proofs.Common.{◌≡◌, ℕ, ◌+◌, ◌<◌, length, get_or, take, drop}
use Rattle.bits.specs.Words.{le_bytes}
use Rattle.fips197.specs.Cipher.{mix_row}
use Rattle.aes_blocks.specs.Tables.{part}
use Rattle.aes_blocks.proofs.tables.halves.Given as goal

abbrev pub invariant-loop-i : goal.invariant-loop-i
invariant-loop-i l =
    (length l.low ≡ 64) × (length l.high ≡ 64) × ((k : ℕ) → k < l.i → le_bytes 2 (get_or l.low k 0) ≡ take 2 (part mix_row (get_or l.sbox (l.at + k) 0) 0))
    × ((k : ℕ) → k < l.i → le_bytes 2 (get_or l.high k 0) ≡ drop 2 (part mix_row (get_or l.sbox (l.at + k) 0) 0))
