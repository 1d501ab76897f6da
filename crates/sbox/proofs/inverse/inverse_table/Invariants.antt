-- If the table is the S-box, each byte below i stands where it sends it; no later byte is sent there.
-- Assumes nothing.
use Rattle.std.proofs.Common.{◌≡◌, ℕ, ◌<◌, length, get_or}
use Rattle.fips197.specs.Sbox.{sbox, SboxTable}
use Rattle.sbox.proofs.inverse.inverse_table.Given as goal

abbrev pub invariant-loop-i : goal.invariant-loop-i
invariant-loop-i l = record { size : length l.inverse ≡ 256; filled : SboxTable l.sbox → (k : ℕ) → k < l.i → get_or l.inverse (sbox k) 0 ≡ k }
