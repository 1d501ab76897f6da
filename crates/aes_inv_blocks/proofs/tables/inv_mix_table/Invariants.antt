-- The entries below i are right.
-- Assumes nothing.
use mathlib.Core.Path.{◌≡◌}
use Prim.Native.Nat.{ℕ, ◌<◌}
use lib.ListN.{length, get_or}
use Rattle.bits.specs.Words.{le_bytes}
use Rattle.fips197.specs.InvCipher.{inv_mix_row}
use Rattle.aes_blocks.specs.Tables.{part}
use Rattle.aes_inv_blocks.proofs.tables.inv_mix_table.Given as goal

abbrev pub invariant-loop-i : goal.invariant-loop-i
invariant-loop-i l =
    (length l.mixed ≡ 256) × ((k : ℕ) → k < l.i → le_bytes 4 (get_or l.mixed k 0) ≡ part inv_mix_row (get_or l.inverse k 0) 0)
