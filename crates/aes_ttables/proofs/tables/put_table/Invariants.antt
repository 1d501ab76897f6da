-- The entries below i are copied.
-- Assumes nothing.
use Rattle.std.proofs.Common.{◌≡◌, ◌<◌, ℕ, length, get_or}
use Rattle.aes_ttables.proofs.tables.put_table.Given as goal

abbrev pub invariant-loop-i : goal.invariant-loop-i
invariant-loop-i l = (length l.tables ≡ 1024) × ((k : ℕ) → k < l.i → get_or l.tables k 0 ≡ get_or l.table k 0)
