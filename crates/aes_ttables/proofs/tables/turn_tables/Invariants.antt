-- The entries below i are right.
-- Assumes nothing.
use mathlib.Core.Path.{◌≡◌}
use Prim.Native.Nat.{ℕ, ◌<◌}
use lib.ListN.{length, get_or}
use Rattle.aes_ttables.proofs.Columns.{TurnedTo}
use Rattle.aes_ttables.proofs.tables.turn_tables.Given as goal

abbrev pub invariant-loop-i : goal.invariant-loop-i
invariant-loop-i l =
    (length l.tables ≡ 1024) × ((k : ℕ) → k < 256 → get_or l.tables k 0 ≡ get_or l.initial.tables k 0) × TurnedTo l.i l.tables
