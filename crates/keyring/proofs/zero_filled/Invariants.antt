-- The bytes below i are copied.
-- Assumes nothing.
use Rattle.std.proofs.Common.{length}
use Rattle.bits.proofs.Runs.{Writing}
use Rattle.keyring.proofs.zero_filled.Given as goal

abbrev pub invariant-loop-i : goal.invariant-loop-i
invariant-loop-i l = Writing (length l.handle) l.initial.filled 0 l.handle l.filled l.i
