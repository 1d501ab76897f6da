-- The words below i are mixed.
-- Assumes nothing.
use Rattle.std.proofs.Common.{◌≡◌, length}
use Rattle.aes_inv_blocks.specs.Tables.{InvMixed}
use Rattle.aes_inv_blocks.proofs.rounds.inv_mixed_keys.Given as goal

abbrev pub invariant-loop-i : goal.invariant-loop-i
invariant-loop-i l = (length l.words ≡ 60) × InvMixed l.w.words l.i l.words
