-- The rounds below i, of the state, are all rounds of the first state.
-- Assumes nothing.
use Rattle.std.proofs.Common.{◌≡◌, ◌-◌}
use Rattle.bits.specs.Words.{le_words}
use Rattle.fips197.specs.InvCipher.{inv_rounds}
use Rattle.fips197.specs.Sizes.{nr}
use Rattle.aes.specs.Meaning.{bytes_of}
use Rattle.aes_inv_blocks.proofs.inverse.InverseCipherBlockCipher.block.Given as goal

abbrev pub invariant-loop-i : goal.invariant-loop-i
invariant-loop-i g l =
    g.R.InvRound.holds l.self.round l.self.schedule.now.words (nr l.self.schedule.now.size)
    → inv_rounds (le_words 4 l.self.schedule.now.words) (l.i - 1) (bytes_of l.s) ≡ inv_rounds (le_words 4 l.self.schedule.now.words) (l.rounds - 1) (bytes_of l.initial.s)
