-- If the entries below the place are right, so are those below the place and i.
-- Assumes nothing.
use Rattle.std.proofs.Common.{◌≡◌, ◌+◌, length, get_or}
use Rattle.fips197.specs.Cipher.{mix_row}
use Rattle.aes_blocks.specs.Tables.{MixTable}
use Rattle.aes_blocks.proofs.tables.mix_quarter.Given as goal

abbrev pub invariant-loop-i : goal.invariant-loop-i
invariant-loop-i l =
    (length l.mixed ≡ 256) × (MixTable mix_row (λ k. get_or l.sbox k 0) l.at l.initial.mixed → MixTable mix_row (λ k. get_or l.sbox k 0) (l.at + l.i) l.mixed)
