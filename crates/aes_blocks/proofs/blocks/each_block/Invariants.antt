-- The first i blocks are done, and the rest are as they were.
-- Assumes nothing.
use Rattle.std.proofs.Common.{◌≡◌, length}
use Rattle.bits.specs.Blocks.{map_blocks}
use Rattle.aes_blocks.proofs.blocks.each_block.Given as goal

abbrev pub invariant-loop-i : goal.invariant-loop-i
invariant-loop-i g l =
    record {
      size : length l.bytes ≡ length l.initial.bytes;
      done : g.C.BlockCipher.holds l.cipher → l.bytes ≡ map_blocks (g.C.BlockCipher.makes l.cipher) l.i l.initial.bytes;
    }
