-- The first i blocks are masked.
-- Assumes nothing.
use Rattle.std.proofs.Common.{◌≡◌, length}
use Rattle.sp800_38a.specs.Counter.{counter_at}
use Rattle.ctr.specs.Meaning.{counter_bytes}
use Rattle.ctr.proofs.Masking.{Masked}
use Rattle.ctr.proofs.mask_blocks.Given as goal

abbrev pub invariant-loop-i : goal.invariant-loop-i
invariant-loop-i g l =
    record {
      size : length l.bytes ≡ length l.initial.bytes;
      counter : counter_bytes l.counter ≡ counter_at (counter_bytes l.initial.counter) l.i;
      masked : g.C.BlockCipher.holds l.cipher → Masked (g.C.BlockCipher.makes l.cipher) (counter_bytes l.initial.counter) l.initial.bytes l.i l.bytes;
    }
