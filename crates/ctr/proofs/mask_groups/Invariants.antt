-- The first i groups are masked.
-- Assumes nothing.
use Rattle.std.proofs.Common.{◌≡◌, ◌*◌, length}
use Rattle.aes.specs.Meaning.{bytes_of}
use Rattle.aes_ttables.specs.Meaning.{cipher_of, MadeOfOne}
use Rattle.sp800_38a.specs.Counter.{counter_at}
use Rattle.ctr.proofs.Masking.{Masked}
use Rattle.ctr.proofs.mask_groups.Given as goal

abbrev pub invariant-loop-i : goal.invariant-loop-i
invariant-loop-i l =
    record {
      size : length l.bytes ≡ length l.initial.bytes;
      counter : bytes_of l.counter ≡ counter_at (bytes_of l.initial.counter) (8 * l.i);
      masked : MadeOfOne l.cipher → Masked (cipher_of l.cipher.one) (bytes_of l.initial.counter) l.initial.bytes (8 * l.i) l.bytes;
    }
