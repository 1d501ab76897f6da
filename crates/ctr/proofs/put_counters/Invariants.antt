-- The first i counter blocks are stored.
-- Assumes nothing.
use Rattle.std.proofs.Common.{◌≡◌, ◌*◌, ◌++◌, length, drop}
use Rattle.sp800_38a.specs.Counter.{counter_at, output_blocks}
use Rattle.ctr.specs.Meaning.{counter_bytes}
use Rattle.ctr.proofs.put_counters.Given as goal

abbrev pub invariant-loop-i : goal.invariant-loop-i
invariant-loop-i l =
    record {
      size : length l.s ≡ length l.initial.s;
      counter : counter_bytes l.counter ≡ counter_at (counter_bytes l.initial.counter) l.i;
      blocks : l.s ≡ output_blocks (λ b. b) (counter_bytes l.initial.counter) 0 l.i ++ drop (16 * l.i) l.initial.s;
    }
