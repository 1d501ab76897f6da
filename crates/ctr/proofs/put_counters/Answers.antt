use Rattle.std.proofs.Common.{◌+◌, length, refl, ap, ◌∙◌, arith}
use mathlib.Core.List.{flat_map}
use Rattle.aes.specs.Meaning.{bytes_of}
use Rattle.sp800_38a.specs.Counter.{output_blocks}
use Rattle.ctr.specs.Meaning.{counter_bytes}
use Rattle.ctr.proofs.Masking.{first_counter, counted, stored_length}
use Rattle.ctr.proofs.Groups.{counters_stored}
use Rattle.ctr.proofs.put_counters.Goals as goal

pub loop-i-init : goal.loop-i-init
unfolding output_blocks flat_map
loop-i-init c = record { size = refl; counter = first_counter c.args.c c.from-counter.ensures; blocks = refl }

pub loop-i-preserved : goal.loop-i-preserved
loop-i-preserved c =
    let inv = c.loop-i.invariant in
    let i = c.loop-i.i in
    let c₀ = counter_bytes c.from-counter.result in
    record {
      size = stored_length c.loop-i.s (bytes_of c.from.result) _ c.put_block.ensures ∙ inv.size;
      counter = counted c₀ i 1 (i + 1) refl inv.counter c.next-counter.ensures;
      blocks =
          counters_stored c₀ (ap length c.from-counter.ensures) c.args.s.now i (omega (arith, c.requires)) inv.blocks (c.from.ensures ∙ inv.counter)
          c.put_block.ensures;
    }
