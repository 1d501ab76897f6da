use Rattle.std.proofs.Common.{◌∙◌, refl, arith}
use Rattle.model.specs.Records.{no_processor}
use Rattle.layout_write.proofs.Write.{entries_length, entries_written}
use Rattle.model.specs.Layout.{entries_bytes}
use Rattle.layout_write.proofs.put_entries.Goals as goal

pub loop-i-preserved : goal.loop-i-preserved
loop-i-preserved c =
    let l = c.loop-i in
    let args = c.args in
    let e = c.put_entry in
    record {
      same = e.auto.s ∙ l.invariant.same;
      size = entries_length args.processors.now l.i no_processor (omega arith) l.invariant.size e.ensures.size;
      bytes = entries_written args.processors.now l.i no_processor (omega arith) l.invariant.size args.s.now args.at l.invariant.bytes e.ensures.bytes;
    }

pub loop-i-init : goal.loop-i-init
unfolding entries_bytes
loop-i-init c = record { same = refl; size = refl; bytes = refl }
