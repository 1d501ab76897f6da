use Rattle.std.proofs.Common.{refl, arith}
use Rattle.isa.specs.Ranges.{handle_length}
use Rattle.isa.proofs.Ranges.{canonical-ends, length_some, length_few}
use Rattle.address.proofs.some_not_canonical.Goals.{then-canonical, else-canonical}
use Rattle.address.proofs.some_not_canonical.Goals as goal

pub returns : goal.returns
returns c =
    let few = length_few c.args.size in
    rw (canonical-ends c.args.a (handle_length c.args.size) c.ranges.a.fits (length_some c.args.size) (omega arith), ← c.canonical.ensures)
    (elim c.if-canonical.branch [
      | then-canonical w ↦ rw (w.result-is, w.if-canonical.true, w.canonical-then-canonical.ensures, c.handle_length.ensures) refl
      | else-canonical w ↦ rw (w.result-is, w.if-canonical.false) refl
    ])
