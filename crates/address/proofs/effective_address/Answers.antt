use Rattle.std.proofs.Common.{refl}
use Rattle.isa.specs.Address.{effective_address}
use Rattle.isa.proofs.Sums.{sum_mod}
use Rattle.isa.proofs.Widths.{narrow}
use Rattle.address.proofs.effective_address.Goals as goal

pub returns-clause-value : goal.returns-clause-value
unfolding effective_address
returns-clause-value c =
    rw (c.narrowed.ensures, c.segment_of.ensures, c.base_value.ensures, c.scaled-offset.ensures, c.index_value.ensures, c.rip-start.ensures, sum_mod, narrow) refl
