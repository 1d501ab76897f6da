-- The entries below 2 i are multiples of h.
use Rattle.std.proofs.Common.{◌≡◌, ◌*◌, length}
use Rattle.polyval.specs.Meaning.{num}
use Rattle.polyval.proofs.Windows.{Below}
use Rattle.polyval.proofs.table.multiples.Given as goal

abbrev pub invariant-loop-i : goal.invariant-loop-i
invariant-loop-i l = record { size : length l.table ≡ 16; below : Below (num l.h) (2 * l.i) l.table }
