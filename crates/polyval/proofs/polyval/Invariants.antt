-- s is POLYVAL of the blocks before x.
use Rattle.std.proofs.Common.{◌≡◌, map, take}
use Rattle.bits.specs.Words.{le_value}
use Rattle.rfc8452.specs.Polyval.{polyval_from}
use Rattle.polyval.specs.Meaning.{num, first}
use Rattle.polyval.proofs.polyval.Given as goal

abbrev pub invariant-loop-x : goal.invariant-loop-x
invariant-loop-x l = num l.s ≡ polyval_from (first l.tables.low) 0 (map le_value (take l.x-index l.blocks))
