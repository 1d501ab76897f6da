-- Both halves of a are multiplied down to place 8 i; the fourth word has room for what is to come.
use Rattle.std.proofs.Common.{◌≡◌, ◌+◌, ◌*◌, ◌^◌, ◌<◌, ◌≤◌}
use Rattle.rfc8452.specs.Field.{multiply}
use Rattle.polyval.specs.Meaning.{value, first}
use Rattle.polyval.proofs.Windows.{down}
use Rattle.polyval.proofs.table.KeyTables.product.Given as goal

abbrev pub invariant-loop-i : goal.invariant-loop-i
invariant-loop-i l = record {
  third : l.w.w2 < 2 ^ 64;
  fourth : (l.w.w3 + 1) * 2 ^ (8 * l.i) ≤ 2 ^ 64;
  multiplied : value l.w ≡ multiply (first l.self.low) (down l.a.hi l.a.lo (8 * l.i));
}
