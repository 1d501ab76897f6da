use Rattle.std.proofs.Common.{◌≡◌, take}
use Rattle.model.specs.Numbers.{all_zero}
use Rattle.validity.proofs.is_zero.Given as goal

abbrev pub invariant-loop-byte : goal.invariant-loop-byte
invariant-loop-byte l = l.zero ≡ all_zero (take l.byte-index l.bytes)
