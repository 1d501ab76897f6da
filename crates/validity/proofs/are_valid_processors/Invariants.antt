use Rattle.std.proofs.Common.{◌≡◌, take}
use Rattle.model.specs.Validity.{valid_processors}
use Rattle.validity.proofs.are_valid_processors.Given as goal

abbrev pub invariant-loop-i : goal.invariant-loop-i
invariant-loop-i l = l.valid ≡ valid_processors l.count 0 (take l.i l.processors)
