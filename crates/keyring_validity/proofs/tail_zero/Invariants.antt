-- Assumes nothing.
use Rattle.std.proofs.Common.{◌≡◌, ◌+◌}
use Rattle.std.specs.Prelude.{eqb, get_or}
use Rattle.keyring_model.specs.Validity.{every}
use Rattle.keyring_validity.proofs.tail_zero.Given as goal

abbrev pub invariant-loop-b : goal.invariant-loop-b
invariant-loop-b l = l.zero ≡ every l.b-index (λ j. eqb (get_or l.keyring (32 + j) 0) 0)
