-- Assumes nothing.
use Rattle.std.proofs.Common.{◌≡◌, true, ◌+◌, ◌-◌}
use Rattle.keyring_model.specs.Validity.{every, record_valid}
use Rattle.keyring_validity.proofs.records_valid.Given as goal

abbrev pub invariant-loop-i : goal.invariant-loop-i
invariant-loop-i l = every (l.i - 1) (λ k. record_valid l.keyring (k + 1)) ≡ true
