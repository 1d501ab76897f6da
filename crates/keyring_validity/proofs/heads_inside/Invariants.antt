-- Assumes nothing.
use Rattle.std.proofs.Common.{◌≡◌}
use Rattle.std.specs.Prelude.{ltb}
use Rattle.keyring_model.specs.Records.{records, head_of}
use Rattle.keyring_model.specs.Validity.{every}
use Rattle.keyring_validity.proofs.heads_inside.Given as goal

abbrev pub invariant-loop-k : goal.invariant-loop-k
invariant-loop-k l = l.inside ≡ every l.k (λ k. ltb (head_of l.keyring k) (records l.keyring))
