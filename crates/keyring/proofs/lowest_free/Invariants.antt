-- Assumes nothing.
use Rattle.std.proofs.Common.{◌≡◌, ◌-◌}
use Rattle.keyring_model.specs.Add.{lowest}
use Rattle.keyring.specs.Meaning.{unmarked}
use Rattle.keyring.proofs.lowest_free.Given as goal

abbrev pub invariant-loop-i : goal.invariant-loop-i
invariant-loop-i l = lowest (unmarked l.marks) (l.n - l.i) l.i ≡ lowest (unmarked l.marks) (l.n - 1) 1
