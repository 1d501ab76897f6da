-- Assumes nothing.
use mathlib.Core.Path.{◌≡◌}
use mathlib.Core.Option.{some}
use Prim.Native.Nat.{◌-◌}
use lib.ListN.{get_or}
use Rattle.keyring_model.specs.Chains.{reached_from}
use Rattle.keyring_validity.specs.Marks.{marked}
use Rattle.keyring_validity.proofs.mark_chains.Given as goal

abbrev pub invariant-loop-k : goal.invariant-loop-k
invariant-loop-k l = (get_or l.marks 0 0 ≡ 1) × (marked l.initial.marks (reached_from l.k l.keyring) ≡ some l.marks)

abbrev pub decreases-loop-k : goal.decreases-loop-k
decreases-loop-k l = 16 - l.k
