-- Marking the rest gives what marking the whole chain gives, and index 0 stays marked.
-- Assumes nothing.
use Rattle.std.proofs.Common.{◌≡◌, ◌<◌, ◌-◌, get_or}
use Rattle.keyring_model.specs.Chains.{chain}
use Rattle.keyring_validity.specs.Marks.{marked}
use Rattle.keyring_validity.proofs.mark_chain.Given as goal

abbrev pub invariant-loop : goal.invariant-loop
invariant-loop l =
    (l.i < l.n) × (get_or l.marks 0 0 ≡ 1)
    × (marked l.marks (chain (l.n - l.counter) l.keyring l.i) ≡ marked l.initial.marks (chain l.n l.keyring l.head))
