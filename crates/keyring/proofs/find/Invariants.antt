-- Invariant of the chain's loop: the search from here gives what the whole search gives. Of the inner loop: the bytes passed are alike.
-- Assumes nothing.
use mathlib.Core.Path.{◌≡◌}
use Prim.Native.Nat.{ℕ, ◌+◌, ◌<◌}
use lib.ListN.{get_or}
use Rattle.keyring_model.specs.Chains.{chain}
use Rattle.keyring_model.specs.Lookup.{first_with}
use Rattle.keyring.proofs.find.Given as goal

abbrev pub invariant-loop-j : goal.invariant-loop-j
invariant-loop-j l = (k : ℕ) → k < l.j → get_or l.keyring (l.at + 4 + k) 0 ≡ get_or l.label k 0

abbrev pub invariant-chain : goal.invariant-chain
invariant-chain l =
    (l.i < l.n) × (first_with l.keyring l.label (chain l.left l.keyring l.i) ≡ first_with l.keyring l.label (chain l.n l.keyring l.head))

abbrev pub decreases-chain : goal.decreases-chain
decreases-chain l = l.left
