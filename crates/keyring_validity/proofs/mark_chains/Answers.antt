use Prim.Native.Nat.{◌+◌}
use native.Mathlib.Omega.{arith}
use Rattle.keyring_validity.proofs.Marking.{gives_none, given_none, next_head, twice_of_all}
use Rattle.keyring_validity.proofs.mark_chains.Goals as goal

pub returns-then-not-mark_chain : goal.returns-then-not-mark_chain
returns-then-not-mark_chain c =
    let a = c.args in
    let l = c.loop-k in
    gives_none _ _
    (twice_of_all a.keyring.now a.marks.now 16 (l.k + 1) (omega arith)
    (next_head a.keyring.now a.marks.now l.k l.marks _ l.invariant.1 c.index_at.ensures
    (given_none _ _ _ c.mark_chain.ensures.0 c.if-not-mark_chain.true)))
