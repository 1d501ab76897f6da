-- Assumes nothing.
use Rattle.std.proofs.Common.{sym, ◌∙◌, ◌-◌, arith}
use Rattle.keyring_model.proofs.Walks.{lowest-none}
use Rattle.keyring.specs.Meaning.{unmarked}
use Rattle.keyring.proofs.lowest_free.Goals as goal

pub returns-clause-found : goal.returns-clause-found
returns-clause-found c =
    let l = c.loop-i in
    sym (lowest-none (unmarked c.args.marks.now) (c.args.n - l.i) l.i (omega arith)) ∙ l.invariant
