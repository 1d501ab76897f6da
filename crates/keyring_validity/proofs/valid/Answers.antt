-- Assumes nothing.
use mathlib.Core.Path.{sym, ◌∙◌}
use Rattle.keyring_validity.proofs.Checking as checking
use Rattle.keyring_validity.proofs.valid.Goals as goal

pub returns-else-fields_valid : goal.returns-else-fields_valid
returns-else-fields_valid c =
    rw c.if-fields_valid.false (checking.wrong_field c.args.keyring.now _ (sym c.fields_valid.ensures ∙ c.if-fields_valid.false))

pub returns-then-fields_valid : goal.returns-then-fields_valid
returns-then-fields_valid c =
    checking.chains_decide c.args.keyring.now
    (sym c.fields_valid.ensures ∙ c.if-fields_valid.true) c.args.marks.now
    c.requires _ _ c.mark_chains.ensures
