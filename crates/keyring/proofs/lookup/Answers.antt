-- Assumes nothing.
use Rattle.std.proofs.Common.{ap, ◌∙◌}
use Rattle.std.specs.Prelude.{Some, None}
use Rattle.keyring_model.specs.Lookup.{first_on_chain}
use Rattle.keyring.specs.Meaning.{looked_of}
use Rattle.std.specs.Prelude.{Ok}
use Rattle.keyring.proofs.Calls.{looked_up}
use Rattle.keyring.proofs.lookup.Goals as goal

pub returns-in_default : goal.returns-in_default
returns-in_default c =
    let b = c.args.keyring.now in
    let label = c.in_ok-label.ensures.ok in
    looked_up b c.args.label.now _ c.in_ok-ask_valid.ensures.ok.tells label.1 (c.search.ensures.found ∙ ap (first_on_chain b) label.0) None c.in_default.is

pub returns : goal.returns
returns c =
    let b = c.args.keyring.now in
    let label = c.in_ok-label.ensures.ok in
    ap (λ e. looked_of (Ok e)) c.entry_at.ensures
    ∙ looked_up b c.args.label.now _ c.in_ok-ask_valid.ensures.ok.tells label.1 (c.search.ensures.found ∙ ap (first_on_chain b) label.0) (Some c.in-Some.i) c.in-Some.is
