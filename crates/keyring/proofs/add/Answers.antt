-- Assumes nothing.
use Rattle.std.proofs.Common.{ap, ◌∙◌}
use Rattle.std.specs.Prelude.{Some, None}
use Rattle.keyring_model.specs.Lookup.{first_on_chain}
use Rattle.keyring_model.specs.Add.{added, put_record}
use Rattle.keyring.proofs.Calls.{replaced, filled}
use Rattle.keyring.proofs.add.Goals as goal

pub returns-in-Some : goal.returns-in-Some
returns-in-Some c =
    let b = c.args.keyring.now in
    let label = c.in_ok-label.ensures.ok in
    ap (added 0) (c.put_handle.ensures c.args.handle.now c.in_ok-e.ensures.ok.0)
    ∙ replaced b c.args.label.now _ c.in_ok-ask_valid.ensures.ok.tells label.1 (c.search.ensures.found ∙ ap (first_on_chain b) label.0)
    c.args.handle.now c.in_ok-e.ensures.ok.1 (Some c.in-Some.i) c.in-Some.is

pub returns-in_default-lowest_free : goal.returns-in_default-lowest_free
returns-in_default-lowest_free c =
    let b = c.args.keyring.now in
    let valid = c.in_ok-ask_valid.ensures.ok in
    let label = c.in_ok-label.ensures.ok in
    filled b c.args.label.now _ valid.tells label.1 (c.search.ensures.found ∙ ap (first_on_chain b) label.0)
    c.args.handle.now c.in_ok-e.ensures.ok.1 _ _ None valid.marks c.lowest_free.ensures.found c.in_default.is c.in_default-lowest_free.is

pub returns : goal.returns
returns c =
    let b = c.args.keyring.now in
    let valid = c.in_ok-ask_valid.ensures.ok in
    let label = c.in_ok-label.ensures.ok in
    ap (added 0) (c.put_record.ensures c.args.handle.now c.in_ok-e.ensures.ok.0 ∙ ap (λ l. put_record b c.in-Some-lowest_free.i l c.args.handle.now) label.0)
    ∙ filled b c.args.label.now _ valid.tells label.1 (c.search.ensures.found ∙ ap (first_on_chain b) label.0)
    c.args.handle.now c.in_ok-e.ensures.ok.1 _ _ (Some c.in-Some-lowest_free.i) valid.marks c.lowest_free.ensures.found c.in_default.is c.in-Some-lowest_free.is
