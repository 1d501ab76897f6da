use Rattle.std.proofs.Common.{rules, ◌≡◌, ap}
use Rattle.model.specs.Refusals.{View}
use Rattle.std.proofs.lemmas.Result.{err_from_is_err_and}
use Rattle.step.proofs.Steps.{not_decoded, idle, not_executed, within, done}
use Rattle.step.proofs.step.Goals as goal

pub returns-in_err-found : goal.returns-in_err-found
returns-in_err-found c =
    let lent = rw (ap (λ (v : View). v.count) c.from.ensures) at c.in_ok-ask_records.ensures in
    let p = err_from_is_err_and c.from_residual-in_err-found.result c.from_residual-in_err-found.ensures.1 in
    rw (p.1, p.2) (not_decoded c.args.m _ c.is_valid.ensures c.in_ok-refuse_if.ensures.ok lent _ c.in_err-found.ensures)

pub returns-in_default : goal.returns-in_default
returns-in_default c =
    let lent = rw (ap (λ (v : View). v.count) c.from.ensures) at c.in_ok-ask_records.ensures in
    let string = rw c.in_default.is at c.in_ok-found.ensures in
    idle c.args.m _ c.is_valid.ensures c.in_ok-refuse_if.ensures.ok lent string

pub returns-in_err-at : goal.returns-in_err-at
returns-in_err-at c =
    let lent = rw (ap (λ (v : View). v.count) c.from.ensures) at c.in_ok-ask_records.ensures in
    let p = err_from_is_err_and c.from_residual-in_err-at.result c.from_residual-in_err-at.ensures.1 in
    let string = rw c.in-Some.is at c.in_ok-found.ensures in
    let same : c.unwrap-cpu.result.now ≡ c.args.cpu.now = search rules in
    rw (p.1, p.2) (not_executed c.args.m _ c.is_valid.ensures c.in_ok-refuse_if.ensures.ok lent _ _ _ string _ same _ c.in_err-at.ensures.number)

pub execute-e-requires-clause-within : goal.execute-e-requires-clause-within
execute-e-requires-clause-within c =
    let lent = rw (ap (λ (v : View). v.count) c.from.ensures) at c.in_ok-ask_records.ensures in
    let string = rw c.in-Some.is at c.in_ok-found.ensures in
    let same : c.unwrap-cpu.result.now ≡ c.args.cpu.now = search rules in
    within c.args.m (record { processor = c.args.processor; cpu = c.args.cpu.now; memory = c.args.memory.now; random = c.args.random.now; string = c.args.string.now }) c.is_valid.ensures c.in_ok-refuse_if.ensures.ok lent _ _ _ string _ same c.in_ok-at.ensures.number _ c.in_ok-at.ensures.linear

pub returns : goal.returns
returns c =
    let lent = rw (ap (λ (v : View). v.count) c.from.ensures) at c.in_ok-ask_records.ensures in
    let string = rw c.in-Some.is at c.in_ok-found.ensures in
    let same : c.unwrap-cpu.result.now ≡ c.args.cpu.now = search rules in
    done c.args.m _ c.is_valid.ensures c.in_ok-refuse_if.ensures.ok lent _ _ _ string _ same c.in_ok-at.ensures.number _ c.as_array.ensures.cases _ (c.execute-e.ensures c.in-Some.found.lock)
