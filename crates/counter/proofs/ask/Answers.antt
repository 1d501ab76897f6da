use Rattle.std.proofs.Common.{rules}
use Rattle.model.specs.Calls.{CounterCall}
use Rattle.model.specs.Refusals.{View}
use Rattle.counter.proofs.Tests.{by_record, past_record}
use Rattle.counter.proofs.ask.Goals as goal

pub returns-in_err-cpu : goal.returns-in_err-cpu
returns-in_err-cpu c =
    let a = c.args in
    let v : View = record { count = a.view.count; features = a.view.features } in
    let asked : CounterCall = record { processor = a.processor; cpu = a.cpu.now; handle = a.handle.now; counter = a.counter.now; buffer = a.buffer.now } in
    let h = by_record v asked (search rules) c.in_err-cpu.field-0.0 c.in_err-cpu.ensures.number in
    search rules

pub returns-in_err-refuse_if : goal.returns-in_err-refuse_if
returns-in_err-refuse_if c =
    let a = c.args in
    let v : View = record { count = a.view.count; features = a.view.features } in
    let asked : CounterCall = record { processor = a.processor; cpu = a.cpu.now; handle = a.handle.now; counter = a.counter.now; buffer = a.buffer.now } in
    past_record v asked (search rules) _ c.in_ok-cpu.ensures.number (search rules)

pub returns : goal.returns
returns c =
    let a = c.args in
    let v : View = record { count = a.view.count; features = a.view.features } in
    let asked : CounterCall = record { processor = a.processor; cpu = a.cpu.now; handle = a.handle.now; counter = a.counter.now; buffer = a.buffer.now } in
    past_record v asked (search rules) _ c.in_ok-cpu.ensures.number (search rules)
