-- Assumes nothing.
use Rattle.std.proofs.Common.{◌≡◌, ◌∙◌, ℕ, sym, subst}
use Rattle.model.specs.Calls.{CounterCall}
use Rattle.model.specs.Execution.{view_of}
use Rattle.model.proofs.Counter.{counter-refusal}
use Rattle.model.proofs.Refusals.{handle_sized, counter_block}
use Rattle.model.specs.Refusals.{View, first}
use Rattle.counter.specs.Meaning.{counter_tests}
use Rattle.counter.proofs.count.Goals as goal

pub perform-requires-clause-handle_len : goal.perform-requires-clause-handle_len
perform-requires-clause-handle_len c =
    let a = c.args in
    let asked : CounterCall = record { processor = a.processor; cpu = a.cpu.now; handle = a.handle.now; counter = a.counter.now; buffer = a.buffer.now } in
    let told = subst (λ (v : View). ◌≡◌ {A = ℕ} 0 (first (counter_tests v asked))) c.from.ensures c.in_ok-ask.ensures in
    handle_sized (view_of a.m.now) asked (counter-refusal (view_of a.m.now) asked ∙ sym told)

pub perform-requires-clause-counter_len : goal.perform-requires-clause-counter_len
perform-requires-clause-counter_len c =
    let a = c.args in
    let asked : CounterCall = record { processor = a.processor; cpu = a.cpu.now; handle = a.handle.now; counter = a.counter.now; buffer = a.buffer.now } in
    let told = subst (λ (v : View). ◌≡◌ {A = ℕ} 0 (first (counter_tests v asked))) c.from.ensures c.in_ok-ask.ensures in
    counter_block (view_of a.m.now) asked (counter-refusal (view_of a.m.now) asked ∙ sym told)
