-- Assumes nothing.
use Rattle.model.specs.Calls.{CounterCall}
use Rattle.keylocker.proofs.Finishing.{counter-called}
use borrow.Author.Rules.{rules}
use Rattle.keylocker.proofs.keylocker_ctr.Goals as goal

pub returns : goal.returns
returns c =
    let a = c.args in
    let asked : CounterCall = record { processor = a.processor; cpu = a.cpu.now; handle = a.handle.now; counter = a.counter.now; buffer = a.buffer.now } in
    rw c.number.ensures
    (counter-called a.machine.now asked _ _ _ _ (search rules) (search rules) c.count.ensures)
