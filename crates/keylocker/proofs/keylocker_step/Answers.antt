-- Assumes nothing.
use Rattle.std.specs.Prelude.{Ok, Err}
use Rattle.model.specs.Calls.{StepCall}
use Rattle.model.specs.declared.Processor.{Processor}
use Rattle.keylocker.proofs.Finishing.{step-called, step_block}
use borrow.Author.Rules.{rules}
use Rattle.keylocker.proofs.keylocker_step.Goals as goal

pub returns-in-Ok : goal.returns-in-Ok
returns-in-Ok c =
    let a = c.args in
    let s : StepCall = record { processor = a.processor; cpu = a.cpu.now; memory = a.memory.now; random = a.random.now; string = a.string.now } in
    let block = a.machine.now in
    step-called block s _ _ _ _ _ (Ok c.in-Ok.e) (search rules) (search rules) c.in-Ok.ensures
    (step_block block s _ _ c.in-Ok.e (search rules) (search rules) c.in-Ok.ensures _ (search rules))

pub returns-in-Err : goal.returns-in-Err
returns-in-Err c =
    let a = c.args in
    let s : StepCall = record { processor = a.processor; cpu = a.cpu.now; memory = a.memory.now; random = a.random.now; string = a.string.now } in
    rw c.refused-in-Err.ensures
    (step-called a.machine.now s {A = Processor} _ _ _ _ _ (Err c.in-Err.why) (search rules) (search rules) c.in-Err.ensures (search rules))
