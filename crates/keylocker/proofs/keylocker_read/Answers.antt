-- Assumes nothing.
use Rattle.std.specs.Prelude.{Ok, Err}
use Rattle.model.specs.Calls.{ReadCall}
use Rattle.keylocker.proofs.Finishing.{read_short, read-called}
use borrow.Author.Rules.{rules}
use Rattle.keylocker.proofs.keylocker_read.Goals as goal

pub returns-in_default : goal.returns-in_default
returns-in_default c =
    let a = c.args in
    rw c.refused.ensures (read_short a.machine.now (record { processor = a.processor; cpl = a.cpl; address = a.address }) a.value.now (search rules))

pub returns-in-Ok : goal.returns-in-Ok
returns-in-Ok c =
    let a = c.args in
    let r : ReadCall = record { processor = a.processor; cpl = a.cpl; address = a.address } in
    read-called a.machine.now r a.value.now _ (Ok c.in-Ok.read) (search rules) (search rules) c.in-Ok.ensures.number c.in-Ok.ensures.value

pub returns-in-Err : goal.returns-in-Err
returns-in-Err c =
    let a = c.args in
    let r : ReadCall = record { processor = a.processor; cpl = a.cpl; address = a.address } in
    rw c.refused-in-Err.ensures (read-called a.machine.now r a.value.now _ (Err c.in-Err.unread) (search rules) (search rules) c.in-Err.ensures.number c.in-Err.ensures.value)
