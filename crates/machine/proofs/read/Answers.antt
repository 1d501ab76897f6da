use Rattle.std.proofs.Common.{refl, rules}
use Rattle.model.specs.Calls.{read}
use Rattle.machine.proofs.Calls.{below_16}
use Rattle.machine.proofs.read.Goals as goal

pub bounds-m-from : goal.bounds-m-from
bounds-m-from c =
    let a = c.args in
    let below = below_16 a.m.now c.in_ok-ask_valid.ensures c.from.ensures (read (record { processor = a.processor; cpl = a.cpl; address = a.address })) a.processor c.in_ok-ask_read.ensures refl in
    search rules
