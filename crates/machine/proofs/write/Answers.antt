use Rattle.std.proofs.Common.{refl, rules}
use Rattle.model.specs.Calls.{write}
use Rattle.machine.proofs.Calls.{below_16}
use Rattle.machine.proofs.write.Goals as goal

pub bounds-m-from : goal.bounds-m-from
bounds-m-from c =
    let a = c.args in
    let below = below_16 a.m.now c.in_ok-ask_valid.ensures c.from.ensures (write (record { processor = a.processor; cpl = a.cpl; address = a.address; value = a.value })) a.processor c.in_ok-ask_write.ensures refl in
    search rules
