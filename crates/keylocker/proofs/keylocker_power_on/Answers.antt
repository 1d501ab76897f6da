-- Assumes nothing.
use Rattle.keylocker.proofs.Finishing.{power_on-called}
use borrow.Author.Rules.{rules}
use Rattle.keylocker.proofs.keylocker_power_on.Goals as goal

pub returns : goal.returns
returns c =
    let a = c.args in
    power_on-called a.machine.now (record { count = a.count; features = a.features }) _ _ _ c.power_on-started.result.answer (search rules)
    c.power_on-started.ensures.number c.power_on-started.ensures.machine (search rules)
