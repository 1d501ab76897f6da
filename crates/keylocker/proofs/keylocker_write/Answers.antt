-- Assumes nothing.
use Rattle.model.specs.Calls as calls
use Rattle.keylocker.proofs.Finishing.{changed}
use borrow.Author.Rules.{rules}
use Rattle.keylocker.proofs.keylocker_write.Goals as goal

pub returns : goal.returns
returns c =
    let a = c.args in
    changed a.machine.now (calls.write (record { processor = a.processor; cpl = a.cpl; address = a.address; value = a.value })) _ _ _ c.change.ensures.another_length c.change.ensures.called (λ m x r. (search rules, search rules))
