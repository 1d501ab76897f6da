use Rattle.model.proofs.Registers.{status_registers}
use Rattle.model.proofs.theorems.status_registers_tell.Goals as goal

pub returns : goal.returns
returns c = status_registers
