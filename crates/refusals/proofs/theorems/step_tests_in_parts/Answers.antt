use Rattle.refusals.proofs.Parts.{in_parts}
use Rattle.refusals.proofs.theorems.step_tests_in_parts.Goals as goal

pub returns : goal.returns
returns c = in_parts
