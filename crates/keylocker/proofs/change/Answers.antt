-- Assumes nothing.
use Rattle.std.proofs.Common.{rules}
use Rattle.keylocker.proofs.change.Goals as goal

pub returns-clause-called : goal.returns-clause-called
returns-clause-called g c = λ size.
    (c.call-answer.new.arg2, c.call-answer.result, record { shown = _; shows = (search rules); left = _; met = c.call-answer.ensures; leaves = (search rules) }, search rules)
