-- A list of calls without some of them.
-- Assumes nothing.
use Rattle.std.specs.Prelude.{Bool, cond, List, [], ◌∷◌}
use Rattle.model.specs.Calls.{Call}

-- the calls, with every one struck out of which this holds
abbrev pub struck : (Call → Bool) → List Call → List Call
struck out [] = []
struck out (c ∷ l) = cond (out c) (struck out l) (c ∷ struck out l)
