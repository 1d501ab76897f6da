-- The random data that the instruction is lent, and what an instruction leaves.
-- Assumes nothing.
use denote.Ref.{Bor}
use Rattle.std.specs.Prelude.{List, [], ℕ, Option, Some, None}
use Rattle.model.specs.Instructions as instructions
use Rattle.model.specs.declared.IwKey.{IwKey}

-- what the random number generator gives: 48 bytes, or none where it is not ready
abbrev pub random_data : Option (Bor (List ℕ)) → List ℕ
random_data None = []
random_data (Some bytes) = bytes.now

-- what an instruction leaves: the IWKey that it gives and the CPU record that it was lent
abbrev pub executed : IwKey → List ℕ → instructions.Executed
executed k c = record { key = k; cpu = c }
