-- Where a use's handle stands: told, and not computed again.
-- Assumes nothing.
use Rattle.std.specs.Prelude.{◌≡◌, ℕ, ◌+◌, ◌≤◌, List}
use Rattle.std.proofs.Math.Option.{some}
use Rattle.isa.specs.Ranges.{handle_length}
use Rattle.isa.specs.declared.Instruction.{Instruction}
use Rattle.model.specs.Forms.{Form, form_of, handle_address}

-- the place is the one that the operand of a use names, in an instruction of so many bytes; LOADIWKEY and ENCODEKEY load no handle
abbrev pub PlacedAt : ℕ → ℕ → Instruction → List ℕ → Type 0
PlacedAt at bytes what cpu = (f : Form) → form_of what ≡ some f → at ≡ (handle_address cpu bytes f.handle).linear

-- the handle there ends within memory: a page that is not there is refused before (14)
abbrev pub Within : ℕ → ℕ → Instruction → Type 0
Within at memory what = (f : Form) → form_of what ≡ some f → at + handle_length f.size ≤ memory
