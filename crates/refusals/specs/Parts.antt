-- The list of a step's tests in parts, each over what it looks at, and where a use loads its handle from.
-- Assumes nothing.
use Rattle.std.specs.Prelude.{Bool, false, true, not, List, [], ◌∷◌, ℕ, eqb, leb, ltb, length}
use Rattle.std.proofs.Math.Option.{Option, none, some}
use Rattle.isa.specs.declared.Decoded.{Decoded}
use Rattle.isa.specs.declared.Decoded.TheVariants as decoded
use Rattle.isa.specs.declared.Instruction.{Instruction}
use Rattle.model.specs.Cpu.{cpu_size, control, bad_record}
use Rattle.model.specs.Forms.{Form, handle_address}
use Rattle.model.specs.Refusals.{Test, test, memory_limit, random_length, invalid_opcode, no_math, needs_firmware, needs_wide, instruction_fault, of_handle, canonical_fault, outside}

-- 4 and 5 of a CPU record
abbrev pub record_tests : List ℕ → List Test
record_tests cpu = test 4 (not (eqb (length cpu) cpu_size)) ∷ test 5 (bad_record cpu) ∷ []

-- 6 and 7, of the lengths of guest memory and random data
abbrev pub length_tests : ℕ → ℕ → List Test
length_tests memory random = test 6 (ltb memory_limit memory) ∷ test 7 (not (random_length random)) ∷ []

-- 3 to 7, over the processors there are and what is lent
abbrev pub lent_tests : ℕ → ℕ → List ℕ → ℕ → ℕ → List Test
lent_tests count processor cpu memory random =
    test 3 (leb count processor)
    ∷ test 4 (not (eqb (length cpu) cpu_size))
    ∷ test 5 (bad_record cpu)
    ∷ length_tests memory random

-- 12 to 14 of an instruction of so many bytes
abbrev pub operand_tests : ℕ → List ℕ → ℕ → Instruction → ℕ → List Test
operand_tests features cpu memory what bytes =
    test 12 (instruction_fault features cpu what bytes)
    ∷ test 13 (of_handle (canonical_fault true) cpu bytes what)
    ∷ test 14 (of_handle (outside memory) cpu bytes what)
    ∷ []

-- 10 to 14
abbrev pub instruction_tests : ℕ → List ℕ → ℕ → Instruction → Bool → ℕ → List Test
instruction_tests features cpu memory what lock bytes =
    test 10 (invalid_opcode features (control cpu) lock (needs_firmware what) (needs_wide what))
    ∷ test 11 (no_math (control cpu))
    ∷ operand_tests features cpu memory what bytes

-- 10 and 11 of the single form, which has no LOCK, needs firmware, and does not need the wide bit
abbrev pub single_tests : ℕ → ℕ → List Test
single_tests features control = test 10 (invalid_opcode features control false true false) ∷ test 11 (no_math control) ∷ []

-- where an instruction of so many bytes loads its handle from; 0 if it loads none
abbrev pub loaded_from : List ℕ → ℕ → Option Form → ℕ
loaded_from cpu bytes none = 0
loaded_from cpu bytes (some f) = (handle_address cpu bytes f.handle).linear

-- 8 to 14, of what the string holds: a string that holds no instruction meets 8 or 9, or none where it is empty
abbrev pub string_tests : ℕ → List ℕ → ℕ → Decoded → List Test
string_tests features cpu memory (decoded.Found what lock bytes) = instruction_tests features cpu memory what lock bytes
string_tests features cpu memory decoded.BadByte = test 8 true ∷ []
string_tests features cpu memory decoded.EndOfString = test 9 true ∷ []
string_tests features cpu memory decoded.Empty = []
