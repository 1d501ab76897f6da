-- What the instructions read before they act: operands, the handle's address, and EAX of LOADIWKEY.
-- Assumes nothing.
use Rattle.std.specs.Prelude.{Bool, ◌&&◌, List, [], ◌∷◌, ℕ, ◌/◌, ◌%◌, eqb, length}
use Rattle.std.proofs.Math.Option.{Option, none, some}
use Rattle.fips197.specs.declared.Direction.{Direction}
use Rattle.fips197.specs.declared.KeySize.{KeySize}
use Rattle.isa.specs.Address.{effective_address}
use Rattle.isa.specs.Ranges.{handle_length}
use Rattle.isa.specs.declared.Address.{Address}
use Rattle.isa.specs.declared.Instruction.{Instruction}
use Rattle.isa.specs.declared.Instruction.TheVariants as instruction
use Rattle.isa.specs.declared.Operand.{Operand}
use Rattle.isa.specs.declared.Operand.TheVariants as operand
use Rattle.isa.specs.declared.Segment.TheVariants.{Data}
use Rattle.isa.specs.declared.Use.{Use}
use Rattle.isa.specs.declared.WideUse.{WideUse}
use Rattle.model.specs.Numbers.{part}
use Rattle.model.specs.Cpu.{register, rip, eax}

-- the scope, "Instruction strings": one of the eight forms of a use; the blocks are XMM registers
pub record Form : Type 0 where
  pub direction : Direction
  pub size : KeySize
  pub blocks : List ℕ
  pub handle : Operand

-- "reg is the block"
abbrev pub single : Use → Form
single u = record { direction = u.direction; size = u.size; blocks = u.block ∷ []; handle = u.handle }

-- "on XMM0 to 7"
abbrev pub wide : WideUse → Form
wide u = record { direction = u.direction; size = u.size; blocks = 0 ∷ 1 ∷ 2 ∷ 3 ∷ 4 ∷ 5 ∷ 6 ∷ 7 ∷ []; handle = u.handle }

abbrev pub form_of : Instruction → Option Form
form_of (instruction.Use u) = some (single u)
form_of (instruction.WideUse u) = some (wide u)
form_of (instruction.LoadIwKey l) = none
form_of (instruction.EncodeKey e) = none

-- a register operand; LOADIWKEY and ENCODEKEY have no other (isa, `decoded_fits`)
abbrev pub register_of : Operand → ℕ
register_of (operand.Register n) = n
register_of (operand.Memory p) = 0

-- the scope, "Instruction strings": where a handle is loaded from, for an instruction of so many bytes; no use has a register there (isa, `decoded_fits`)
abbrev pub handle_address : List ℕ → ℕ → Operand → Address
handle_address cpu bytes (operand.Register n) = record { linear = 0; segment = Data }
handle_address cpu bytes (operand.Memory p) = effective_address (λ n. register n cpu) (rip cpu) bytes p

-- the 48 or 64 bytes that a use reads
abbrev pub handle_read : List ℕ → List ℕ → ℕ → Form → List ℕ
handle_read memory cpu bytes f = part (handle_length f.size) (handle_address cpu bytes f.handle).linear memory

-- the scope, "What each instruction does", LOADIWKEY: "EAX bit 0 NoBackup, bits 4:1 key source"
abbrev pub no_backup_bit : List ℕ → ℕ
no_backup_bit cpu = eax cpu % 2

abbrev pub key_source : List ℕ → ℕ
key_source cpu = eax cpu / 2 % 16

-- "Not ready at source 1"; the scope, "Records": "or none for 'not ready'"
abbrev pub not_ready : List ℕ → List ℕ → Bool
not_ready random cpu = eqb (key_source cpu) 1 && eqb (length random) 0
