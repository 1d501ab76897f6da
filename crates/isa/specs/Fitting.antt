-- What holds of every decoded instruction: registers are below 16, the handle of a use is in memory, the operands of LOADIWKEY and ENCODEKEY are registers.
-- Assumes nothing.
use Rattle.std.specs.Prelude.{◌<◌}
use Rattle.isa.specs.declared.Base.{Base}
use Rattle.isa.specs.declared.Base.TheVariants as base
use Rattle.isa.specs.declared.Index.{Index}
use Rattle.isa.specs.declared.Index.TheVariants as index
use Rattle.isa.specs.declared.Operand.{Operand}
use Rattle.isa.specs.declared.Operand.TheVariants as operand
use Rattle.isa.specs.declared.Instruction.{Instruction}
use Rattle.isa.specs.declared.Instruction.TheVariants as instruction

abbrev pub BaseFits : Base → Type 0
BaseFits base.None = Unit {0}
BaseFits base.Rip = Unit {0}
BaseFits (base.Register n) = n < 16

abbrev pub IndexFits : Index → Type 0
IndexFits index.None = Unit {0}
IndexFits (index.Register n) = n < 16

abbrev pub InMemory : Operand → Type 0
InMemory (operand.Register n) = ⊥
InMemory (operand.Memory p) = BaseFits p.base × IndexFits p.index × (p.scale < 4)

abbrev pub InRegister : Operand → Type 0
InRegister (operand.Register n) = n < 16
InRegister (operand.Memory p) = ⊥

abbrev pub Fits : Instruction → Type 0
Fits (instruction.Use u) = (u.block < 16) × InMemory u.handle
Fits (instruction.WideUse u) = InMemory u.handle
Fits (instruction.LoadIwKey l) = (l.src1 < 16) × InRegister l.src2
Fits (instruction.EncodeKey e) = (e.destination < 16) × InRegister e.source
