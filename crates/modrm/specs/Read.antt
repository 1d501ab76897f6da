-- What a reader gives, as the definitions of instruction strings have it: a value and the place behind it, or why there is none.
-- Assumes nothing.
use Rattle.std.specs.Prelude.{ℕ, Bool, true, false, ◌≡◌, ◌+◌, ◌/◌, ◌%◌, ◌&&◌, cond, eqb, List, Result, Ok, Err}
use Rattle.isa.specs.Decode as isa
use Rattle.isa.specs.declared.Base.TheVariants as base
use Rattle.isa.specs.declared.Index.TheVariants as index
use Rattle.isa.specs.declared.Prefixes.{Prefixes}
use Rattle.isa.specs.declared.Displacement.{Displacement}
use Rattle.isa.specs.declared.Displacement.TheVariants as displacement
use Rattle.isa.specs.declared.MemoryPlace.{MemoryPlace}
use Rattle.isa.specs.declared.Operand.TheVariants as operand
use Rattle.isa.specs.declared.Operands.{Operands}
use Rattle.isa.specs.declared.Operands.TheVariants as operands
use Rattle.isa.specs.declared.Step.{Step}
use Rattle.isa.specs.declared.Step.TheVariants as step
use Rattle.modrm.specs.declared.Malformed.{Malformed}
use Rattle.modrm.specs.declared.Malformed.TheVariants as malformed
use Rattle.modrm.specs.declared.ModRm.{ModRm}
use Rattle.refusal.specs.declared.Refusal.{Refusal}
use Rattle.refusal.specs.declared.Refusal.TheVariants as refusal

abbrev pub step_of : Result ℕ Malformed → ℕ → Step
step_of (Ok b) next = step.Byte b next
step_of (Err e) next = step.End

-- a byte that has to be there
abbrev pub expected : ℕ → Step → Result (Unit {0}) Malformed
expected wanted (step.Byte b next) = cond (eqb b wanted) (Ok tt) (Err malformed.BadByte)
expected wanted step.End = Err malformed.EndOfString

-- whether a byte is there
abbrev pub optional : ℕ → Step → Result Bool Malformed
optional wanted (step.Byte b next) = Ok (eqb b wanted)
optional wanted step.End = Err malformed.EndOfString

-- the place behind it, if it is
abbrev pub skipped : Result Bool Malformed → ℕ → ℕ
skipped (Ok true) at = at + 1
skipped (Ok false) at = at
skipped (Err e) at = at

abbrev pub displacement_of : Result ℕ Malformed → ℕ → Displacement
displacement_of (Ok d) next = displacement.Found d next
displacement_of (Err e) next = displacement.End

-- a memory place beside this register
abbrev pub place_of : ℕ → Result MemoryPlace Malformed → ℕ → Operands
place_of reg (Ok p) next = operands.Found reg (operand.Memory p) next
place_of reg (Err e) next = operands.End

abbrev pub operands_of : Result ModRm Malformed → ℕ → Operands
operands_of (Ok o) next = operands.Found o.reg o.rm next
operands_of (Err e) next = operands.End

-- modrm_of, where mod is not 3
abbrev pub memory_at : List ℕ → ℕ → Prefixes → ℕ → ℕ → Operands
memory_at s at p m reg =
    cond (eqb (m % 8) 4) (isa.sib_from s p (m / 64) reg (isa.byte_at s at))
    (cond (eqb (m / 64) 0 && eqb (m % 8) 5)
    (isa.placed p.address_size reg base.Rip index.None 0 (isa.displacement32 s at))
    (isa.placed p.address_size reg (base.Register (isa.extended p.b m)) index.None 0 (isa.displacement_at s at (m / 64))))

-- the refusal of a string that is turned back
abbrev pub refusal_of : Malformed → Refusal
refusal_of malformed.BadByte = refusal.BadByte
refusal_of malformed.EndOfString = refusal.EndOfString

abbrev pub Becomes : Malformed → Refusal → Type 0
Becomes m r = r ≡ refusal_of m
