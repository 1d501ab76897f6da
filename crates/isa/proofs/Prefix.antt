-- The address-size prefix before an instruction of any form: the same instruction, one byte longer, and its memory place, if it has one, with 32-bit addresses.
-- Assumes nothing.
use mathlib.Core.Path.{◌≡◌, ◌∙◌, refl, sym, ap}
use mathlib.Core.Bool.{Bool, ◌&&◌}
use mathlib.Core.List.{List}
use Prim.Native.Nat.{ℕ, ◌+◌, ◌/◌, ◌%◌}
use lib.Dec.{eqb, leb}
use borrow.Author.Tests.{ne_eqb}
use Rattle.bits.proofs.Choice.{cond_off, cond_of}
use Rattle.isa.specs.Decode.{byte_at, extended, displacement32, displacement_at, placed, index_of, sib_of, sib_from, modrm_of, opcode, allowed, instruction_of, built, modrm_from, opcode_from, map_from, escape_from, rex_of, rex_from, rep_from, address_size_from}
use Rattle.isa.specs.declared.AddressSize.{AddressSize}
use Rattle.isa.specs.declared.AddressSize.TheVariants.{Bits64, Bits32}
use Rattle.isa.specs.declared.Base.{Base}
use Rattle.isa.specs.declared.Base.TheVariants as base
use Rattle.isa.specs.declared.Index.{Index}
use Rattle.isa.specs.declared.Index.TheVariants as index
use Rattle.isa.specs.declared.Instruction.{Instruction}
use Rattle.isa.specs.declared.Instruction.TheVariants as instruction
use Rattle.isa.specs.declared.Operand.{Operand}
use Rattle.isa.specs.declared.Operand.TheVariants as operand
use Rattle.isa.specs.declared.Displacement.{Displacement}
use Rattle.isa.specs.declared.Displacement.TheVariants as displacement
use Rattle.isa.specs.declared.Operands.{Operands}
use Rattle.isa.specs.declared.Operands.TheVariants as operands
use Rattle.isa.specs.declared.Prefixes.{Prefixes}
use Rattle.isa.specs.declared.Decoded.{Decoded}
use Rattle.isa.specs.declared.Decoded.TheVariants as decoded
use Rattle.isa.specs.declared.Step.{Step}
use Rattle.isa.specs.declared.Step.TheVariants as step
use Rattle.isa.proofs.Widths.{sized}

-- ---- an instruction with another address size

module _ (size : AddressSize) where
  abbrev sized_operand : Operand → Operand
  sized_operand (operand.Register n) = operand.Register n
  sized_operand (operand.Memory p) = operand.Memory (sized size p)

  abbrev sized_instruction : Instruction → Instruction
  sized_instruction (instruction.Use u) =
      instruction.Use (record { direction = u.direction; size = u.size; block = u.block; handle = sized_operand u.handle })
  sized_instruction (instruction.WideUse u) = instruction.WideUse (record { direction = u.direction; size = u.size; handle = sized_operand u.handle })
  sized_instruction (instruction.LoadIwKey l) = instruction.LoadIwKey (record { src1 = l.src1; src2 = sized_operand l.src2 })
  sized_instruction (instruction.EncodeKey e) =
      instruction.EncodeKey (record { size = e.size; destination = e.destination; source = sized_operand e.source })

  abbrev pub sized_decoded : Decoded → Decoded
  sized_decoded (decoded.Found what lock next) = decoded.Found (sized_instruction what) lock next
  sized_decoded decoded.BadByte = decoded.BadByte
  sized_decoded decoded.EndOfString = decoded.EndOfString
  sized_decoded decoded.Empty = decoded.Empty

  abbrev sized_operands : Operands → Operands
  sized_operands (operands.Found reg rm next) = operands.Found reg (sized_operand rm) next
  sized_operands operands.End = operands.End

  abbrev sized_prefixes : Prefixes → Prefixes
  sized_prefixes p = record { lock = p.lock; address_size = size; r = p.r; x = p.x; b = p.b }

-- ---- the grammar asks for no address size

module _ (size : AddressSize) where
  sized-placed : (old : AddressSize) (reg : ℕ) (b : Base) (i : Index) (scale : ℕ) (d : Displacement)
      → sized_operands size (placed old reg b i scale d) ≡ placed size reg b i scale d
  sized-placed old reg b i scale (displacement.Found d next) = refl
  sized-placed old reg b i scale displacement.End = refl

  sized_instruction_lem : (op m reg : ℕ) (rm : Operand) → sized_instruction size (instruction_of op m reg rm) ≡ instruction_of op m reg (sized_operand size rm)
  unfolding instruction_of
  sized_instruction_lem op m reg rm =
      cond_of (sized_instruction size) (eqb op 0xD8) _ _ _ _ refl
      (cond_of (sized_instruction size) (leb 0xFA op) _ _ _ _ refl (cond_of (sized_instruction size) (leb 0xC0 m) _ _ _ _ refl refl))

  sized_built : (lock : Bool) (op m : ℕ) (o : Operands) → sized_decoded size (built lock op m o) ≡ built lock op m (sized_operands size o)
  sized_built lock op m (operands.Found reg rm next) = ap (λ (i : Instruction). decoded.Found i lock next) (sized_instruction_lem op m reg rm)
  sized_built lock op m operands.End = refl

  module _ (s : List ℕ) (p : Prefixes) where
    abbrev q : Prefixes
    q = sized_prefixes size p

    sized_sib : (mode reg : ℕ) (z : Step) → sized_operands size (sib_from s p mode reg z) ≡ sib_from s q mode reg z
    unfolding sib_of index_of
    sized_sib mode reg (step.Byte sib at) =
        cond_of (sized_operands size) (eqb mode 0 && eqb (sib % 8) 5) _ _ _ _
        (sized-placed p.address_size reg base.None (index_of p sib) (sib / 64) (displacement32 s at))
        (sized-placed p.address_size reg (base.Register (extended p.b sib)) (index_of p sib) (sib / 64) (displacement_at s at mode))
    sized_sib mode reg step.End = refl

    sized_modrm : (at m : ℕ) → sized_operands size (modrm_of s at p m) ≡ modrm_of s at q m
    unfolding modrm_of
    sized_modrm at m =
        let reg = extended p.r (m / 8) in
        cond_of (sized_operands size) (eqb (m / 64) 3) _ _ _ _ refl
        (cond_of (sized_operands size) (eqb (m % 8) 4) _ _ _ _ (sized_sib (m / 64) reg (byte_at s at))
        (cond_of (sized_operands size) (eqb (m / 64) 0 && eqb (m % 8) 5) _ _ _ _
        (sized-placed p.address_size reg base.Rip index.None 0 (displacement32 s at))
        (sized-placed p.address_size reg (base.Register (extended p.b m)) index.None 0 (displacement_at s at (m / 64)))))

    sized-modrm_from : (op : ℕ) (z : Step) → sized_decoded size (modrm_from s p op z) ≡ modrm_from s q op z
    sized-modrm_from op (step.Byte m next) =
        cond_of (sized_decoded size) (allowed op m) _ _ _ _
        (sized_built p.lock op m (modrm_of s next p m) ∙ ap (built p.lock op m) (sized_modrm next m)) refl
    sized-modrm_from op step.End = refl

    sized-opcode : (z : Step) → sized_decoded size (opcode_from s p z) ≡ opcode_from s q z
    sized-opcode (step.Byte b next) = cond_of (sized_decoded size) (opcode b) _ _ _ _ (sized-modrm_from b (byte_at s next)) refl
    sized-opcode step.End = refl

    sized_map : (z : Step) → sized_decoded size (map_from s p z) ≡ map_from s q z
    sized_map (step.Byte b next) = cond_of (sized_decoded size) (eqb b 0x38) _ _ _ _ (sized-opcode (byte_at s next)) refl
    sized_map step.End = refl

    sized_escape : (z : Step) → sized_decoded size (escape_from s p z) ≡ escape_from s q z
    sized_escape (step.Byte b next) = cond_of (sized_decoded size) (eqb b 0x0F) _ _ _ _ (sized_map (byte_at s next)) refl
    sized_escape step.End = refl

  module _ (s : List ℕ) (lock : Bool) (old : AddressSize) where
    sized_rex : (z : Step) → sized_decoded size (rex_from s lock old z) ≡ rex_from s lock size z
    sized_rex (step.Byte b next) =
        cond_of (sized_decoded size) (eqb (b / 16) 4) _ _ _ _ (sized_escape s (rex_of lock old b) (byte_at s next))
        (sized_escape s (rex_of lock old 0) (step.Byte b next))
    sized_rex step.End = refl

    sized_rep : (z : Step) → sized_decoded size (rep_from s lock old z) ≡ rep_from s lock size z
    sized_rep (step.Byte b next) = cond_of (sized_decoded size) (eqb b 0xF3) _ _ _ _ (sized_rex (byte_at s next)) refl
    sized_rep step.End = refl

-- change request (ii): "One byte 67 may stand after LOCK and before F3", at any position of a string, behind LOCK or not
module _ (s : List ℕ) (lock : Bool) (at : ℕ) (e : byte_at s at ≡ step.Byte 0x67 (at + 1)) where
  pub with_67 : byte_at s (at + 1) ≡ step.Byte 0xF3 (at + 2)
      → address_size_from s lock (byte_at s at) ≡ sized_decoded Bits32 (address_size_from s lock (byte_at s (at + 1)))
  with_67 f =
      ap (address_size_from s lock) e ∙ ap (rep_from s lock Bits32) f ∙ sym (sized_rep Bits32 s lock Bits64 (step.Byte 0xF3 (at + 2)))
      ∙ sym (ap (λ (z : Step). sized_decoded Bits32 (address_size_from s lock z)) f)

  -- no other byte, so no second 67 and no F0
  pub nothing_else : (b next : ℕ) → byte_at s (at + 1) ≡ step.Byte b next → (b ≡ 0xF3 → ⊥) → address_size_from s lock (byte_at s at) ≡ decoded.BadByte
  nothing_else b next f n = ap (address_size_from s lock) e ∙ ap (rep_from s lock Bits32) f ∙ cond_off (ne_eqb b 0xF3 n) _ _

-- without it every memory place has 64-bit addresses, as before
pub without_67 : (s : List ℕ) (lock : Bool) (b next : ℕ) → (b ≡ 0x67 → ⊥)
    → sized_decoded Bits64 (address_size_from s lock (step.Byte b next)) ≡ address_size_from s lock (step.Byte b next)
without_67 s lock b next n = ap (sized_decoded Bits64) off ∙ sized_rep Bits64 s lock Bits64 (step.Byte b next) ∙ sym off where
  off : address_size_from s lock (step.Byte b next) ≡ rep_from s lock Bits64 (step.Byte b next)
  off = cond_off (ne_eqb b 0x67 n) _ _
