-- Where a handle is loaded from: the width of its address, and with the prefix 67 neither refusal 12 nor 13.
-- Assumes nothing.
use mathlib.Core.Path.{◌≡◌, ◌∙◌, sym, ap, subst}
use mathlib.Core.Bool.{Bool, true, false, not, ◌&&◌, ◌||◌, and-false, or-false, true≢false}
use mathlib.Core.List.{List}
use mathlib.Core.Option.{Option, some, none-ne-some}
use Prim.Native.Nat.{ℕ, ◌^◌, ◌<◌}
use native.Mathlib.Omega.{arith}
use lib.Dec.{T, eqb}
use Rattle.fips197.specs.declared.KeySize.{KeySize}
use Rattle.isa.specs.Address.{address_bits}
use Rattle.isa.specs.Decode.{decode}
use Rattle.isa.specs.Ranges.{handle_length}
use Rattle.isa.specs.declared.AddressSize.TheVariants.{Bits32}
use Rattle.isa.specs.declared.Decoded.TheVariants as decoded
use Rattle.isa.specs.declared.Instruction.{Instruction}
use Rattle.isa.specs.declared.Instruction.TheVariants as instruction
use Rattle.isa.specs.declared.MemoryPlace.{MemoryPlace}
use Rattle.isa.specs.declared.Operand.{Operand}
use Rattle.isa.specs.declared.Operand.TheVariants as operand
use Rattle.isa.proofs.Ranges.{length_few}
use Rattle.isa.proofs.Widths.{below_64, canonical_32, width}
use Rattle.model.specs.Cpu.{register, rip}
use Rattle.model.specs.Forms.{Form, form_of, handle_address}
use Rattle.model.specs.Calls.{StepCall, step}
use Rattle.model.specs.Refusals.{View, canonical_fault, in_segment, instruction_fault, of, of_decoded, of_handle, operands, refusal, tests}
use Rattle.model.proofs.Refusals.{first_holding, holding_from}

module _ (cpu : List ℕ) (bytes : ℕ) where
  pub handle_below_64 : (o : Operand) → (handle_address cpu bytes o).linear < 2 ^ 64
  handle_below_64 (operand.Register n) = omega arith
  handle_below_64 (operand.Memory p) = below_64 (λ n. register n cpu) (rip cpu) bytes p

  -- change request (ii): "the chosen width"
  pub handle_width : (p : MemoryPlace) → (handle_address cpu bytes (operand.Memory p)).linear < 2 ^ address_bits p.address_size
  handle_width p = width (λ n. register n cpu) (rip cpu) bytes p

  -- the part of refusals 12 and 13 that a handle has
  pub no_fault_32 : (stack : Bool) (p : MemoryPlace) (size : KeySize) → p.address_size ≡ Bits32
      → canonical_fault stack (handle_address cpu bytes (operand.Memory p)) size ≡ false
  no_fault_32 stack p size e =
      let a = handle_address cpu bytes (operand.Memory p) in
      let low : a.linear < 2 ^ 32 = subst (λ z. a.linear < 2 ^ address_bits z) e (handle_width p) in
      ap (λ (b : Bool). in_segment stack a.segment && b) (canonical_32 a.linear (handle_length size) low (length_few size))
      ∙ and-false (in_segment stack a.segment)

-- ---- whole steps

module _ (cpu : List ℕ) (bytes : ℕ) (f : Form) (p : MemoryPlace) (q : f.handle ≡ operand.Memory p) (size : p.address_size ≡ Bits32) where
  handle_canonical : (stack : Bool) (what : Instruction) → ◌≡◌ {A = Option Form} (form_of what) (some f) → of_handle (canonical_fault stack) cpu bytes what ≡ false
  handle_canonical stack what r =
      ap (of (λ u. canonical_fault stack (handle_address cpu bytes u.handle) u.size)) r
      ∙ ap (λ (o : Operand). canonical_fault stack (handle_address cpu bytes o) f.size) q
      ∙ no_fault_32 cpu bytes stack p f.size size

  use_canonical : (features : ℕ) (what : Instruction) → ◌≡◌ {A = Option Form} (form_of what) (some f) → instruction_fault features cpu what bytes ≡ false
  use_canonical features (instruction.Use u) r = handle_canonical false (instruction.Use u) r
  use_canonical features (instruction.WideUse u) r = handle_canonical false (instruction.WideUse u) r
  use_canonical features (instruction.LoadIwKey l) r = absurd (none-ne-some f r)
  use_canonical features (instruction.EncodeKey e) r = absurd (none-ne-some f r)

-- a use with an address of 32 bits is not refused with 12 or 13, whatever the machine, the registers and the memory
pub neither_12_nor_13 : (v : View) (s : StepCall) (what : Instruction) (lock : Bool) (bytes : ℕ) (f : Form) (p : MemoryPlace)
    → decode s.string ≡ decoded.Found what lock bytes → ◌≡◌ {A = Option Form} (form_of what) (some f)
    → f.handle ≡ operand.Memory p → p.address_size ≡ Bits32 → T (not (eqb (refusal v (step s)) 12 || eqb (refusal v (step s)) 13))
unfolding refusal tests
neither_12_nor_13 v s what lock bytes f p d r q size =
    first_holding (λ n. not (eqb n 12 || eqb n 13)) (tests v (operands (step s))) tt
    (holding_from (λ n. not (eqb n 12 || eqb n 13)) 11 (tests v (operands (step s))) tt (not_now fault_12, (not_now fault_13, (λ e. tt, tt))))
  where
    not_now : {b : Bool} → b ≡ false → b ≡ true → ⊥
    not_now e h = true≢false (sym h ∙ e)

    fault_12 : (of_decoded (λ i lock bytes. instruction_fault v.features s.cpu i bytes) (decode s.string) || false) ≡ false
    fault_12 =
        or-false (of_decoded (λ i lock bytes. instruction_fault v.features s.cpu i bytes) (decode s.string))
        ∙ ap (of_decoded (λ i lock bytes. instruction_fault v.features s.cpu i bytes)) d
        ∙ use_canonical s.cpu bytes f p q size v.features what r

    fault_13 : of_decoded (λ i lock bytes. of_handle (canonical_fault true) s.cpu bytes i) (decode s.string) ≡ false
    fault_13 =
        ap (of_decoded (λ i lock bytes. of_handle (canonical_fault true) s.cpu bytes i)) d
        ∙ handle_canonical s.cpu bytes f p q size true what r
