-- Intel's 64-bit addressing (SDM volume 1, 3.7.5; volume 2, 2.1.5 and 2.2.1): the address that a memory place names, over the sixteen general registers,
-- RIP and the length of the instruction.
-- Assumes nothing.
use Rattle.std.specs.Prelude.{ℕ, ◌+◌, ◌*◌, ◌^◌, ◌%◌, cond, ◌||◌, eqb}
use Rattle.isa.specs.declared.Base.{Base}
use Rattle.isa.specs.declared.Base.TheVariants as base
use Rattle.isa.specs.declared.Index.{Index}
use Rattle.isa.specs.declared.Index.TheVariants as index
use Rattle.isa.specs.declared.AddressSize.{AddressSize}
use Rattle.isa.specs.declared.AddressSize.TheVariants.{Bits64, Bits32}
use Rattle.isa.specs.declared.MemoryPlace.{MemoryPlace}
use Rattle.isa.specs.declared.Segment.{Segment}
use Rattle.isa.specs.declared.Segment.TheVariants.{Data, Stack}
use Rattle.isa.specs.declared.Address.{Address}

-- SDM volume 1, 3.7.5: what the base adds; RIP is that of the next instruction. A register is one of sixteen.
abbrev pub base_value : (ℕ → ℕ) → ℕ → Base → ℕ
base_value registers next base.None = 0
base_value registers next base.Rip = next
base_value registers next (base.Register n) = registers (n % 16)

-- SDM volume 1, 3.7.5: what the index adds, before it is scaled
abbrev pub index_value : (ℕ → ℕ) → Index → ℕ
index_value registers index.None = 0
index_value registers (index.Register n) = registers (n % 16)

-- SDM volume 1, 3.7.4; the scope, "Instruction strings": RSP and RBP as the base mean the stack segment
abbrev pub segment_of : Base → Segment
segment_of base.None = Data
segment_of base.Rip = Data
segment_of (base.Register n) = cond (eqb (n % 16) 4 || eqb (n % 16) 5) Stack Data

-- SDM volume 2, 2.2.1.6: the RIP of the next instruction, which is so many bytes on
abbrev pub next_rip : ℕ → ℕ → ℕ
next_rip rip bytes = (rip + bytes) % 2 ^ 64

-- SDM volume 1, table 3-4: the address size in bits
abbrev pub address_bits : AddressSize → ℕ
address_bits Bits64 = 64
address_bits Bits32 = 32

-- the scope, "Instruction strings": modulo 2^64, for an instruction of so many bytes at RIP; change request (ii), with the prefix 67: "worked out as before and
-- taken modulo 2^32" (SDM volume 1, 3.3.7: truncated to the address size)
unfoldable pub effective_address : (ℕ → ℕ) → ℕ → ℕ → MemoryPlace → Address
effective_address registers rip bytes p =
    record {
      linear =
          (base_value registers (next_rip rip bytes) p.base + index_value registers p.index * 2 ^ (p.scale % 4) + p.displacement)
          % 2 ^ address_bits p.address_size;
      segment = segment_of p.base;
    }
