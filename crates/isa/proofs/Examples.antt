-- Strings beside the scope's examples, which are in `model`: REX.R before a wide form, LOADIWKEY xmm1, xmm2 of Intel 343965-001US section 3.12, SRC1 in the
-- reg field, and 67 between LOCK and F3; the empty string, and prefixes alone.
-- Assumes nothing.
use mathlib.Core.Path.{◌≡◌, refl}
use mathlib.Core.Bool.{true, false}
use mathlib.Core.List.{[], ◌∷◌, map}
use lib.ListN.{replicate}
use Rattle.fips197.specs.declared.Direction.TheVariants.{Decrypt}
use Rattle.fips197.specs.declared.KeySize.TheVariants.{Aes256}
use Rattle.isa.specs.Decode.{decode, decode_at, displacement32, displacement_at, index_of, sib_of, modrm_of, instruction_of}
use Rattle.isa.specs.declared.AddressSize.TheVariants.{Bits64}
use Rattle.isa.specs.declared.Base.TheVariants as base
use Rattle.isa.specs.declared.Index.TheVariants as index
use Rattle.isa.specs.declared.Operand.TheVariants as operand
use Rattle.isa.specs.declared.Instruction.TheVariants as instruction
use Rattle.isa.specs.declared.Decoded.TheVariants as decoded

-- the wide forms ignore REX.R
pub wide_rex_r : decode (0xF3 ∷ 0x44 ∷ 0x0F ∷ 0x38 ∷ 0xD8 ∷ 0x18 ∷ [])
    ≡ decoded.Found (instruction.WideUse (record {
      direction = Decrypt;
      size = Aes256;
      handle = operand.Memory (record { base = base.Register 0; index = index.None; scale = 0; address_size = Bits64; displacement = 0 });
    })) false 6
unfolding decode_at modrm_of sib_of index_of displacement_at displacement32 instruction_of
wide_rex_r = refl

pub loadiwkey : decode (0xF3 ∷ 0x0F ∷ 0x38 ∷ 0xDC ∷ 0xCA ∷ [])
    ≡ decoded.Found (instruction.LoadIwKey (record { src1 = 1; src2 = operand.Register 2 })) false 5
unfolding decode_at modrm_of sib_of index_of displacement_at displacement32 instruction_of
loadiwkey = refl

pub locked : decode (0xF0 ∷ 0x67 ∷ 0xF3 ∷ 0x0F ∷ 0x38 ∷ 0xDC ∷ 0xCA ∷ [])
    ≡ decoded.Found (instruction.LoadIwKey (record { src1 = 1; src2 = operand.Register 2 })) true 7
unfolding decode_at modrm_of sib_of index_of displacement_at displacement32 instruction_of
locked = refl

-- a prefix alone begins an instruction, and the empty string none
pub empty_string : decode [] ≡ decoded.Empty
unfolding decode_at
empty_string = refl

pub prefixes_alone : map decode ((0xF0 ∷ []) ∷ (0x67 ∷ []) ∷ (0xF0 ∷ 0x67 ∷ []) ∷ (0xF3 ∷ []) ∷ []) ≡ replicate 4 decoded.EndOfString
unfolding decode_at
prefixes_alone = refl
