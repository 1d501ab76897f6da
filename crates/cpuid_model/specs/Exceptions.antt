-- Intel 343965-001US states its exceptions by CPUID's bits. Its lists, with the bits that the call answers; proofs/Agreement.antt has them over the machine's
-- own tests.
-- Assumes nothing.
use Rattle.std.specs.Prelude.{Bool, not, ◌&&◌, ◌||◌, List, ℕ, ◌^◌, ◌/◌, ◌%◌, eqb, ltb}
use Rattle.model.specs.Numbers.{bit}
use Rattle.model.specs.Cpu.{eax, cpl, cr4_kl, cr4_osfxsr, cr0_em}
use Rattle.model.specs.Forms.{no_backup_bit, key_source}
use Rattle.cpuid_model.specs.Leaves.{cpuid}
use Rattle.cpuid_model.specs.declared.Leaf.{Leaf}

-- on a processor with these features and control bits; n is the subleaf that leaf 0x19 is asked with
module _ (features control n : ℕ) where
  -- CPUID.(07H,0)
  abbrev answer07 : Leaf
  answer07 = cpuid features control 7 0

  -- CPUID.19H
  abbrev answer19 : Leaf
  answer19 = cpuid features control 0x19 n

  -- CPUID.07H:ECX.KL [bit 23]
  abbrev pub kl_bit : Bool
  kl_bit = bit 23 answer07.ecx

  -- CPUID.19H:EBX.AESKLE [bit 0]
  abbrev pub aeskle_bit : Bool
  aeskle_bit = bit 0 answer19.ebx

  -- CPUID.19H:EBX.WIDE_KL [bit 2]
  abbrev pub wide_kl_bit : Bool
  wide_kl_bit = bit 2 answer19.ebx

  -- 3.2.5 to 3.11.5, #UD of uses and encodes: "If the LOCK prefix is used. If CPUID.07H:ECX.KL [bit 23] = 0. If CR4.KL = 0. If CPUID.19H:EBX.AESKLE [bit 0] = 0.
  -- If CR0.EM = 1. If CR4.OSFXSR = 0.", and of wide uses "If CPUID.19H:EBX.WIDE_KL [bit 2] = 0."
  abbrev pub aes_ud : (lock wide : Bool) → Bool
  aes_ud lock wide =
      lock || not kl_bit || not (cr4_kl control) || not aeskle_bit || cr0_em control || not (cr4_osfxsr control) || wide && not wide_kl_bit

  -- 3.12.5, #UD of LOADIWKEY: as there, but for AESKLE
  abbrev pub load_ud : (lock : Bool) → Bool
  load_ud lock = lock || not kl_bit || not (cr4_kl control) || cr0_em control || not (cr4_osfxsr control)

  -- 3.12.5, #GP of LOADIWKEY: "If CPL > 0. If EAX[4:1] > 1. If EAX[31:5] != 0. If (EAX[0] == 1) AND (CPUID.19H.ECX[0] == 0). If (EAX[4:1] == 1) AND
  -- (CPUID.19H.ECX[1] == 0)."
  abbrev pub load_gp : List ℕ → Bool
  load_gp cpu =
      ltb 0 (cpl cpu) || ltb 1 (key_source cpu) || not (eqb (eax cpu / 2 ^ 5) 0)
      || eqb (no_backup_bit cpu) 1 && not (bit 0 answer19.ecx)
      || eqb (key_source cpu) 1 && not (bit 1 answer19.ecx)

  -- 3.10 and 3.11, #GP of ENCODEKEY: "If reserved bit is set in source register value", and "SRC[31:3] are currently reserved", SRC[i] "is reserved if
  -- CPUID.19H:EAX[i] is 0"
  abbrev pub encode_gp : ℕ → Bool
  encode_gp src =
      not (eqb (src % 2 ^ 32 / 2 ^ 3) 0)
      || bit 2 src && not (bit 2 answer19.eax)
      || bit 1 src && not (bit 1 answer19.eax)
      || bit 0 src && not (bit 0 answer19.eax)

  -- chapter 4, the backup registers, which are there, at CPL 0, "IF ((CPUID.19H:EBX[4] == 1) && (CPUID.(07H,0).ECX[23] == 1))"
  abbrev pub no_msr : ℕ → Bool
  no_msr c = ltb 0 c || not (bit 4 answer19.ebx && kl_bit)
