-- Change request (i): what CPUID answers, from the machine's features and CR4.KL. Intel 343965-001US, chapter 2.
-- Assumes nothing.
use Rattle.std.specs.Prelude.{Bool, cond, ◌&&◌, ℕ, ◌+◌, ◌^◌, eqb}
use Rattle.model.specs.Records.{key_locker, firmware_enabled, wide_forms, backup_registers, no_backup_supported, random_source}
use Rattle.model.specs.Cpu.{cr4_kl}
use Rattle.cpuid_model.specs.declared.Leaf.{Leaf}

abbrev pub zero_leaf : Leaf
zero_leaf = record { eax = 0; ebx = 0; ecx = 0; edx = 0 }

-- bit i alone, where it is told
abbrev pub bit_if : ℕ → Bool → ℕ
bit_if i told = cond told (2 ^ i) 0

-- "ECX bit 23 of leaf 7 is the KL feature": chapter 2, CPUID.KL
abbrev pub leaf7 : ℕ → Leaf
leaf7 features = record { eax = 0; ebx = 0; ecx = bit_if 23 (key_locker features); edx = 0 }

-- "AESKLE is set exactly when KL, firmware and CR4.KL are on": chapter 2, CPUID.AESKLE
abbrev pub aeskle : ℕ → ℕ → Bool
aeskle features control = key_locker features && (firmware_enabled features && cr4_kl control)

-- table 2-1, by what it tells. EAX: the restrictions CPL0-only, no-encrypt and no-decrypt; EBX: AESKLE, WIDE_KL, the IWKeyBackup MSRs; ECX: NoBackup,
-- KeySource 1
abbrev pub table : (aeskle wide_kl backup no_backup random : Bool) → Leaf
table aeskle wide_kl backup no_backup random =
    record {
      eax = 2 ^ 0 + 2 ^ 1 + 2 ^ 2;
      ebx = bit_if 0 aeskle + bit_if 2 wide_kl + bit_if 4 backup;
      ecx = bit_if 0 no_backup + bit_if 1 random;
      edx = 0;
    }

abbrev pub leaf19 : ℕ → ℕ → Leaf
leaf19 features control =
    table (aeskle features control) (wide_forms features) (backup_registers features) (no_backup_supported features) (random_source features)

-- "Any other leaf or subleaf of 7 answers zero, and leaf 0x19 without KL does too." Table 2-1 names no subleaf of 0x19.
unfoldable pub cpuid : ℕ → ℕ → ℕ → ℕ → Leaf
cpuid features control leaf subleaf =
    cond (eqb leaf 7 && eqb subleaf 0) (leaf7 features)
    (cond (eqb leaf 0x19 && key_locker features) (leaf19 features control) zero_leaf)
