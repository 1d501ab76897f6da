-- What CPUID tells is what the machine asks: Intel's lists of exceptions, which name CPUID's bits, are the machine's own tests, whatever the features, the
-- control bits and the subleaf. The call meets the tests 4 and 5 of a step.
-- Assumes nothing.
use mathlib.Core.Path.{◌≡◌, refl, sym, ap, ◌∙◌}
use mathlib.Core.Bool.{Bool, true, false, cond, not, ◌&&◌, ◌||◌}
use mathlib.Core.List.{List}
use Prim.Native.Nat.{ℕ, ◌^◌, ◌/◌}
use lib.Dec.{eqb, ltb}
use lib.ListN.{replicate}
use Rattle.bits.proofs.Choice.{cond_off}
use Rattle.model.specs.Numbers.{bit}
use Rattle.model.specs.Records.{key_locker, firmware_enabled, wide_forms, backup_registers, no_backup_supported, random_source}
use Rattle.model.specs.Cpu.{eax, cpl, cr4_kl, cr4_osfxsr, cr0_em}
use Rattle.model.specs.Forms.{no_backup_bit, key_source}
use Rattle.model.specs.Validity.{valid}
use Rattle.model.specs.Refusals.{View, first, between, Asked, tests, of_step, invalid_opcode, load_fault, encode_fault, no_registers}
use Rattle.model.specs.declared.Machine.{Machine}
use Rattle.cpuid_model.specs.Leaves.{zero_leaf, bit_if, aeskle, table, cpuid}
use Rattle.cpuid_model.specs.Calls.{refusal}
use Rattle.cpuid_model.specs.Exceptions as intel
use Rattle.cpuid_model.specs.declared.Leaf.{Leaf}

-- ---- the bits

-- table 2-1 with Key Locker, zeros without
abbrev told : (k a w b x y : Bool) → Leaf
told k a w b x y = cond k (table a w b x y) zero_leaf

ebx_bits : (k a w b x y : Bool) → let l = told k a w b x y in (bit 0 l.ebx ≡ k && a) × (bit 2 l.ebx ≡ k && w) × (bit 4 l.ebx ≡ k && b)
ebx_bits false a w b x y = (refl, refl, refl)
ebx_bits true true true true x y = (refl, refl, refl)
ebx_bits true true true false x y = (refl, refl, refl)
ebx_bits true true false true x y = (refl, refl, refl)
ebx_bits true true false false x y = (refl, refl, refl)
ebx_bits true false true true x y = (refl, refl, refl)
ebx_bits true false true false x y = (refl, refl, refl)
ebx_bits true false false true x y = (refl, refl, refl)
ebx_bits true false false false x y = (refl, refl, refl)

ecx_bits : (k a w b x y : Bool) → let l = told k a w b x y in (bit 0 l.ecx ≡ k && x) × (bit 1 l.ecx ≡ k && y)
ecx_bits false a w b x y = (refl, refl)
ecx_bits true a w b true true = (refl, refl)
ecx_bits true a w b true false = (refl, refl)
ecx_bits true a w b false true = (refl, refl)
ecx_bits true a w b false false = (refl, refl)

module _ (features control n : ℕ) where
  abbrev k : Bool
  k = key_locker features

  kl_is : intel.kl_bit features control n ≡ k
  unfolding cpuid
  kl_is = go k
    where
      go : (k : Bool) → bit 23 (bit_if 23 k) ≡ k
      go true = refl
      go false = refl

  -- leaf 0x19 of these features, with or without Key Locker
  abbrev here : Bool → Leaf
  here k = told k (aeskle features control) (wide_forms features) (backup_registers features) (no_backup_supported features) (random_source features)

  ebx : (bit 0 (cpuid features control 0x19 n).ebx ≡ k && aeskle features control) × (bit 2 (cpuid features control 0x19 n).ebx ≡ k && wide_forms features)
      × (bit 4 (cpuid features control 0x19 n).ebx ≡ k && backup_registers features)
  unfolding cpuid
  ebx = ebx_bits k (aeskle features control) (wide_forms features) (backup_registers features) (no_backup_supported features) (random_source features)

  ecx : (bit 0 (cpuid features control 0x19 n).ecx ≡ k && no_backup_supported features) × (bit 1 (cpuid features control 0x19 n).ecx ≡ k && random_source features)
  unfolding cpuid
  ecx = ecx_bits k (aeskle features control) (wide_forms features) (backup_registers features) (no_backup_supported features) (random_source features)

  -- ---- #UD

  pub ud_of_cpuid : (lock wide : Bool) → invalid_opcode features control lock true wide ≡ intel.aes_ud features control n lock wide
  ud_of_cpuid lock wide =
      go lock k (cr4_kl control) (firmware_enabled features) (cr0_em control) (cr4_osfxsr control) wide (wide_forms features)
      ∙ sym (λ j.
      lock || not (kl_is j) || not (cr4_kl control) || not (ebx.0 j) || cr0_em control || not (cr4_osfxsr control) || wide && not (ebx.1 j))
    where
      go : (lock k c f e o wide w : Bool) → (lock || not k || not c || e || not o || true && not f || wide && not w)
          ≡ (lock || not k || not c || not (k && (k && (f && c))) || e || not o || wide && not (k && w))
      go true k c f e o wide w = refl
      go false false c f e o wide w = refl
      go false true false f e o wide w = refl
      go false true true true true o wide w = refl
      go false true true true false true wide w = refl
      go false true true true false false wide w = refl
      go false true true false true o wide w = refl
      go false true true false false true wide w = refl
      go false true true false false false wide w = refl

  pub load_ud_of_cpuid : (lock : Bool) → invalid_opcode features control lock false false ≡ intel.load_ud features control n lock
  load_ud_of_cpuid lock = go _ ∙ sym (λ j. lock || not (kl_is j) || not (cr4_kl control) || cr0_em control || not (cr4_osfxsr control))
    where
      go : (x : Bool) → (x || false && not (firmware_enabled features) || false && not (wide_forms features)) ≡ x
      go true = refl
      go false = refl

  -- ---- #GP

  pub registers_of_cpuid : (c : ℕ) → no_registers features c ≡ intel.no_msr features control n c
  registers_of_cpuid c = go (ltb 0 c) k (backup_registers features) ∙ sym (λ j. ltb 0 c || not (ebx.2 j && kl_is j))
    where
      go : (l k b : Bool) → (l || not k || not b) ≡ (l || not ((k && b) && k))
      go true k b = refl
      go false true true = refl
      go false true false = refl
      go false false b = refl

  -- refusal 10 has asked for KL before

  pub load_of_cpuid : k ≡ true → (cpu : List ℕ) → load_fault features cpu ≡ intel.load_gp features control n cpu
  load_of_cpuid h cpu =
      sym (λ j.
      ltb 0 (cpl cpu) || ltb 1 (key_source cpu) || not (eqb (eax cpu / 2 ^ 5) 0) || eqb (no_backup_bit cpu) 1 && not (on (no_backup_supported features) ecx.0 j)
      || eqb (key_source cpu) 1 && not (on (random_source features) ecx.1 j))
    where
      on : {x : Bool} (b : Bool) → x ≡ k && b → x ≡ b
      on b e = e ∙ ap (λ (t : Bool). t && b) h

  pub encode_of_cpuid : k ≡ true → (src : ℕ) → encode_fault src ≡ intel.encode_gp features control n src
  unfolding cpuid
  encode_of_cpuid h src =
      go (encode_fault src) (bit 2 src) (bit 1 src) (bit 0 src)
      ∙ sym (ap (λ (t : Bool). let e = (here t).eax in encode_fault src || bit 2 src && not (bit 2 e) || bit 1 src && not (bit 1 e) || bit 0 src && not (bit 0 e)) h)
    where
      go : (f x y z : Bool) → f ≡ (f || x && false || y && false || z && false)
      go true x y z = refl
      go false true true true = refl
      go false true true false = refl
      go false true false true = refl
      go false true false false = refl
      go false false true true = refl
      go false false true false = refl
      go false false false true = refl
      go false false false false = refl

-- ---- the call's refusals

-- 4 and 5 are those of a step with the same CPU record
pub refused_as_a_step : (m : Machine) → valid m ≡ true → (v : View) (a : Asked) (leaf subleaf : ℕ)
    → refusal m (record { cpu = a.cpu; leaf = leaf; subleaf = subleaf }) ≡ first (between 4 5 (tests v (of_step a)))
unfolding tests
refused_as_a_step m h v a leaf subleaf = cond_off (ap not h) _ _

-- the order, 1, 4, 5: a CPU record of 409 bytes whose CPL is 4
pub order : (m : Machine) → refusal m (record { cpu = replicate 409 4; leaf = 7; subleaf = 0 }) ≡ cond (not (valid m)) 1 4
order m = refl
