-- Which leaf is answered.
-- Assumes nothing.
use mathlib.Core.Path.{◌≡◌, ◌∙◌}
use mathlib.Core.Bool.{Bool, true, false, ◌&&◌}
use Prim.Native.Nat.{ℕ}
use lib.Dec.{eqb}
use Rattle.bits.proofs.Choice.{cond_on, cond_off}
use Rattle.model.specs.Records.{key_locker}
use Rattle.cpuid_model.specs.Leaves.{zero_leaf, leaf7, leaf19, cpuid}

module _ (features control leaf subleaf : ℕ) where
  abbrev seventh : Bool
  seventh = eqb leaf 7 && eqb subleaf 0

  abbrev key_lockers : Bool
  key_lockers = eqb leaf 0x19 && key_locker features

  pub cpuid_7 : seventh ≡ true → cpuid features control leaf subleaf ≡ leaf7 features
  unfolding cpuid
  cpuid_7 h = cond_on h _ _

  pub cpuid_19 : seventh ≡ false → key_lockers ≡ true → cpuid features control leaf subleaf ≡ leaf19 features control
  unfolding cpuid
  cpuid_19 h k = cond_off h _ _ ∙ cond_on k _ _

  pub cpuid_other : seventh ≡ false → key_lockers ≡ false → cpuid features control leaf subleaf ≡ zero_leaf
  unfolding cpuid
  cpuid_other h k = cond_off h _ _ ∙ cond_off k _ _
