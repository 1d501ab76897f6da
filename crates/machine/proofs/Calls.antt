-- What the tests tell that a call has passed: its processor is one of the machine's, and CPUID answers.
-- Assumes nothing.
use Rattle.std.proofs.Common.{◌≡◌, ◌∙◌, ◌<◌, Bool, true, false, cond, ℕ, refl, sym, ap, arith}
use Rattle.std.proofs.Math.Option.{some}
use native.Mathlib.Nat.{suc-ne-zero}
use Rattle.bits.proofs.Choice.{true-T}
use Rattle.model.specs.Calls.{Call}
use Rattle.model.specs.Cpu.{control}
use Rattle.model.specs.Execution.{view_of}
use Rattle.model.specs.Refusals.{View, operands, first, refusal}
use Rattle.model.specs.Validity.{valid}
use Rattle.model.specs.declared.Machine.{Machine}
use Rattle.model.proofs.Refusals.{processor_below}
use Rattle.model.proofs.Validities.{count_few}
use Rattle.cpuid_model.specs.Leaves.{cpuid}
use Rattle.cpuid_model.specs.Calls.{CpuidCall, identify}
use Rattle.cpuid_model.proofs.Calls.{refusal_of_record, identify_done}
use Rattle.refusals.specs.Parts.{record_tests}

passed : (b : Bool) → ◌≡◌ {A = ℕ} 0 (cond b 0 1) → b ≡ true
passed true e = refl
passed false e = absurd (suc-ne-zero 0 (sym e))

module _ (m : Machine) (v : ◌≡◌ {A = ℕ} 0 (cond (valid m) 0 1)) where
  pub below_16 : {w : View} → w ≡ view_of m → (c : Call) (p : ℕ) → ◌≡◌ {A = ℕ} 0 (refusal w c) → (operands c).processor ≡ some p → p < 16
  below_16 {w} q c p a e =
      let few = count_few m (true-T (valid m) (passed (valid m) v)) in
      let below : p < m.count = processor_below (view_of m) c p (ap (λ (x : View). refusal x c) (sym q) ∙ sym a) e in
      omega arith

  pub identified : (c : CpuidCall) → ◌≡◌ {A = ℕ} 0 (first (record_tests c.cpu))
      → identify m c ≡ record { number = 0; registers = cpuid m.features (control c.cpu) c.leaf c.subleaf }
  identified c a = identify_done m c (refusal_of_record m c (passed (valid m) v) ∙ sym a)
