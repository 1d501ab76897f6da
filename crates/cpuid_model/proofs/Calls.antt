-- The ways that the call goes: refused, or answered.
-- Assumes nothing.
use mathlib.Core.Path.{◌≡◌, ◌∙◌, refl, sym, ap}
use mathlib.Core.Bool.{Bool, true, false, cond, not}
use mathlib.Core.List.{List}
use Prim.Native.Nat.{ℕ}
use native.Mathlib.Nat.{suc-ne-zero}
use lib.Dec.{eqb}
use lib.ListN.{length}
use borrow.Author.Tests.{eq-eqb, ne_eqb, eqb-true}
use Rattle.bits.proofs.Choice.{cond_on, cond_off}
use Rattle.model.specs.Cpu.{cpu_size, control, bad_record}
use Rattle.model.specs.Validity.{valid}
use Rattle.model.specs.Layout.{machine_size, machine_at}
use Rattle.model.specs.declared.Machine.{Machine}
use Rattle.cpuid_model.specs.Leaves.{zero_leaf, cpuid}
use Rattle.cpuid_model.specs.Calls.{CpuidCall, refusal, Identified, identify, identify_lent}
use Rattle.cpuid_model.specs.declared.Leaf.{Leaf}

abbrev identified : ℕ → Leaf → Identified
identified n l = record { number = n; registers = l }

-- 4 and 5
abbrev pub record_refusal : List ℕ → ℕ
record_refusal cpu = cond (not (eqb (length cpu) cpu_size)) 4 (cond (bad_record cpu) 5 0)

-- past 4
pub record_length : (cpu : List ℕ) → record_refusal cpu ≡ 0 → length cpu ≡ cpu_size
record_length cpu e = go (eqb (length cpu) cpu_size) _ refl e
  where
    go : (b : Bool) (r : ℕ) → eqb (length cpu) cpu_size ≡ b → cond (not b) 4 r ≡ 0 → length cpu ≡ cpu_size
    go true r h e = eqb-true (length cpu) cpu_size h
    go false r h e = absurd (suc-ne-zero 3 e)

module _ (m : Machine) (c : CpuidCall) where
  pub refusal_1 : valid m ≡ false → refusal m c ≡ 1
  refusal_1 h = cond_on (ap not h) 1 (record_refusal c.cpu)

  pub refusal_of_record : valid m ≡ true → refusal m c ≡ record_refusal c.cpu
  refusal_of_record h = cond_off (ap not h) 1 (record_refusal c.cpu)

  pub identify_refused : (n : ℕ) → refusal m c ≡ n → (n ≡ 0 → ⊥) → identify m c ≡ identified n zero_leaf
  unfolding identify
  identify_refused n e h =
      ap (λ (r : ℕ). identified r (cond (eqb r 0) (cpuid m.features (control c.cpu) c.leaf c.subleaf) zero_leaf)) e
      ∙ ap (identified n) (cond_off (ne_eqb n 0 h) _ zero_leaf)

  pub identify_done : refusal m c ≡ 0 → identify m c ≡ identified 0 (cpuid m.features (control c.cpu) c.leaf c.subleaf)
  unfolding identify
  identify_done e =
      ap (λ (r : ℕ). identified r (cond (eqb r 0) (cpuid m.features (control c.cpu) c.leaf c.subleaf) zero_leaf)) e

-- ---- on a lent block

module _ (block : List ℕ) (c : CpuidCall) (lent : Leaf) where
  -- what is by value goes to the lent registers, unless it was refused
  abbrev pub into : Identified → Identified
  into i = identified i.number (cond (eqb i.number 0) i.registers lent)

  pub lent_short : (length block ≡ machine_size → ⊥) → identified 1 lent ≡ identify_lent block c lent
  unfolding identify_lent
  lent_short h = sym (ap into (cond_off (ne_eqb (length block) machine_size h) (identify (machine_at block) c) (identified 1 zero_leaf)))

  pub lent_block : length block ≡ machine_size → into (identify (machine_at block) c) ≡ identify_lent block c lent
  unfolding identify_lent
  lent_block h = sym (ap into (cond_on (eq-eqb (length block) machine_size h) (identify (machine_at block) c) (identified 1 zero_leaf)))
