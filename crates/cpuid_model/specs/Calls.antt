-- Change request (i): "a call over machine, CPU record, leaf and subleaf that alters nothing". It is no call of demand 3's lists, and no instruction string.
-- Assumes nothing.
use Rattle.std.specs.Prelude.{cond, not, List, [], ◌∷◌, ℕ, eqb, length}
use Rattle.model.specs.Cpu.{cpu_size, control, bad_record}
use Rattle.model.specs.Validity.{valid}
use Rattle.model.specs.Refusals.{test, first}
use Rattle.model.specs.Layout.{machine_size, machine_at}
use Rattle.model.specs.declared.Machine.{Machine}
use Rattle.cpuid_model.specs.Leaves.{zero_leaf, cpuid}
use Rattle.cpuid_model.specs.declared.Leaf.{Leaf}

-- all its arguments but the machine; the CPU record is bytes, of any length
pub record CpuidCall : Type 0 where
  pub cpu : List ℕ
  pub leaf : ℕ
  pub subleaf : ℕ

-- the scope, "Turned back": 1, 4 and 5, "a check that a call has no operand for is skipped"
abbrev pub refusal : Machine → CpuidCall → ℕ
refusal m c =
    first
    (test 1 (not (valid m))
    ∷ test 4 (not (eqb (length c.cpu) cpu_size))
    ∷ test 5 (bad_record c.cpu)
    ∷ [])

-- 0 or the refusal's number, and the four registers
pub record Identified : Type 0 where
  pub number : ℕ
  pub registers : Leaf

-- by value the registers are zero where it is refused
unfoldable pub identify : Machine → CpuidCall → Identified
identify m c =
    record {
      number = refusal m c;
      registers = cond (eqb (refusal m c) 0) (cpuid m.features (control c.cpu) c.leaf c.subleaf) zero_leaf;
    }

-- the scope, "Turned back" 1, for C: "Machine not 924 bytes (C form)"; and where it is refused the four registers that are lent stay
abbrev pub identify_at : List ℕ → CpuidCall → Identified
identify_at block c = cond (eqb (length block) machine_size) (identify (machine_at block) c) (record { number = 1; registers = zero_leaf })

unfoldable pub identify_lent : List ℕ → CpuidCall → Leaf → Identified
identify_lent block c lent =
    record {
      number = (identify_at block c).number;
      registers = cond (eqb (identify_at block c).number 0) (identify_at block c).registers lent;
    }
