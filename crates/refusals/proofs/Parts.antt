-- The list of a step's tests is its parts in turn.
-- Assumes nothing.
use Rattle.std.proofs.Common.{◌≡◌, ℕ, Bool, true, false, cond, not, List, [], ◌∷◌, ◌++◌, length, eqb, leb, refl, arith}
use Rattle.std.proofs.Math.Bool.{or-false}
use Rattle.isa.specs.declared.Decoded.{Decoded}
use Rattle.isa.specs.declared.Decoded.TheVariants as decoded
use Rattle.model.specs.Cpu.{cpu_size, bad_record}
use Rattle.model.specs.Refusals.{View, Asked, test, first, tests, step_refusal}
use Rattle.refusal.specs.Numbers.{number_of}
use Rattle.refusal.specs.declared.Refusal.{Refusal}
use Rattle.refusals.specs.Parts.{record_tests, length_tests, lent_tests, string_tests}

pub in_parts : (v : View) (a : Asked)
    → step_refusal v a ≡ first (lent_tests v.count a.processor a.cpu a.memory a.random ++ string_tests v.features a.cpu a.memory a.decoded)
unfolding tests
in_parts v a = go a.decoded
  where
    go : (d : Decoded)
        → step_refusal v (record { processor = a.processor; cpu = a.cpu; memory = a.memory; random = a.random; decoded = d })
        ≡ first (lent_tests v.count a.processor a.cpu a.memory a.random ++ string_tests v.features a.cpu a.memory d)
    go (decoded.Found what lock bytes) = simp or-false refl
    go decoded.BadByte = refl
    go decoded.EndOfString = refl
    go decoded.Empty = refl

-- ---- 3 to 7, where 4 and 5 are asked together

decided : (a b c : Bool) (x : ℕ) (e : Refusal) → ◌≡◌ {A = ℕ} 0 (cond a 3 0) → number_of e ≡ cond b 4 (cond c 5 0) → number_of e ≡ cond a 3 (cond b 4 (cond c 5 x))
decided true b c x e z h = absurd (omega arith)
decided false true c x e z h = h
decided false false true x e z h = h
decided false false false x e z h = grind arith

passed : (a b c : Bool) (x n : ℕ) → ◌≡◌ {A = ℕ} 0 (cond a 3 0) → ◌≡◌ {A = ℕ} 0 (cond b 4 (cond c 5 0)) → n ≡ x → n ≡ cond a 3 (cond b 4 (cond c 5 x))
passed true b c x n z h q = absurd (omega arith)
passed false true c x n z h q = absurd (omega arith)
passed false false true x n z h q = absurd (omega arith)
passed false false false x n z h q = q

module _ (count processor : ℕ) (cpu : List ℕ) (memory random : ℕ) (z : ◌≡◌ {A = ℕ} 0 (first (test 3 (leb count processor) ∷ []))) where
  pub by_record : (e : Refusal) → number_of e ≡ first (record_tests cpu) → number_of e ≡ first (lent_tests count processor cpu memory random)
  by_record e h = decided (leb count processor) (not (eqb (length cpu) cpu_size)) (bad_record cpu) (first (length_tests memory random)) e z h

  pub past_record : (n : ℕ) → ◌≡◌ {A = ℕ} 0 (first (record_tests cpu)) → n ≡ first (length_tests memory random) → n ≡ first (lent_tests count processor cpu memory random)
  past_record n h q = passed (leb count processor) (not (eqb (length cpu) cpu_size)) (bad_record cpu) (first (length_tests memory random)) n z h q
