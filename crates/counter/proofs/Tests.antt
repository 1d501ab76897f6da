-- The tests of a counter call, where 4 and 5 are asked together.
-- Assumes nothing.
use Rattle.std.proofs.Common.{◌≡◌, ◌∙◌, ℕ, Bool, true, false, cond, not, ◌∷◌, length, eqb, leb, refl, ap, sym, arith}
use Rattle.model.specs.Calls.{CounterCall}
use Rattle.model.specs.Cpu.{cpu_size, control, bad_record}
use Rattle.model.specs.Refusals.{View, test, first, bad_size}
use Rattle.refusal.specs.Numbers.{number_of}
use Rattle.refusal.specs.declared.Refusal.{Refusal}
use Rattle.refusals.specs.Parts.{record_tests, single_tests}
use Rattle.counter.specs.Meaning.{counter_tests}

decided : (b c : Bool) (x : ℕ) (e : Refusal) → number_of e ≡ cond b 4 (cond c 5 0) → number_of e ≡ cond b 4 (cond c 5 x)
decided true c x e h = h
decided false true x e h = h
decided false false x e h = grind arith

passed : (b c : Bool) (x : ℕ) → ◌≡◌ {A = ℕ} 0 (cond b 4 (cond c 5 0)) → x ≡ cond b 4 (cond c 5 x)
passed true c x h = absurd (omega arith)
passed false true x h = absurd (omega arith)
passed false false x h = refl

module _ (v : View) (c : CounterCall) (few : leb v.count c.processor ≡ false) where
  abbrev rest : ℕ
  rest = first (test 18 (bad_size c) ∷ single_tests v.features (control c.cpu))

  -- past 3
  past : (n : ℕ) → n ≡ cond (not (eqb (length c.cpu) cpu_size)) 4 (cond (bad_record c.cpu) 5 rest) → n ≡ first (counter_tests v c)
  past n h = h ∙ ap (λ (t : Bool). cond t 3 (cond (not (eqb (length c.cpu) cpu_size)) 4 (cond (bad_record c.cpu) 5 rest))) (sym few)

  pub by_record : (e : Refusal) → number_of e ≡ first (record_tests c.cpu) → number_of e ≡ first (counter_tests v c)
  by_record e h = past (number_of e) (decided (not (eqb (length c.cpu) cpu_size)) (bad_record c.cpu) rest e h)

  pub past_record : (n : ℕ) → ◌≡◌ {A = ℕ} 0 (first (record_tests c.cpu)) → n ≡ first (test 18 (bad_size c) ∷ single_tests v.features (control c.cpu))
      → n ≡ first (counter_tests v c)
  past_record n h q = past n (q ∙ passed (not (eqb (length c.cpu) cpu_size)) (bad_record c.cpu) rest h)
