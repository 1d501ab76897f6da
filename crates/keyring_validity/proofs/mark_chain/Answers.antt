-- Assumes nothing.
use mathlib.Core.Path.{◌≡◌, sym, ap, ◌∙◌}
use Prim.Native.Nat.{ℕ, ◌+◌, ◌-◌}
use native.Mathlib.Omega.{arith}
use lib.ListN.{set}
use lib.Seq.{get_or-set_other}
use Rattle.keyring_model.specs.Chains.{chain}
use Rattle.keyring_model.proofs.Facts.{Fields, fields}
use Rattle.keyring_validity.specs.Marks.{marked}
use Rattle.keyring_validity.proofs.Marking.{one_more, not_end}
use Rattle.keyring_validity.proofs.mark_chain.Goals as goal

pub loop-preserved : goal.loop-preserved
loop-preserved c =
    let b = c.args.keyring.now in
    let l = c.loop in
    let f : Fields b = fields b c.requires.0 in
    let there : l.i ≡ 0 → ⊥ = not_end l.marks l.i l.invariant.1 c.if-marks-i-ne0.false in
    let left : c.args.n - (l.counter + 1) ≡ c.args.n - l.counter - 1 = omega arith in (
      omega (arith, c.index_at-i.ensures, f.next l.i (omega (arith, there)) (omega arith)),
      get_or-set_other l.marks l.i 0 1 0 (λ p. there (sym p)) ∙ l.invariant.1,
      ap (λ (n : ℕ). marked (set l.marks l.i 1) (chain n b c.index_at-i.result)) left
          ∙ ap (λ (i : ℕ). marked (set l.marks l.i 1) (chain (c.args.n - l.counter - 1) b i)) c.index_at-i.ensures
          ∙ one_more b l.marks (c.args.n - l.counter) l.i (omega arith) there c.if-marks-i-ne0.false
          ∙ l.invariant.2,
    )
