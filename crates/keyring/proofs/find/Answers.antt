-- Assumes nothing.
use mathlib.Core.Path.{ap, ◌∙◌}
use Prim.Native.Nat.{ℕ, ◌-◌}
use native.Mathlib.Omega.{arith}
use Rattle.keyring_model.specs.Chains.{chain}
use Rattle.keyring_model.specs.Lookup.{first_with}
use Rattle.keyring_model.proofs.Facts.{Fields, fields, valid_fields}
use Rattle.keyring.proofs.Turns.{turned}
use Rattle.keyring.proofs.find.Goals as goal

pub chain-preserved : goal.chain-preserved
chain-preserved c =
    let b = c.args.keyring.now in
    let l = c.args.label.now in
    let o = c.chain in
    let f : Fields b = fields b (valid_fields b c.requires.0) in (
      omega (arith, c.index_at-i.ensures, f.next o.i (omega (arith, c.if-i-eq0.false)) (omega arith)),
      ap (λ (i : ℕ). first_with b l (chain (o.left - 1) b i)) c.index_at-i.ensures
          ∙ turned b l o.left o.i c.if-i-eq0.false c.if-left-eq0.false c.loop-j.j c.loop-j-test.true c.if-keyring-at.true
          ∙ o.invariant.1,
    )
