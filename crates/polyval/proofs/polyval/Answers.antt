use Rattle.std.proofs.Common.{◌∙◌, ℕ, ap, arith}
use Rattle.rfc8452.specs.Field.{add, dot}
use Rattle.polyval.specs.Meaning.{num, first}
use Rattle.polyval.proofs.Folding.{block_more}
use Rattle.polyval.proofs.polyval.Goals as goal

pub loop-x-preserved : goal.loop-x-preserved
loop-x-preserved c =
    let h = first c.new-tables.result.low in
    let s = num c.loop-x.s in
    let new = c.dot-s.ensures ∙ ap (λ (a : ℕ). dot a h) (c.add.ensures ∙ ap (add s) c.from-in-loop-x-2.ensures) in
    block_more h c.loop-x.x-index s (num c.dot-s.result) c.as_chunks.result.0.now _ (omega arith) c.loop-x.invariant c.from-in-loop-x.ensures new
