use Rattle.std.proofs.Common.{◌≡◌, ◌∙◌, ◌+◌, ◌*◌, take, refl, arith, rules}
use lib.ListN.{length-set}
use lib.Seq.{drop-set-lt}
use Rattle.bits.specs.Words.{le_words}
use Rattle.fips197.specs.KeyExpansion.{key_expansion}
use Rattle.aes_key.proofs.Expansion.{expanded-none, expands}
use Rattle.aes_key.proofs.fill.Goals as goal

pub loop-i-init : goal.loop-i-init
loop-i-init g c = record { size = search rules; words = expanded-none g.row.NK (le_words 4 (take g.row.NK c.args.w.now)); rest = refl }

pub loop-i-preserved : goal.loop-i-preserved
loop-i-preserved g c =
    let inv = c.loop-i.invariant in
    let n = g.row.NK in
    let w = c.loop-i.w in
    let i = c.loop-i.i in
    record {
      size = length-set w i c.next_word.result ∙ inv.size;
      words = expands n i (le_words 4 (take n c.args.w.now)) w c.next_word.result (grind arith) (omega arith) (omega arith) inv.words c.next_word.ensures;
      rest = drop-set-lt (4 * (n + 7)) w i c.next_word.result (omega arith) ∙ inv.rest;
    }

pub returns-clause-filled : goal.returns-clause-filled
unfolding key_expansion
returns-clause-filled g c =
    let e : c.loop-i.i ≡ 4 * (g.row.NK + 7) = omega (arith, c.loop-i.auto.i-end (omega arith)) in
    rw (← e) c.loop-i.invariant.words
