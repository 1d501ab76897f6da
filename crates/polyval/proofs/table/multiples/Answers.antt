use Rattle.std.proofs.Common.{◌≡◌, ◌∙◌, ◌+◌, ◌*◌, ℕ, length, sym, ap, subst, rules, arith}
use Rattle.std.proofs.Math.ListN.{set, length-set}
use Rattle.rfc8452.specs.Field.{add, times_x, multiply}
use Rattle.polyval.specs.Meaning.{num}
use Rattle.polyval.proofs.Halves.{halves_lt}
use Rattle.polyval.proofs.Windows.{Below, one_more, even, odd}
use Rattle.polyval.proofs.table.multiples.Goals as goal

pub loop-i-preserved : goal.loop-i-preserved
loop-i-preserved c =
    let h = c.args.h in
    let i = c.loop-i.i in
    let t = c.loop-i.table in
    let small = halves_lt h.hi h.lo (search rules) (search rules) in
    let size = c.loop-i.invariant.size in
    let old = c.loop-i.invariant.below in
    let even_is : num c.times_x-even.result ≡ multiply (num h) (2 * i) =
    c.times_x-even.ensures ∙ ap times_x (old i (omega arith)) ∙ sym (even (num h) i small (omega arith)) in
    let odd_is : num c.add.result ≡ multiply (num h) (2 * i + 1) =
    c.add.ensures ∙ ap (λ (n : ℕ). add n (num h)) even_is ∙ sym (odd (num h) i small) in
    let more = one_more (num h) (2 * i) t c.times_x-even.result (omega arith) old even_is in
    let t2 = set t (2 * i) c.times_x-even.result in
    let size2 : length t2 ≡ 16 = length-set t (2 * i) c.times_x-even.result ∙ size in
    let all : 2 * i + 1 + 1 ≡ 2 * (i + 1) = omega arith in
    record {
      size = length-set t2 (2 * i + 1) c.add.result ∙ size2;
      below = subst (λ (n : ℕ). Below (num h) n (set t2 (2 * i + 1) c.add.result)) all (one_more (num h) (2 * i + 1) t2 c.add.result (omega (arith, size2)) more odd_is);
    }
