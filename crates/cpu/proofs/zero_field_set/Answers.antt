use Rattle.std.proofs.Common.{◌≡◌, ◌∙◌, ◌||◌, not, Bool, length, sym, ap, rules}
use Rattle.std.proofs.lemmas.Bool.{lt-leb}
use Rattle.model.specs.Cpu.{control, zeros_at}
use Rattle.model.specs.Numbers.{all_zero, part}
use Rattle.cpu.proofs.Zeros.{zero_bytes}
use Rattle.cpu.proofs.zero_field_set.Goals as goal

pub returns-else-cpu-ge16 : goal.returns-else-cpu-ge16
returns-else-cpu-ge16 c =
    let size : length c.part.result ≡ 6 = search rules in
    let zeros = c.ne.ensures ∙ ap not (zero_bytes 6 c.part.result size ∙ ap all_zero c.part.ensures) in
    zeros ∙ ap (λ (b : Bool). b || not (all_zero (part 6 zeros_at c.args.cpu.now))) (sym (lt-leb 16 (control c.args.cpu.now) c.if-cpu-ge16.false))
