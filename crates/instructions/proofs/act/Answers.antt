use Rattle.std.proofs.Common.{ℕ, sym, ap, ◌∙◌}
use Rattle.isa.specs.declared.Instruction.{Instruction}
use Rattle.loadiwkey.specs.Meaning.{random_data}
use Rattle.model.specs.Forms.{form_of, single, wide}
use Rattle.model.specs.Instructions.{Executed, execute}
use Rattle.instructions.proofs.act.Goals as goal

pub single-requires : goal.single-requires
single-requires c = c.requires (single c.in-Use.u) (ap form_of c.in-Use.is)

pub wide-requires : goal.wide-requires
wide-requires c = c.requires (wide c.in-WideUse.u) (ap form_of c.in-WideUse.is)

pub returns-in-Use : goal.returns-in-Use
returns-in-Use c =
    let did : ℕ → Instruction → Executed = (λ bytes i. execute c.args.memory.now (random_data c.args.random) i bytes c.args.k.now c.args.cpu.now) in
    λ bytes h. (λ j. record { key = c.args.k.now; cpu = c.single.ensures bytes (h (single c.in-Use.u) (ap form_of c.in-Use.is)) j }) ∙ ap (did bytes) (sym c.in-Use.is)

pub returns-in-WideUse : goal.returns-in-WideUse
returns-in-WideUse c =
    let did : ℕ → Instruction → Executed = (λ bytes i. execute c.args.memory.now (random_data c.args.random) i bytes c.args.k.now c.args.cpu.now) in
    λ bytes h. (λ j. record { key = c.args.k.now; cpu = c.wide.ensures bytes (h (wide c.in-WideUse.u) (ap form_of c.in-WideUse.is)) j }) ∙ ap (did bytes) (sym c.in-WideUse.is)
