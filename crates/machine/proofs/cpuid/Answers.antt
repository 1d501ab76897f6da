use Rattle.std.proofs.Common.{◌∙◌, ℕ, sym, ap}
use Rattle.model.specs.Cpu.{control}
use Rattle.cpuid_model.specs.Leaves.{cpuid}
use Rattle.cpuid_model.specs.declared.Leaf.{Leaf}
use Rattle.cpuid_model.specs.Calls.{CpuidCall, Identified}
use Rattle.machine.proofs.Calls.{identified}
use Rattle.machine.proofs.cpuid.Goals as goal

pub returns-clause-number : goal.returns-clause-number
returns-clause-number c =
    let a = c.args in
    let call : CpuidCall = record { cpu = a.cpu.now; leaf = a.leaf; subleaf = a.subleaf } in
    sym (ap (λ (i : Identified). i.number) (identified a.m.now c.in_ok-ask_valid.ensures call c.in_ok-cpu.ensures.number))

pub returns-clause-registers : goal.returns-clause-registers
returns-clause-registers c =
    let a = c.args in
    let call : CpuidCall = record { cpu = a.cpu.now; leaf = a.leaf; subleaf = a.subleaf } in
    let from : ℕ → Leaf = λ k. cpuid a.m.now.features k a.leaf a.subleaf in
    c.registers.ensures ∙ ap from (c.control.ensures ∙ ap control c.in_ok-cpu.ensures.record)
    ∙ sym (ap (λ (i : Identified). i.registers) (identified a.m.now c.in_ok-ask_valid.ensures call c.in_ok-cpu.ensures.number))
