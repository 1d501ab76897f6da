-- Assumes nothing.
use Rattle.std.specs.Prelude.{Ok, Err}
use Rattle.cpuid_model.specs.Calls.{CpuidCall}
use Rattle.cpuid_model.specs.declared.Leaf.{Leaf}
use Rattle.keylocker.proofs.Finishing.{cpuid_called}
use borrow.Author.Rules.{rules}
use Rattle.keylocker.proofs.keylocker_cpuid.Goals as goal

pub returns-in-Ok : goal.returns-in-Ok
returns-in-Ok c =
    let a = c.args in
    let asked : CpuidCall = record { cpu = a.cpu.now; leaf = a.leaf; subleaf = a.subleaf } in
    let lent : Leaf = record { eax = a.eax.now; ebx = a.ebx.now; ecx = a.ecx.now; edx = a.edx.now } in
    cpuid_called a.machine.now asked lent _ (Ok c.in-Ok.registers) (search rules) (search rules) c.in-Ok.ensures.number c.in-Ok.ensures.registers

pub returns-in-Err : goal.returns-in-Err
returns-in-Err c =
    let a = c.args in
    let asked : CpuidCall = record { cpu = a.cpu.now; leaf = a.leaf; subleaf = a.subleaf } in
    let lent : Leaf = record { eax = a.eax.now; ebx = a.ebx.now; ecx = a.ecx.now; edx = a.edx.now } in
    rw c.refused-in-Err.ensures (cpuid_called a.machine.now asked lent _ (Err c.in-Err.unidentified) (search rules) (search rules) c.in-Err.ensures.number c.in-Err.ensures.registers)
