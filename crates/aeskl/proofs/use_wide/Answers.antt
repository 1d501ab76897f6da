use Rattle.std.proofs.Common.{◌∙◌, ◌/◌, List, ℕ, length, take, ap}
use Rattle.std.proofs.Math.Option.{Option}
use Rattle.bits.specs.Blocks.{map_blocks}
use Rattle.keywrap.specs.Meaning.{handle_bytes}
use Rattle.model.specs.Cpu.{cpl}
use Rattle.model.specs.Instructions.{aes, opened_for}
use Rattle.aeskl.specs.Meaning.{used, used_by}
use Rattle.aeskl.proofs.Registers.{wide_left}
use Rattle.aeskl.proofs.use_wide.Goals as goal

pub returns : goal.returns
returns c =
    let a = c.args in
    let cpu = a.cpu.now in
    let f : List ℕ → List ℕ → List ℕ = λ key. map_blocks (aes a.direction a.size key) (length (take 128 cpu) / 16) in
    let opened : ℕ → Option (List ℕ) = λ l. opened_for a.k.now l a.size a.direction (handle_bytes a.size a.h.now) in
    let u = used c.use_blocks-zf.result c.use_blocks-zf.new.blocks in
    c.put_zf.ensures
    ∙ wide_left a.direction a.size cpu c.told-cpu (opened (cpl cpu)) u
    (c.use_blocks-zf.ensures ∙ ap (λ (l : ℕ). used_by f (opened l) (take 128 cpu)) c.cpl-cpl.ensures)
