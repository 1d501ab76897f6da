use Rattle.std.proofs.Common.{◌≡◌, ◌∙◌, ◌/◌, cond, List, ℕ, length, ap, rules}
use Rattle.std.proofs.Math.Option.{Option}
use Rattle.bits.specs.Blocks.{map_blocks}
use Rattle.keywrap.specs.Meaning.{handle_bytes}
use Rattle.model.specs.Cpu.{cpl, with_zf, with_xmm}
use Rattle.model.specs.Instructions.{aes, opened_for}
use Rattle.aeskl.specs.Meaning.{used, used_by}
use Rattle.aeskl.proofs.Registers.{single_left}
use Rattle.aeskl.proofs.use_single.Goals as goal

pub returns : goal.returns
returns c =
    let a = c.args in
    let cpu = a.cpu.now in
    let block = c.into-block.result in
    let size : length block ≡ 16 = search rules in
    let f : List ℕ → List ℕ → List ℕ = λ key. map_blocks (aes a.direction a.size key) (length block / 16) in
    let opened : ℕ → Option (List ℕ) = λ l. opened_for a.k.now l a.size a.direction (handle_bytes a.size a.h.now) in
    let u = used c.use_blocks-zf.result c.use_blocks-zf.new.blocks in
    c.put_zf.ensures
    ∙ ap (with_zf (cond u.zf 1 0)) (c.put_xmm.ensures ∙ ap (λ (b : List ℕ). with_xmm a.n b cpu) c.into.ensures)
    ∙ single_left a.direction a.size cpu c.told-cpu a.n (opened (cpl cpu)) u block size (c.into-block.ensures ∙ c.xmm.ensures)
    (c.use_blocks-zf.ensures ∙ ap (λ (l : ℕ). used_by f (opened l) block) c.cpl.ensures)
