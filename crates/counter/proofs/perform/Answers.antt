use mathlib.Core.Path.{◌≡◌, ◌∙◌, sym, ap}
use native.Mathlib.Omega.{arith}
use lib.ListN.{length}
use lib.Seq.{take_all}
use Rattle.isa.specs.Ranges.{handle_length}
use Rattle.aes.specs.Meaning.{bytes_of}
use Rattle.keywrap.specs.Meaning.{handle_bytes}
use Rattle.model.specs.Counter.{size_of}
use Rattle.counter.proofs.Buffers.{counted_as}
use Rattle.counter.proofs.perform.Goals as goal

pub returns : goal.returns
returns c =
    let a = c.args in
    let handle = a.handle.now in
    let size = c.size_of-size.result in
    let given : length handle ≡ handle_length (size_of handle) = c.requires.handle_len in
    let all : length handle ≡ handle_length size = given ∙ sym (ap handle_length c.size_of-size.ensures) in
    counted_as (record { processor = 0; cpu = a.cpu.now; handle = handle; counter = a.counter.now; buffer = a.buffer.now }) a.k.now size
    (handle_bytes size c.handle_at-h.result) (bytes_of c.block_at-c.result) c.cpl.result c.size_of-size.ensures
    (c.handle_at-h.ensures ∙ take_all (handle_length size) handle (omega arith)) (c.block_at-c.ensures ∙ take_all 16 a.counter.now (omega (arith, c.requires.counter_len)))
    c.cpl.ensures c.used_buffer-zf.ensures c.put_zf.ensures
