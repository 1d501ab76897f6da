-- Assumes nothing.
use Rattle.std.proofs.Common.{◌∙◌, sym}
use Rattle.fips197.specs.declared.Direction.TheVariants.{Encrypt}
use Rattle.aes.specs.Meaning.{bytes_of}
use Rattle.sp800_38a.specs.Counter.{ctr}
use Rattle.model.specs.Instructions.{aes}
use Rattle.aeskl.proofs.Openings.{illegal_used, none_used, key_used}
use Rattle.counter.proofs.Buffers.{keyed}
use Rattle.counter.proofs.used_buffer.Goals as goal

pub returns-then-illegal : goal.returns-then-illegal
returns-then-illegal c =
    let a = c.args in
    illegal_used a.k.now a.cpl a.size Encrypt a.h.now (λ key. ctr (aes Encrypt a.size key) (bytes_of a.c)) a.buffer.now (sym c.illegal.ensures ∙ c.if-illegal.true)

pub returns-in_default : goal.returns-in_default
returns-in_default c =
    let a = c.args in
    none_used a.k.now a.cpl a.size Encrypt a.h.now (λ key. ctr (aes Encrypt a.size key) (bytes_of a.c)) a.buffer.now
    (sym c.illegal.ensures ∙ c.if-illegal.false) c.in_default.is c.unwrap.ensures

pub returns : goal.returns
returns c =
    let a = c.args in
    key_used a.k.now a.cpl a.size Encrypt a.h.now (λ key. ctr (aes Encrypt a.size key) (bytes_of a.c)) a.buffer.now c.in-Some.key
    (sym c.illegal.ensures ∙ c.if-illegal.false) c.in-Some.is c.unwrap.ensures
    (c.mask.ensures
    ∙ keyed c.plain.ensures.mixed c.plain.ensures.sbox c.new-tables.result.mixed_is c.new-tables.result.sbox.now.is_sbox c.expand-w.ensures.size
    c.in-Some.key _ c.expand-w.ensures.words (bytes_of a.c) a.buffer.now)
