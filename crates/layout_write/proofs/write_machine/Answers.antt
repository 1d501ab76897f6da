use borrow.Author.Rules.{rules}
use Rattle.layout_write.proofs.Write.{machine_written}
use Rattle.layout_write.proofs.write_machine.Goals as goal

pub returns : goal.returns
returns c =
    let e = c.put_entries.ensures in
    let f = c.put_platform.ensures in
    machine_written c.args.block.now c.args.m.now (search rules) e.size f.size e.bytes f.bytes
