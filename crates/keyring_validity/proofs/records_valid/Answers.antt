-- Assumes nothing.
use Rattle.std.proofs.Common.{arith}
use Rattle.keyring_validity.proofs.Checking.{every_one_more, one_fails}
use Rattle.keyring_validity.proofs.records_valid.Goals as goal

pub loop-i-preserved : goal.loop-i-preserved
loop-i-preserved c =
    let l = c.loop-i in
    every_one_more c.args.keyring.now c.args.n l.i _ l.invariant c.record_valid.ensures (omega arith) c.if-not-record_valid.false

pub returns-then-not-record_valid : goal.returns-then-not-record_valid
returns-then-not-record_valid c =
    let l = c.loop-i in
    one_fails c.args.keyring.now c.args.n l.i _ l.invariant c.record_valid.ensures c.requires.1 (omega arith) (omega arith) c.if-not-record_valid.true
