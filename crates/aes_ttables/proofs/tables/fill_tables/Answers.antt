use Rattle.std.proofs.Common.{◌∙◌, arith}
use Rattle.aes_ttables.proofs.Columns.{filled_tables}
use Rattle.aes_ttables.proofs.tables.fill_tables.Goals as goal

pub returns : goal.returns
returns c =
    filled_tables c.args.table.now c.turn_tables.new.tables
    (λ k h. c.turn_tables.ensures.first k h ∙ c.put_table.ensures k h)
    (λ k h. c.turn_tables.ensures.others k (omega arith))
