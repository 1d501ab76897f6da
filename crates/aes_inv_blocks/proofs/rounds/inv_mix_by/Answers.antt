use Rattle.std.proofs.Common.{◌≡◌, ◌∙◌, ℕ}
use Rattle.bits.proofs.Lists.{four}
use Rattle.fips197.specs.Cipher.{mix_by}
use Rattle.fips197.specs.InvCipher.{inv_mix_row, inv_mix_columns}
use Rattle.aes.specs.Columns.{mixed, diagonal}
use Rattle.aes_blocks.specs.TableCipher.{table_column}
use Rattle.aes_blocks.proofs.Columns.{diagonal_by}
use Rattle.aes_inv_blocks.proofs.rounds.inv_mix_by.Goals as goal

pub returns : goal.returns
unfolding mixed inv_mix_columns mix_by
returns c rule =
    let s = c.args.s in
    let by : (x : ℕ) → table_column c.args.products.now (diagonal (λ y. y) x x x x) ≡ mixed inv_mix_row (diagonal (λ y. y) x x x x) =
    λ x. diagonal_by inv_mix_row (λ y. y) c.args.products.now rule x x x x in
    four (c.table_column.ensures ∙ by s.a) (c.table_column-2.ensures ∙ by s.b) (c.table_column-3.ensures ∙ by s.c)
    (c.table_column-4.ensures ∙ by s.d)
