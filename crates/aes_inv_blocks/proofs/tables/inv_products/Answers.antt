use mathlib.Core.Path.{refl, ◌∙◌}
use lib.Dec.{lit<}
use Rattle.fips197.specs.InvCipher.{inv_mix_row}
use Rattle.aes_inv_blocks.proofs.Products.{first_part, no_products}
use Rattle.aes_inv_blocks.proofs.tables.inv_products.Goals as goal

pub returns : goal.returns
returns c =
    let p0 = no_products inv_mix_row c.args.products.now c.requires in
    let p1 = c.double_products.ensures inv_mix_row 0 refl (c.inv_mix_column.ensures ∙ first_part inv_mix_row 1 (lit< tt)) p0 in
    let p2 = c.double_products-2.ensures inv_mix_row 1 refl (c.inv_mix_column-2.ensures ∙ first_part inv_mix_row 2 (lit< tt)) p1 in
    let p3 = c.double_products-3.ensures inv_mix_row 2 refl (c.inv_mix_column-3.ensures ∙ first_part inv_mix_row 4 (lit< tt)) p2 in
    let p4 = c.double_products-4.ensures inv_mix_row 3 refl (c.inv_mix_column-4.ensures ∙ first_part inv_mix_row 8 (lit< tt)) p3 in
    let p5 = c.double_products-5.ensures inv_mix_row 4 refl (c.inv_mix_column-5.ensures ∙ first_part inv_mix_row 16 (lit< tt)) p4 in
    let p6 = c.double_products-6.ensures inv_mix_row 5 refl (c.inv_mix_column-6.ensures ∙ first_part inv_mix_row 32 (lit< tt)) p5 in
    let p7 = c.double_products-7.ensures inv_mix_row 6 refl (c.inv_mix_column-7.ensures ∙ first_part inv_mix_row 64 (lit< tt)) p6 in
    c.double_products-8.ensures inv_mix_row 7 refl (c.inv_mix_column-8.ensures ∙ first_part inv_mix_row 128 (lit< tt)) p7
