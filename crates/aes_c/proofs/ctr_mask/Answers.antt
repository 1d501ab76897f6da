use Rattle.std.proofs.Common.{◌∙◌, List, ℕ, ap, ap₂}
use Rattle.fips197.specs.Sizes.{nr}
use Rattle.fips197.specs.declared.KeySize.{KeySize}
use Rattle.aes.specs.Meaning.{bytes_of, schedule}
use Rattle.aes_blocks.specs.TableCipher.{table_cipher}
use Rattle.sp800_38a.specs.Counter.{ctr}
use Rattle.ctr.proofs.Keyed.{masked_by}
use Rattle.aes_c.proofs.ctr_mask.Goals as goal

pub returns : goal.returns
returns c =
    let a = c.args in
    let t = c.new-tables.result in
    let w = c.expand-w.result in
    let masked : List ℕ → List ℕ → KeySize → List ℕ = λ m f size. ctr (table_cipher m f (schedule size w.words) (nr size)) (bytes_of a.c) a.bytes.now in
    c.mask.ensures
    ∙ ap₂ (λ (m f : List ℕ). masked m f w.size) c.plain.ensures.mixed c.plain.ensures.sbox
    ∙ ap (masked t.mixed.now t.sbox.now.table) c.expand-w.ensures.size
    ∙ masked_by t.mixed.now t.sbox.now.table t.mixed_is t.sbox.now.is_sbox a.size a.key.now w.words c.expand-w.ensures.words (bytes_of a.c) a.bytes.now
