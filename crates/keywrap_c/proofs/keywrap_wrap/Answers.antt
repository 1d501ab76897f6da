use Rattle.std.proofs.Common.{◌∙◌, ◌*◌, take}
use Rattle.fips197.specs.Sizes.{nk}
use Rattle.handle.specs.Wrap.{wrap_key}
use Rattle.keywrap.specs.Meaning.{padded}
use Rattle.keywrap_c.proofs.keywrap_wrap.Goals as goal

pub returns : goal.returns
returns c =
    c.from-3.ensures
    ∙ c.wrap-wrapped.ensures
    ∙ (λ j. padded 64 (wrap_key c.args.integrity.now c.args.encryption.now (c.from.ensures j) (take (4 * nk (c.key_size.ensures j)) (c.from-2.ensures j))))
