use Rattle.std.proofs.Common.{◌∙◌, [], ◌∷◌, sym}
use Rattle.layout.proofs.Read.{all_placed}
use Rattle.layout.proofs.entries.Goals as goal

pub returns : goal.returns
returns c = (λ j. c.entry_number.ensures j ∷ c.entry_number-2.ensures j ∷ c.entry_number-3.ensures j ∷ c.entry_number-4.ensures j ∷ c.entry_number-5.ensures j ∷ c.entry_number-6.ensures j ∷ c.entry_number-7.ensures j ∷ c.entry_number-8.ensures j ∷ c.entry_number-9.ensures j ∷ c.entry_number-10.ensures j ∷ c.entry_number-11.ensures j ∷ c.entry_number-12.ensures j ∷ c.entry_number-13.ensures j ∷ c.entry_number-14.ensures j ∷ c.entry_number-15.ensures j ∷ c.entry_number-16.ensures j ∷ []) ∙ sym (all_placed c.args.block.now)
