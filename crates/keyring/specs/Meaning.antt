-- What the answers by value mean, in the words of the definitions.
-- Assumes nothing.
use Rattle.std.specs.Prelude.{Bool, List, ℕ, ◌||◌, eqb, get_or, Option, Some, None, Result, Ok, Err}
use Rattle.std.proofs.Math.Option as maybe
use Rattle.keyring_model.specs.Records.{zero_filled}
use Rattle.keyring_model.specs.Lookup as lookups
use Rattle.keyring_model.specs.Add.{kind_for}
use Rattle.refusal.specs.declared.Refusal.{Refusal}
use Rattle.refusal.specs.Numbers.{number_of}
use Rattle.keyring.specs.declared.Entry.{Entry}

-- the record found
abbrev pub found_of : Option ℕ → maybe.Option ℕ
found_of (Some i) = maybe.some i
found_of None = maybe.none

-- what a lookup answers; where it is refused, the definition has kind 0 and a handle of zeros
abbrev pub looked_of : Result Entry Refusal → lookups.Looked
looked_of (Ok e) = record { number = 0; kind = e.kind; handle = e.handle }
looked_of (Err why) = lookups.unfound (number_of why)

-- what is kept of a handle
abbrev pub entry_of : List ℕ → Entry
entry_of h = record { kind = kind_for h; handle = zero_filled h }

abbrev pub is_handle_size : ℕ → Bool
is_handle_size n = eqb n 48 || eqb n 64

-- whether an index is not marked
abbrev pub unmarked : List ℕ → ℕ → Bool
unmarked m i = eqb (get_or m i 0) 0
