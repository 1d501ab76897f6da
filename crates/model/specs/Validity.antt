-- The scope, "Turned back" 1: what is asked of a machine record, and no more than that.
-- Assumes nothing.
use Rattle.std.specs.Prelude.{Bool, true, cond, ◌&&◌, List, [], ◌∷◌, ℕ, suc, eqb, leb, ltb}
use Rattle.model.specs.Numbers.{all_zero}
use Rattle.model.specs.Records.{processor_limit}
use Rattle.model.specs.declared.IwKey.{IwKey}
use Rattle.model.specs.declared.Processor.{Processor}
use Rattle.model.specs.declared.Slot.{Slot}
use Rattle.model.specs.declared.Platform.{Platform}
use Rattle.model.specs.declared.Machine.{Machine}

-- "count outside 1 to 16"
abbrev pub valid_count : ℕ → Bool
valid_count n = leb 1 n && leb n processor_limit

-- "feature bit 6 or 7 set"
abbrev pub valid_features : ℕ → Bool
valid_features features = ltb features 64

-- "a stored key source or flag above 1"
abbrev pub flag : ℕ → Bool
flag b = ltb b 2

abbrev pub valid_key : IwKey → Bool
valid_key k = flag k.source && flag k.no_backup

abbrev pub is_zero_key : IwKey → Bool
is_zero_key k = all_zero k.integrity && all_zero k.encryption && eqb k.source 0 && eqb k.no_backup 0

-- "something other than zero in an entry past the count"
abbrev pub valid_processor : Bool → Processor → Bool
valid_processor below e = cond below (valid_key e.key && flag e.copy_status) (is_zero_key e.key && eqb e.copy_status 0)

-- the processors from number i on
unfoldable pub valid_processors : ℕ → ℕ → List Processor → Bool
valid_processors count i [] = true
valid_processors count i (e ∷ l) = valid_processor (ltb i count) e && valid_processors count (suc i) l

-- "or an absent IWKey"
abbrev pub valid_slot : Slot → Bool
valid_slot s = flag s.present && cond (eqb s.present 1) (valid_key s.key) (is_zero_key s.key)

abbrev pub valid_platform : Platform → Bool
valid_platform f =
    valid_slot f.backup && valid_slot f.store && flag f.pending && flag f.valid && flag f.error && flag f.consumed

unfoldable pub valid : Machine → Bool
valid m =
    valid_count m.count && valid_features m.features && valid_processors m.count 0 m.processors && valid_platform m.platform
