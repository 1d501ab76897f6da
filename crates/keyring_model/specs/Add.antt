-- Change request (iv): "Adding a label that is there replaces handle and kind at the first match; the kind follows the handle's size. Otherwise adding fills
-- the record of lowest index that is on no chain and puts it at the head of its chain. All other bytes stay, and after a refusal the whole block does."
-- Assumes nothing.
use Rattle.std.specs.Prelude.{Bool, cond, not, ◌&&◌, ◌||◌, List, ◌∷◌, ◌++◌, ℕ, zero, suc, ◌+◌, ◌-◌, ◌*◌, eqb, length, set}
use Rattle.std.proofs.Math.Option.{Option, none, some}
use Rattle.std.proofs.lemmas.List.Edits.{sets}
use Rattle.bits.specs.Words.{le_bytes}
use Rattle.keyring_model.specs.Records.{record_size, records, label_size, head_place, head_of, head_for, kind_place, handle_place, zero_filled}
use Rattle.keyring_model.specs.Chains.{reached, member}
use Rattle.keyring_model.specs.Validity.{valid}
use Rattle.keyring_model.specs.Lookup.{first_on_chain}

-- the lowest of n numbers from i on with which a test holds
unfoldable pub lowest : (ℕ → Bool) → ℕ → ℕ → Option ℕ
lowest p zero i = none
lowest p (suc n) i = cond (p i) (some i) (lowest p n (i + 1))

-- "the record of lowest index that is on no chain"
abbrev pub free : List ℕ → Option ℕ
free b = lowest (λ i. not (member i (reached b))) (records b - 1) 1

-- "the kind follows the handle's size"
abbrev pub kind_for : List ℕ → ℕ
kind_for h = cond (eqb (length h) 48) 0 1

-- "replaces handle and kind", those of record i
unfoldable pub put_handle : List ℕ → ℕ → List ℕ → List ℕ
put_handle b i h = sets (set b (kind_place i) (kind_for h)) (handle_place i) (zero_filled h)

-- a whole record
abbrev pub record_bytes : (next : ℕ) → List ℕ → List ℕ → List ℕ
record_bytes next l h = le_bytes 2 next ++ (kind_for h ∷ 0 ∷ l) ++ zero_filled h

-- record i filled, before what its chain had, and its index in the chain's head
unfoldable pub put_record : List ℕ → ℕ → List ℕ → List ℕ → List ℕ
put_record b i l h = sets (sets b (i * record_size) (record_bytes (head_of b (head_for l)) l h)) (head_place (head_for l)) (le_bytes 2 i)

-- 0 or the refusal's number, and the block
pub record Added : Type 0 where
  pub number : ℕ
  pub keyring : List ℕ

abbrev pub added : ℕ → List ℕ → Added
added number b = record { number = number; keyring = b }

-- "17 adding a new label, exactly when every record but 0 is on a chain"
abbrev pub added_new : List ℕ → List ℕ → List ℕ → Option ℕ → Added
added_new b l h none = added 17 b
added_new b l h (some i) = added 0 (put_record b i l h)

-- "a label that is there", or else a new one
abbrev pub added_at : List ℕ → List ℕ → List ℕ → Option ℕ → Added
added_at b l h none = added_new b l h (free b)
added_at b l h (some i) = added 0 (put_handle b i h)

-- "15 .. a label not of 12 bytes or a handle not of 48 or 64, checked first"
abbrev pub add_valid : List ℕ → List ℕ → List ℕ → Bool
add_valid b l h = valid b && eqb (length l) label_size && (eqb (length h) 48 || eqb (length h) 64)

unfoldable pub add : List ℕ → List ℕ → List ℕ → Added
add b l h = cond (add_valid b l h) (added_at b l h (first_on_chain b l)) (added 15 b)
