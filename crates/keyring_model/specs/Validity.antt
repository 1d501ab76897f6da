-- Change request (iv), refusal 15 of a block: "a wrong size, a head or any record's next index past the end, a record reached twice, a record 0 whose tail isn't zero, a kind or
-- zero byte otherwise in any record".
-- Assumes nothing.
use Rattle.std.specs.Prelude.{Bool, true, ◌&&◌, List, ℕ, zero, suc, ◌+◌, ◌-◌, ◌%◌, eqb, ltb, leb, length, get_or}
use Rattle.keyring_model.specs.Records.{record_size, keyring_limit, records, heads, heads_size, head_of, next_of, kind_of, zero_of}
use Rattle.keyring_model.specs.Chains.{reached, distinct}

-- a test that holds of every number below n
unfoldable pub every : ℕ → (ℕ → Bool) → Bool
every zero p = true
every (suc n) p = every n p && p n

-- "at most 65,520 bytes, a multiple of 80 and at least 80"
abbrev pub size_valid : List ℕ → Bool
size_valid b = leb record_size (length b) && leb (length b) keyring_limit && eqb (length b % record_size) 0

-- no head is "past the end": an index is below the number of records
abbrev pub heads_inside : List ℕ → Bool
heads_inside b = every heads (λ k. ltb (head_of b k) (records b))

-- no "record 0 whose tail isn't zero": its bytes behind the heads
abbrev pub tail_zero : List ℕ → Bool
tail_zero b = every (record_size - heads_size) (λ j. eqb (get_or b (heads_size + j) 0) 0)

-- no "next index past the end", no "kind or zero byte otherwise"
abbrev pub record_valid : List ℕ → ℕ → Bool
record_valid b i = ltb (next_of b i) (records b) && ltb (kind_of b i) 2 && eqb (zero_of b i) 0

-- "any record": record 1 and all behind it, on a chain or not
abbrev pub records_valid : List ℕ → Bool
records_valid b = every (records b - 1) (λ i. record_valid b (i + 1))

-- all of it but the chains
abbrev pub fields_valid : List ℕ → Bool
fields_valid b = size_valid b && heads_inside b && tail_zero b && records_valid b

-- and no "record reached twice", on one chain or on two
unfoldable pub valid : List ℕ → Bool
valid b = fields_valid b && distinct (reached b)
