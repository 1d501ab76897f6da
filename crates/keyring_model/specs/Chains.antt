-- Change request (iv): the chains of a keyring, and the records on them.
-- Assumes nothing.
use Rattle.std.specs.Prelude.{Bool, true, false, cond, not, ◌&&◌, ◌||◌, List, [], ◌∷◌, ◌++◌, ℕ, zero, suc, eqb}
use Rattle.keyring_model.specs.Records.{records, heads, head_of, next_of}

-- the records from i on, at most n of them: "Zero ends the chain."
unfoldable pub chain : ℕ → List ℕ → ℕ → List ℕ
chain zero b i = []
chain (suc n) b i = cond (eqb i 0) [] (i ∷ chain n b (next_of b i))

-- the chain of head k; proofs/Fuel.antt: in a valid keyring none is cut off
abbrev pub chain_of : List ℕ → ℕ → List ℕ
chain_of b k = chain (records b) b (head_of b k)

-- the records that the first k heads reach, chain by chain
unfoldable pub reached_from : ℕ → List ℕ → List ℕ
reached_from zero b = []
reached_from (suc k) b = reached_from k b ++ chain_of b k

-- every record on a chain, as often as a head reaches it
abbrev pub reached : List ℕ → List ℕ
reached b = reached_from heads b

-- whether a number stands in the list
unfoldable pub member : ℕ → List ℕ → Bool
member i [] = false
member i (j ∷ l) = eqb i j || member i l

-- no number stands in the list twice
unfoldable pub distinct : List ℕ → Bool
distinct [] = true
distinct (i ∷ l) = not (member i l) && distinct l
