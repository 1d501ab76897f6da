-- Worked cases: a block, a label and a handle, with the whole answer of a lookup and of adding. The blocks are written by no definition under test.
-- Assumes nothing.
use mathlib.Core.Path.{◌≡◌, refl}
use mathlib.Core.List.{List, [], ◌∷◌, ◌++◌}
use Prim.Native.Nat.{ℕ, ◌-◌}
use lib.ListN.{length, replicate}
use Rattle.keyring_model.specs.Chains.{chain, reached_from, member, distinct}
use Rattle.keyring_model.specs.Validity.{every, valid}
use Rattle.keyring_model.specs.Lookup.{first_with, Looked, lookup}
use Rattle.keyring_model.specs.Add.{lowest, put_handle, put_record, Added, add}

pub record Case : Type 0 where
  pub block : List ℕ
  pub label : List ℕ
  pub handle : List ℕ
  pub looked : Looked
  pub added : Added

abbrev case : (block label handle : List ℕ) → Looked → Added → Case
case block label handle looked added = record { block = block; label = label; handle = handle; looked = looked; added = added }

-- ---- blocks

-- zeros behind what is there
abbrev filled : ℕ → List ℕ → List ℕ
filled n l = l ++ replicate (n - length l) 0

-- record 0, by the low bytes of its first heads
abbrev top : List ℕ → List ℕ
top [] = []
top (i ∷ l) = i ∷ 0 ∷ top l

abbrev heads : List ℕ → List ℕ
heads l = filled 80 (top l)

abbrev slot : (next kind : ℕ) → (label handle : List ℕ) → List ℕ
slot next kind label handle = next ∷ 0 ∷ kind ∷ 0 ∷ label ++ filled 64 handle

-- labels and handles
abbrev name : (first last : ℕ) → List ℕ
name first last = first ∷ replicate 10 5 ++ last ∷ []

abbrev short : ℕ → List ℕ
short v = replicate 48 v

abbrev long : ℕ → List ℕ
long v = replicate 64 v

-- one label, and two of one head; no record is left over
abbrev single : List ℕ
single = heads (1 ∷ []) ++ slot 0 0 (name 0 1) (short 7)

abbrev full : List ℕ
full = heads (1 ∷ []) ++ slot 2 1 (name 0 1) (long 7) ++ slot 0 0 (name 0 2) (short 8)

-- ---- answers

abbrev found : (kind : ℕ) → List ℕ → Looked
found kind handle = record { number = 0; kind = kind; handle = filled 64 handle }

abbrev unfound : ℕ → Looked
unfound number = record { number = number; kind = 0; handle = replicate 64 0 }

abbrev added : (number : ℕ) → List ℕ → Added
added number block = record { number = number; keyring = block }

-- neither is done
abbrev refuses : List ℕ → Case
refuses block = case block (name 0 1) (short 7) (unfound 15) (added 15 block)

abbrev pub cases : List Case
cases =
    -- record 0 alone
    case (heads []) (name 0 1) (short 7) (unfound 16) (added 17 (heads []))
    -- an unused record, its next index itself and its other bytes left over: not found, and filled over completely
    ∷ case (heads [] ++ slot 1 1 (name 0x21 1) (long 9)) (name 0x21 1) (short 7) (unfound 16)
    (added 0 (heads (0 ∷ 1 ∷ []) ++ slot 0 0 (name 0x21 1) (short 7)))
    -- the lowest free record, zeros or not, before what its chain had
    ∷ case (heads (2 ∷ []) ++ slot 0 0 (name 7 7) (long 9) ++ slot 0 0 (name 0 1) (short 7) ++ replicate 80 0) (name 0 2) (long 8) (unfound 16)
    (added 0 (heads (1 ∷ []) ++ slot 2 1 (name 0 2) (long 8) ++ slot 0 0 (name 0 1) (short 7) ++ replicate 80 0))
    -- all records used: 64 bytes replaced by 48, with the next index kept; 48 by 64 behind a label that differs in its last byte; a new label
    ∷ case full (name 0 1) (short 6) (found 1 (long 7))
    (added 0 (heads (1 ∷ []) ++ slot 2 0 (name 0 1) (short 6) ++ slot 0 0 (name 0 2) (short 8)))
    ∷ case full (name 0 2) (long 6) (found 0 (short 8))
    (added 0 (heads (1 ∷ []) ++ slot 2 1 (name 0 1) (long 7) ++ slot 0 1 (name 0 2) (long 6)))
    ∷ case full (name 0 3) (long 6) (unfound 16) (added 17 full)
    -- a kind 0 with bytes behind its 48: the lookup gives zeros
    ∷ case (heads (1 ∷ []) ++ slot 0 0 (name 0 1) (long 7)) (name 0 1) (short 6) (found 0 (short 7))
    (added 0 (heads (1 ∷ []) ++ slot 0 0 (name 0 1) (short 6)))
    -- a label on another head's chain
    ∷ case (heads (1 ∷ []) ++ slot 0 0 (name 1 1) (short 7) ++ replicate 80 0) (name 1 1) (short 6) (unfound 16)
    (added 0 (heads (1 ∷ 2 ∷ []) ++ slot 0 0 (name 1 1) (short 7) ++ slot 0 0 (name 1 1) (short 6)))
    -- a label twice on its chain: the first in the chain's order
    ∷ case (heads (2 ∷ []) ++ slot 0 0 (name 0 1) (short 7) ++ slot 1 0 (name 0 1) (short 8)) (name 0 1) (short 6) (found 0 (short 8))
    (added 0 (heads (2 ∷ []) ++ slot 0 0 (name 0 1) (short 7) ++ slot 1 0 (name 0 1) (short 6)))
    -- a label of 11 bytes; a handle of 49
    ∷ case single (replicate 11 0) (short 7) (unfound 15) (added 15 single)
    ∷ case single (name 0 1) (replicate 49 6) (found 0 (short 7)) (added 15 single)
    -- wrong sizes
    ∷ refuses []
    ∷ refuses (heads [] ++ 0 ∷ [])
    -- equal heads, a chain into another, a chain into itself
    ∷ refuses (heads (1 ∷ 1 ∷ []) ++ slot 0 0 (name 0 1) (short 7))
    ∷ refuses (heads (1 ∷ 2 ∷ []) ++ slot 0 0 (name 0 1) (short 7) ++ slot 1 0 (name 1 1) (short 7))
    ∷ refuses (heads (1 ∷ []) ++ slot 1 0 (name 0 1) (short 7))
    -- a head past the end, by its low byte and by its high byte; a next index past the end on a chain and off
    ∷ refuses (heads (2 ∷ []) ++ replicate 80 0)
    ∷ refuses (filled 160 (0 ∷ 1 ∷ []))
    ∷ refuses (heads (1 ∷ []) ++ slot 2 0 (name 0 1) (short 7))
    ∷ refuses (heads (1 ∷ []) ++ slot 0 0 (name 0 1) (short 7) ++ slot 3 0 (name 0 2) (short 7))
    -- off the chains: a kind of 2, a zero byte that is none
    ∷ refuses (heads [] ++ slot 0 2 (name 0 1) (short 7))
    ∷ refuses (heads [] ++ filled 80 (0 ∷ 0 ∷ 0 ∷ 1 ∷ []))
    -- bytes 32 and 79 of record 0
    ∷ refuses (replicate 32 0 ++ filled 48 (1 ∷ []))
    ∷ refuses (replicate 79 0 ++ 1 ∷ [])
    ∷ []

abbrev Hold : List Case → Type 0
Hold [] = Unit {0}
Hold (c ∷ l) = (lookup c.block c.label ≡ c.looked) × (add c.block c.label c.handle ≡ c.added) × Hold l

pub worked : Hold cases
unfolding chain reached_from member distinct every valid first_with lookup lowest put_handle put_record add
worked = (refl, refl, (refl, refl, (refl, refl, (refl, refl, (refl, refl, (refl, refl, (refl, refl, (refl, refl, (refl, refl, (refl, refl, (refl, refl, (refl, refl, (refl, refl, (refl, refl, (refl, refl, (refl, refl, (refl, refl, (refl, refl, (refl, refl, (refl, refl, (refl, refl, (refl, refl, (refl, refl, (refl, refl, tt))))))))))))))))))))))))
