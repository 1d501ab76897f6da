-- Change request (iv): "In a lookup, the first differing byte of a label sends the search to the next record of the chain. The first match gives its kind and
-- its 48 or 64 bytes of handle."
-- Assumes nothing.
use Rattle.std.specs.Prelude.{Bool, cond, ◌&&◌, List, [], ◌∷◌, ℕ, eqb, length, replicate}
use Rattle.std.proofs.Math.Option.{Option, none, some}
use Rattle.bits.specs.Bytes.{alike}
use Rattle.keyring_model.specs.Records.{label_size, label_of, kind_of, handle_room, handle_of, head_for}
use Rattle.keyring_model.specs.Chains.{chain_of}
use Rattle.keyring_model.specs.Validity.{valid}

-- the first of these records that has the label
unfoldable pub first_with : List ℕ → List ℕ → List ℕ → Option ℕ
first_with b l [] = none
first_with b l (i ∷ r) = cond (alike (label_of b i) l) (some i) (first_with b l r)

-- on the chain that the label picks
abbrev pub first_on_chain : List ℕ → List ℕ → Option ℕ
first_on_chain b l = first_with b l (chain_of b (head_for l))

-- 0 or the refusal's number, the kind, and the handle, zero-filled
pub record Looked : Type 0 where
  pub number : ℕ
  pub kind : ℕ
  pub handle : List ℕ

-- by value a refusal has kind 0 and a handle of zeros
abbrev pub unfound : ℕ → Looked
unfound number = record { number = number; kind = 0; handle = replicate handle_room 0 }

-- "16 lookup, exactly when no record of the chain has the label"
abbrev pub looked : List ℕ → Option ℕ → Looked
looked b none = unfound 16
looked b (some i) = record { number = 0; kind = kind_of b i; handle = handle_of b i }

-- "15 .. a label not of 12 bytes .., checked first"
abbrev pub lookup_valid : List ℕ → List ℕ → Bool
lookup_valid b l = valid b && eqb (length l) label_size

unfoldable pub lookup : List ℕ → List ℕ → Looked
lookup b l = cond (lookup_valid b l) (looked b (first_on_chain b l)) (unfound 15)

-- for C: where it is refused the kind and the handle that are lent stay
unfoldable pub lookup_lent : List ℕ → List ℕ → (kind : ℕ) (handle : List ℕ) → Looked
lookup_lent b l kind handle =
    record {
      number = (lookup b l).number;
      kind = cond (eqb (lookup b l).number 0) (lookup b l).kind kind;
      handle = cond (eqb (lookup b l).number 0) (lookup b l).handle handle;
    }
