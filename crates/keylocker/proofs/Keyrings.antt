-- A keyring's lookup by value keeps the promise of the call for C.
-- Assumes nothing.
use mathlib.Core.Path.{◌≡◌, ◌∙◌, sym, ap}
use mathlib.Core.Bool.{Bool, cond}
use mathlib.Core.List.{List}
use Prim.Native.Nat.{ℕ}
use lib.Dec.{eqb}
use Rattle.std.specs.Prelude.{Ok, Err}
use Rattle.keyring_model.specs.Lookup.{Looked, unfound, lookup, lookup_lent}
use Rattle.refusal.specs.Numbers.{number_of}
use Rattle.refusal.specs.declared.Refusal.{Refusal}
use Rattle.keyring.specs.Meaning.{looked_of}
use Rattle.keyring.specs.declared.Entry.{Entry}
use Rattle.keylocker.proofs.Finishing.{positive}

-- what a lookup leaves: its number, and what is lent for kind and handle
module _ (b l : List ℕ) (kind : ℕ) (handle : List ℕ) where
  abbrev left_by : Bool → Looked → Looked
  left_by t x = record { number = x.number; kind = cond t x.kind kind; handle = cond t x.handle handle }

  pub found : (e : Entry) → looked_of (Ok e) ≡ lookup b l → record { number = 0; kind = e.kind; handle = e.handle } ≡ lookup_lent b l kind handle
  unfolding lookup_lent
  found e f = ap (λ (x : Looked). left_by (eqb x.number 0) x) f

  pub unfound_lem : (e : Refusal) → looked_of (Err e) ≡ lookup b l → record { number = number_of e; kind = kind; handle = handle } ≡ lookup_lent b l kind handle
  unfolding lookup_lent
  unfound_lem e f =
      ap (λ (t : Bool). left_by t (unfound (number_of e))) (sym (positive e)) ∙ ap (λ (x : Looked). left_by (eqb x.number 0) x) f
