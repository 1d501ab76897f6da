-- Marks, one for each index, that find a record reached twice.
-- Assumes nothing.
use Rattle.std.specs.Prelude.{◌≡◌, Bool, true, false, cond, not, List, [], ◌∷◌, ℕ, ◌<◌, eqb, length, get_or, set}
use Rattle.std.proofs.Math.Option.{Option, none, some}
use Rattle.keyring_model.specs.Chains.{reached, member}
use Rattle.keyring_model.specs.Validity as validity

-- as many as the largest keyring has records; index 0, which ends every chain, is marked and no other
pub record Unmarked (m : List ℕ) : Type 0 where
  pub many : length m ≡ 819
  pub end : get_or m 0 0 ≡ 1
  pub clear : (i : ℕ) → 0 < i → get_or m i 0 ≡ 0

-- the elements of a list marked one after another; none where one is marked already
unfoldable pub marked : List ℕ → List ℕ → Option (List ℕ)
marked m [] = some m
marked m (i ∷ l) = cond (eqb (get_or m i 0) 0) (marked (set m i 1) l) none

-- what a function that marks gives: whether it went through, and the marks then
abbrev pub Gives : Bool → List ℕ → Option (List ℕ) → Type 0
Gives r m none = r ≡ false
Gives r m (some l) = (r ≡ true) × (m ≡ l)

-- what is told of a keyring, and the marks then
pub record Checked (b m : List ℕ) (told : Bool) : Type 0 where
  pub tells : told ≡ validity.valid b
  pub marks : told ≡ true → (i : ℕ) → 0 < i → not (eqb (get_or m i 0) 0) ≡ member i (reached b)
