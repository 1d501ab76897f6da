-- The ways that the calls go: refused, or done.
-- Assumes nothing.
use mathlib.Core.Path.{◌≡◌, refl, sym, ap, ap₂, ◌∙◌}
use mathlib.Core.Bool.{Bool, true, false, not, ◌&&◌, not-not}
use mathlib.Core.List.{List}
use Prim.Native.Nat.{ℕ, ◌-◌, ◌<◌}
use native.Mathlib.Omega.{arith}
use lib.Dec.{eqb}
use lib.ListN.{length, get_or}
use borrow.Author.Tests.{eq-eqb}
use Rattle.bits.proofs.Choice.{cond_on, cond_off}
use Rattle.keyring_model.specs.Records.{records}
use Rattle.keyring_model.specs.Chains.{reached, member}
use Rattle.keyring_model.specs.Validity.{valid}
use Rattle.keyring_model.specs.Lookup.{unfound, looked, lookup_valid, lookup, first_on_chain}
use Rattle.keyring_model.specs.Add.{added, added_at, added_new, add_valid, add, lowest}
use Rattle.keyring_model.proofs.Walks.{lowest_same}
use Rattle.keyring_model.proofs.Frames.{add_at}
use Rattle.std.specs.Prelude.{Option as Found, None}
use Rattle.keyring.specs.Meaning.{found_of, is_handle_size, unmarked}

-- ---- refusal 15

pub lookup_15 : (b l : List ℕ) → lookup_valid b l ≡ false → unfound 15 ≡ lookup b l
unfolding lookup
lookup_15 b l e = sym (cond_off e (looked b (first_on_chain b l)) (unfound 15))

pub add_15 : (b l h : List ℕ) → add_valid b l h ≡ false → added 15 b ≡ add b l h
unfolding add
add_15 b l h e = sym (cond_off e (added_at b l h (first_on_chain b l)) (added 15 b))

-- ---- past it

module _ (b l : List ℕ) (f : Found ℕ) (right : true ≡ valid b) (size : length l ≡ 12) (found : found_of f ≡ first_on_chain b l) where
  searched : {g : Found ℕ} → f ≡ g → first_on_chain b l ≡ found_of g
  searched e = sym found ∙ ap found_of e

  both_right : lookup_valid b l ≡ true
  both_right = ap₂ (λ (s t : Bool). s && t) (sym right) (eq-eqb (length l) 12 size)

  pub looked_up : (g : Found ℕ) → f ≡ g → looked b (found_of g) ≡ lookup b l
  unfolding lookup
  looked_up g e = sym (cond_on both_right (looked b (first_on_chain b l)) (unfound 15) ∙ ap (looked b) (searched e))

  module _ (h : List ℕ) (sized : is_handle_size (length h) ≡ true) where
    pub replaced : (g : Found ℕ) → f ≡ g → added_at b l h (found_of g) ≡ add b l h
    replaced g e =
        sym (add_at b l h (ap₂ (λ (s t : Bool). s && t) both_right sized) ∙ ap (added_at b l h) (searched e))

    -- the marks tell which records are free
    pub filled : (m : List ℕ) (p g : Found ℕ) → (true ≡ true → (i : ℕ) → 0 < i → not (eqb (get_or m i 0) 0) ≡ member i (reached b))
        → found_of p ≡ lowest (unmarked m) (records b - 1) 1 → f ≡ None → p ≡ g → added_new b l h (found_of g) ≡ add b l h
    filled m p g tell e new is =
        ap (added_new b l h)
        (ap found_of (sym is) ∙ e
        ∙ lowest_same (unmarked m) (λ (i : ℕ). not (member i (reached b))) (records b - 1) 1
        (λ i h k. sym (not-not (unmarked m i)) ∙ ap not (tell refl i (omega arith))))
        ∙ replaced None new
