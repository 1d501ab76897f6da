-- After a label was added the keyring is valid, the label is found with its kind and handle, and the answer for every other label is as before.
-- Assumes nothing.
use mathlib.Core.Path.{◌≡◌, sym, ap, subst, ◌∙◌}
use mathlib.Core.Bool.{true}
use mathlib.Core.List.{List}
use Prim.Native.Nat.{ℕ}
use Rattle.keyring_model.specs.Records.{zero_filled}
use Rattle.keyring_model.specs.Validity.{valid}
use Rattle.keyring_model.specs.Lookup.{lookup}
use Rattle.keyring_model.specs.Add.{kind_for, Added, add}
use Rattle.keyring_model.proofs.Frames.{Accepted, How, refused, replaced, filled, how}
use Rattle.keyring_model.proofs.Changes.{Changed, changed_valid, changed_found, changed_others}
use Rattle.keyring_model.proofs.Replacing.{replacing}
use Rattle.keyring_model.proofs.Filling.{filling}

module _ (b l h : List ℕ) (done : (add b l h).number ≡ 0) where
  changed : Accepted b l h × ((i : ℕ) × Changed b (add b l h).keyring l h i)
  changed = go (how b l h)
    where
      go : How b l h → Accepted b l h × ((i : ℕ) × Changed b (add b l h).keyring l h i)
      go (refused k f e) = absurd (f (sym (ap (λ (a : Added). a.number) e) ∙ done))
      go (replaced a i p e) = (a, (i, subst (λ (x : Added). Changed b x.keyring l h i) (sym e) (replacing b l h i a p)))
      go (filled a i p q e) = (a, (i, subst (λ (x : Added). Changed b x.keyring l h i) (sym e) (filling b l h i a q)))

  -- a valid keyring again
  pub add-valid : valid (add b l h).keyring ≡ true
  add-valid = changed_valid b (add b l h).keyring l h changed.1.0 changed.0.keyring changed.1.1

  -- the label is found with what was added
  pub added_found : lookup (add b l h).keyring l ≡ record { number = 0; kind = kind_for h; handle = zero_filled h }
  added_found = changed_found b (add b l h).keyring l h changed.1.0 changed.0.keyring changed.1.1 changed.0.label

  -- every other label gets the answer that it had, a refusal too
  pub others_kept : (l' : List ℕ) → (l' ≡ l → ⊥) → lookup (add b l h).keyring l' ≡ lookup b l'
  others_kept = changed_others b (add b l h).keyring l h changed.1.0 changed.0.keyring changed.1.1
