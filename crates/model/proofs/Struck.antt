-- A list of calls against the same list without some of them: a relation of the two machines that every call keeps, and that one of those only here keeps too,
-- holds at the end, and what it says of an answer holds of the answers of every call that is in both.
-- Assumes nothing.
use mathlib.Core.Path.{◌≡◌, ◌∙◌, refl, sym, ap, subst}
use mathlib.Core.Bool.{Bool, true, false, cond}
use mathlib.Core.List.{List, [], ◌∷◌, ◌++◌}
use lib.ListN.{length}
use Rattle.bits.proofs.Choice.{cond_off, on_cond}
use Rattle.model.specs.Calls.{Call, Answer}
use Rattle.model.specs.Execution.{call, run}
use Rattle.model.specs.Demand3.{answer_at}
use Rattle.model.specs.Struck.{struck}
use Rattle.model.specs.declared.Machine.{Machine}
use Rattle.model.proofs.Demand3.{answer_at_lem}

module _ (out : Call → Bool) where
  struck_at : (xs : List Call) (c : Call) (ys : List Call) → out c ≡ false → struck out (xs ++ c ∷ ys) ≡ struck out xs ++ c ∷ struck out ys
  struck_at [] c ys e = cond_off e (struck out ys) (c ∷ struck out ys)
  struck_at (x ∷ xs) c ys e = ap (λ (l : List Call). cond (out x) l (x ∷ l)) (struck_at xs c ys e) ∙ go (out x)
    where
      go : (t : Bool)
          → cond t (struck out xs ++ c ∷ struck out ys) (x ∷ struck out xs ++ c ∷ struck out ys)
          ≡ cond t (struck out xs) (x ∷ struck out xs) ++ c ∷ struck out ys
      go true = refl
      go false = refl

  -- what holds of the two answers that a call has after the calls before it
  pub struck_answers : (S : Answer → Answer → Type 0) (m : Machine) (calls xs : List Call) (c : Call) (ys : List Call) → calls ≡ xs ++ c ∷ ys → out c ≡ false
      → S (call (run m xs).machine c).answer (call (run m (struck out xs)).machine c).answer
      → S (answer_at (run m calls) (length xs)) (answer_at (run m (struck out calls)) (length (struck out xs)))
  struck_answers S m calls xs c ys split e h =
      let here = ap (λ (l : List Call). answer_at (run m l) (length xs)) split ∙ answer_at_lem m xs c ys in
      let there =
      ap (λ (l : List Call). answer_at (run m l) (length (struck out xs))) (ap (struck out) split ∙ struck_at xs c ys e)
      ∙ answer_at_lem m (struck out xs) c (struck out ys) in
      subst (λ (a : Answer). S a (answer_at (run m (struck out calls)) (length (struck out xs)))) (sym here)
      (subst (S (call (run m xs).machine c).answer) (sym there) h)

  module _ (R : Machine → Machine → Type 0) (kept : (m n : Machine) → R m n → (c : Call) → R (call m c).machine (call n c).machine)
      (unseen : (m n : Machine) → R m n → (c : Call) → out c ≡ true → R (call m c).machine n) where
    pub struck-run : (m n : Machine) → R m n → (calls : List Call) → R (run m calls).machine (run n (struck out calls)).machine
    struck-run m n h [] = h
    struck-run m n h (c ∷ l) =
        on_cond (λ (k : List Call). R (run (call m c).machine l).machine (run n k).machine) (out c) _ _ (λ e. struck-run (call m c).machine n (unseen m n h c e) l)
        (λ e. struck-run (call m c).machine (call n c).machine (kept m n h c) l)
