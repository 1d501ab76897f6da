-- What stands at a place behind a place, and the entries by their places.
-- Assumes nothing.
use Rattle.std.proofs.Common.{◌≡◌, ◌∙◌, ◌+◌, List, [], ◌∷◌, ℕ, zero, suc, get_or, drop, refl, sym, ap}
use Rattle.std.proofs.Math.Seq.{get_or-drop, drop-drop}
use Rattle.model.specs.Records.{processor_limit}
use Rattle.model.specs.Layout.{entry_size, entry_at, entries_at}
use Rattle.model.specs.declared.Processor.{Processor}

pub behind : (a b : ℕ) (s : List ℕ) → drop (b + a) s ≡ drop a (drop b s)
behind a b s = sym (drop-drop a b s)

pub byte_behind : (a b : ℕ) (s : List ℕ) → get_or s (b + a) 0 ≡ get_or (drop b s) a 0
byte_behind a b s = sym (get_or-drop b s a 0)

abbrev pub entries_from : ℕ → ℕ → List ℕ → List Processor
entries_from zero at s = []
entries_from (suc n) at s = entry_at (drop at s) ∷ entries_from n (at + entry_size) s

placed : (n at : ℕ) (s : List ℕ) → entries_at n (drop at s) ≡ entries_from n at s
unfolding entries_at
placed zero at s = refl
placed (suc n) at s =
    ap (λ (l : List Processor). entry_at (drop at s) ∷ l) (ap (entries_at n) (drop-drop entry_size at s) ∙ placed n (at + entry_size) s)

pub all_placed : (s : List ℕ) → entries_at processor_limit (drop 2 s) ≡ entries_from processor_limit 2 s
all_placed s = placed processor_limit 2 s
