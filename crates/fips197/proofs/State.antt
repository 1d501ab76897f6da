-- Laws on words and states, given once for every row and column. Both list the first values of a function.
-- Assumes nothing.
use mathlib.Core.Path.{◌≡◌, refl, sym, ap, fun_ext, ◌∙◌}
use mathlib.Core.List.{List, [], ◌∷◌}
use Prim.Native.Nat.{ℕ, zero, suc, ◌+◌, ◌*◌, ◌/◌, ◌%◌, ◌<◌}
use lib.ListN.{length, get_or}
use Rattle.bits.specs.Bytes.{Bytes}
use Rattle.bits.proofs.Lists.{cons, bytes_at}
use Rattle.fips197.specs.State.{at, word, state}

-- f 0 to f (n - 1)
abbrev first : ℕ → (ℕ → ℕ) → List ℕ
first zero f = []
first (suc n) f = f 0 ∷ first n (λ i. f (suc i))

first_bytes : (n : ℕ) (f : ℕ → ℕ) → ((i : ℕ) → f i < 256) → Bytes (first n f)
first_bytes zero f h = tt
first_bytes (suc n) f h = (h 0, first_bytes n (λ i. f (suc i)) (λ i. h (suc i)))

first-at : (l : List ℕ) → first (length l) (λ i. get_or l i 0) ≡ l
first-at [] = refl
first-at (x ∷ l) = cons refl (first-at l)

pub word_bytes : (f : ℕ → ℕ) → ((j : ℕ) → f j < 256) → Bytes (word f)
word_bytes f h = first_bytes 4 f h

pub at_byte : (s : List ℕ) → Bytes s → (r c : ℕ) → at s r c < 256
at_byte s h r c = bytes_at s h (r + 4 * c)

-- states are equal where their bytes are
pub state_ext : {f g : ℕ → ℕ → ℕ} → ((r c : ℕ) → f r c ≡ g r c) → state f ≡ state g
state_ext e = ap state (fun_ext (λ r. fun_ext (e r)))

pub state_bytes : (f : ℕ → ℕ → ℕ) → ((r c : ℕ) → f r c < 256) → Bytes (state f)
state_bytes f h = first_bytes 16 (λ i. f (i % 4) (i / 4)) (λ i. h (i % 4) (i / 4))

-- sixteen bytes are the state that they fill
pub state-at : (b : List ℕ) → length b ≡ 16 → state (at b) ≡ b
state-at b e = ap (λ (n : ℕ). first n (λ i. get_or b i 0)) (sym e) ∙ first-at b
