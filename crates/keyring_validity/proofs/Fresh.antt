-- Marks as a call makes them: index 0 is set, and no other.
-- Assumes nothing.
use mathlib.Core.Path.{◌≡◌, refl, ◌∙◌}
use Prim.Native.Nat.{ℕ}
use native.Mathlib.Omega.{arith}
use lib.ListN.{set, replicate, length-set, length-replicate}
use lib.Seq.{get_or-set_same, get_or-set_other}
use Rattle.bits.proofs.Lists.{zeros_at}
use Rattle.keyring_validity.specs.Marks.{Unmarked}

made : (n : ℕ) → n ≡ 819 → Unmarked (set (replicate n 0) 0 1)
made n e =
    record {
      many = length-set (replicate n 0) 0 1 ∙ length-replicate {A = ℕ} n 0 ∙ e;
      end = get_or-set_same (replicate n 0) 0 1 0 (omega (arith, length-replicate {A = ℕ} n 0));
      clear = λ i h. get_or-set_other (replicate n 0) 0 i 1 0 (λ p. omega arith) ∙ zeros_at n i;
    }

pub fresh : Unmarked (set (replicate 819 0) 0 1)
fresh = made 819 refl
