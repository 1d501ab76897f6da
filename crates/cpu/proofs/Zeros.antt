-- Bytes that are all zero, by `==`.
-- Assumes nothing.
use Rattle.std.proofs.Common.{◌≡◌, ℕ, zero, suc, Bool, ◌&&◌, List, [], ◌∷◌, length, replicate, eqb, refl, sym, ap, suc-ne-zero, arith}
use lib.Pointwise.{pointwise}
use Rattle.model.specs.Numbers.{all_zero}

pub zero_bytes : (n : ℕ) (l : List ℕ) → length l ≡ n → pointwise eqb l (replicate n 0) ≡ all_zero l
zero_bytes zero [] e = refl
zero_bytes zero (b ∷ l) e = absurd (suc-ne-zero (length l) e)
zero_bytes (suc n) [] e = absurd (suc-ne-zero n (sym e))
zero_bytes (suc n) (b ∷ l) e = ap (λ (t : Bool). eqb b 0 && t) (zero_bytes n l (omega (arith, e)))
