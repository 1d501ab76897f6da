-- Sums and products modulo a number, in the order in which they are taken.
-- Assumes nothing.
use mathlib.Core.Path.{◌≡◌, sym, ap, ◌∙◌}
use Prim.Native.Nat.{ℕ, ◌+◌, ◌*◌, ◌/◌, ◌%◌}
use native.Mathlib.Nat.{mod-add-mod, add-mod-mod, add-mul, mul_assoc, div-add-mod, mul-add-mod_self_left}

-- the parts of a sum may be taken modulo m
pub sum_mod : (m a b c : ℕ) → ((a + b % m) % m + c) % m ≡ (a + b + c) % m
sum_mod m a b c = ap (λ (x : ℕ). (x + c) % m) (add-mod-mod a b m) ∙ mod-add-mod (a + b) m c

-- and a factor
pub product_mod : (m a c : ℕ) → a * c % m ≡ a % m * c % m
product_mod m a c =
    ap (λ (x : ℕ). x * c % m) (sym (div-add-mod a m))
    ∙ ap (λ (x : ℕ). x % m) (add-mul (m * (a / m)) (a % m) c ∙ ap (λ (x : ℕ). x + a % m * c) (mul_assoc m (a / m) c))
    ∙ mul-add-mod_self_left m (a / m * c) (a % m * c)
