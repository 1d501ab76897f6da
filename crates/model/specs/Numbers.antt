-- Bits of numbers, and parts of byte lists.
-- Assumes nothing.
use Rattle.std.specs.Prelude.{Bool, true, ◌&&◌, List, [], ◌∷◌, ℕ, ◌-◌, ◌*◌, ◌^◌, ◌/◌, ◌%◌, eqb, take, drop}

-- the scope: bit 0 is lowest
abbrev pub bit : ℕ → ℕ → Bool
bit i x = eqb (x / 2 ^ i % 2) 1

-- the number with bit i 0
abbrev pub clear_bit : ℕ → ℕ → ℕ
clear_bit i x = x - x / 2 ^ i % 2 * 2 ^ i

-- n bytes from a position on
abbrev pub part : ℕ → ℕ → List ℕ → List ℕ
part n at s = take n (drop at s)

-- every byte is zero
abbrev pub all_zero : List ℕ → Bool
all_zero [] = true
all_zero (b ∷ l) = eqb b 0 && all_zero l
