-- The bytes of a handle in memory: each has its own address, modulo 2^64.
-- Assumes nothing.
use Rattle.std.specs.Prelude.{Bool, false, not, ◌||◌, ℕ, zero, suc, ◌+◌, ◌-◌, ◌*◌, ◌^◌, ◌/◌, ◌%◌, eqb, leb}
use Rattle.fips197.specs.Sizes.{nk}
use Rattle.fips197.specs.declared.KeySize.{KeySize}

-- SDM volume 1, 3.3.7.1: bits 63:47 are alike
abbrev pub canonical : ℕ → Bool
canonical a = eqb (a / 2 ^ 47) 0 || eqb (a / 2 ^ 47) (2 ^ 17 - 1)

-- Intel 343965-001US section 1.4: the bytes of a handle
abbrev pub handle_length : KeySize → ℕ
handle_length size = 32 + 4 * nk size

-- the scope, "Turned back" 12 and 14: the test passes at one of the n bytes from a on, each with an address of its own
abbrev pub any_byte : (ℕ → Bool) → ℕ → ℕ → Bool
any_byte test a zero = false
any_byte test a (suc n) = test (a % 2 ^ 64) || any_byte test (a + 1) n

-- the scope, "Turned back" 12 and 13: a byte that is not canonical
unfoldable pub some_not_canonical : ℕ → ℕ → Bool
some_not_canonical a n = any_byte (λ b. not (canonical b)) a n

-- the scope, "Turned back" 14: a byte outside a memory of so many bytes
unfoldable pub some_outside : ℕ → ℕ → ℕ → Bool
some_outside memory a n = any_byte (leb memory) a n
