-- What the structs of this crate stand for.
-- Assumes nothing.
use Rattle.std.specs.Prelude.{◌≡◌, List, ℕ, ◌+◌, ◌*◌, ◌^◌, ◌<◌, get_or}
use Rattle.rfc8452.specs.Field.{add, multiply, times_x_to}
use Rattle.polyval.specs.declared.field.Element.{Element}
use Rattle.polyval.specs.declared.dot.Wide.{Wide}

-- RFC 8452 section 3: the polynomial of an element
abbrev pub num : Element → ℕ
num e = e.hi * 2 ^ 64 + e.lo

-- the element that four words stand for: w3 * x^192 + w2 * x^128 + w1 * x^64 + w0
unfoldable pub value : Wide → ℕ
value w = add (times_x_to 128 (w.w3 * 2 ^ 64 + w.w2)) (w.w1 * 2 ^ 64 + w.w0)

-- entry u of a table
abbrev pub at : List Element → ℕ → ℕ
at t u = num (get_or t u (record { lo = 0; hi = 0 }))

-- the table of the sixteen multiples of h by polynomials of degree below 4
abbrev pub Multiples : ℕ → List Element → Type 0
Multiples h t = (u : ℕ) → u < 16 → at t u ≡ multiply h u

-- the multiple by 1
abbrev pub first : List Element → ℕ
first t = at t 1

-- a table is that of its multiple by 1
abbrev pub MultiplesTable : List Element → Type 0
MultiplesTable t = (first t < 2 ^ 128) × Multiples (first t) t

-- the tables that multiply by a byte: that of the element for the low four bits, that of it times x^4 for the high four
abbrev pub ByteTables : List Element → List Element → Type 0
ByteTables low high = MultiplesTable low × MultiplesTable high × (first high ≡ times_x_to 4 (first low))
