-- What a line of a program's standard input says: a name up to the first blank, and bytes behind it, written as hexadecimal digits. A place in the bytes
-- is counted in half bytes.
-- Assumes nothing.
use Rattle.std.specs.Prelude.{cond, ℕ, Option, Some, None, ◌+◌, ◌-◌, ◌*◌, ◌/◌, ◌%◌, ◌&&◌, ◌||◌, eqb, leb, nat_lt, if◌then◌else◌, ◌==◌, min, get_or, set, length, take, drop, replicate}
use Rattle.std.specs.Option.{unwrap_or}
use Rattle.std.specs.List.{position, flat_map}
use mathlib.Core.List.{List, [], ◌∷◌}

-- how many bytes a line has
abbrev pub size : ℕ
size = 960

-- what a hexadecimal digit stands for: 0 to 9, a to f
abbrev pub digit : ℕ → Option ℕ
digit c = cond (leb 48 c && leb c 57) (Some (c - 48)) (cond (leb 97 c && leb c 102) (Some (c - 97 + 10)) None)

-- how many half bytes a character stands for: '.' is sixteen zeros, ',' eight, a digit a half byte, and others say nothing
abbrev pub halves : ℕ → ℕ
halves c = cond (eqb c 46) 32 (cond (eqb c 44) 16 (cond ((leb 48 c && leb c 57) || (leb 97 c && leb c 102)) 1 0))

-- a digit put into the byte of a half byte, behind what is there; digits beyond the last byte go into it
abbrev pub with_digit : Option ℕ → ℕ → List ℕ → List ℕ
with_digit None half bytes = bytes
with_digit (Some d) half bytes = let at = min (half / 2) (size - 1) in set bytes at (get_or bytes at 0 % 16 * 16 + d)

-- the bytes after what is left of a text, from a half byte on
abbrev pub filled : ℕ → List ℕ → List ℕ → List ℕ
filled half bytes [] = bytes
filled half bytes (c ∷ text) = filled (min (half + halves c) (2 * size)) (with_digit (digit c) half bytes) text

-- the bytes of a text: zeros are where it says nothing
abbrev pub bytes_of : List ℕ → List ℕ
bytes_of text = filled 0 (replicate size 0) text

-- how long a line's name is: it ends at the first blank
abbrev pub name_length : List ℕ → ℕ
name_length text = unwrap_or (position (λ c. c == 32) text) (length text)

-- a line's name, and its bytes
abbrev pub name_of : List ℕ → List ℕ
name_of text = take (name_length text) text

abbrev pub rest_of : List ℕ → List ℕ
rest_of text = drop (name_length text) text

-- bytes as they are printed: two hexadecimal digits each, 0 to 9, a to f
abbrev pub shown_digit : ℕ → ℕ
shown_digit d = if nat_lt d 10 then 48 + d else 87 + d

abbrev pub shown_byte : ℕ → List ℕ
shown_byte x = shown_digit (x / 16) ∷ shown_digit (x % 16) ∷ []

abbrev pub shown_bytes : List ℕ → List ℕ
shown_bytes bytes = flat_map shown_byte bytes
