-- Change request (iv): "80-byte records in one block". A keyring, which document 02 calls a handle book, keeps handles by label. Here its fields.
-- Assumes nothing.
use Rattle.std.specs.Prelude.{cond, List, ◌++◌, ℕ, ◌+◌, ◌-◌, ◌*◌, ◌/◌, ◌%◌, eqb, length, get_or, take, drop, replicate}

-- "80-byte records"
abbrev pub record_size : ℕ
record_size = 80

-- "one block of at most 65,520 bytes"
abbrev pub keyring_limit : ℕ
keyring_limit = 65520

-- how many records the block has, record 0 among them
abbrev pub records : List ℕ → ℕ
records b = length b / record_size

-- the scope, "Records": all stored integers are little-endian
abbrev pub index_at : List ℕ → ℕ → ℕ
index_at b at = get_or b at 0 + 256 * get_or b (at + 1) 0

-- "Record 0 has sixteen 2-byte heads, then zeros."
abbrev pub heads : ℕ
heads = 16

abbrev pub heads_size : ℕ
heads_size = heads * 2

-- where head k stands
abbrev pub head_place : ℕ → ℕ
head_place k = k * 2

abbrev pub head_of : List ℕ → ℕ → ℕ
head_of b k = index_at b (head_place k)

-- "Every other record has next index (2 bytes), kind (0 for AES-128, 1 for AES-256), a zero byte, a label of 12 bytes and 64 bytes of handle"
abbrev pub next_of : List ℕ → ℕ → ℕ
next_of b i = index_at b (i * record_size)

-- where the kind stands
abbrev pub kind_place : ℕ → ℕ
kind_place i = i * record_size + 2

abbrev pub kind_of : List ℕ → ℕ → ℕ
kind_of b i = get_or b (kind_place i) 0

abbrev pub zero_of : List ℕ → ℕ → ℕ
zero_of b i = get_or b (i * record_size + 3) 0

abbrev pub label_size : ℕ
label_size = 12

abbrev pub label_of : List ℕ → ℕ → List ℕ
label_of b i = take label_size (drop (i * record_size + 4) b)

-- where the handle begins
abbrev pub handle_place : ℕ → ℕ
handle_place i = i * record_size + 16

abbrev pub handle_room : ℕ
handle_room = 64

-- "64 bytes of handle, zero-filled"
abbrev pub zero_filled : List ℕ → List ℕ
zero_filled h = h ++ replicate (handle_room - length h) 0

-- the bytes of a handle, by its kind: handles of AES-128 keys have 48
abbrev pub handle_size : ℕ → ℕ
handle_size kind = cond (eqb kind 0) 48 64

-- the handle of record i, and zeros behind it, whatever the record has there
abbrev pub handle_of : List ℕ → ℕ → List ℕ
handle_of b i = zero_filled (take (handle_size (kind_of b i)) (drop (handle_place i) b))

-- "The low four bits of a label's first byte pick its head."
abbrev pub head_for : List ℕ → ℕ
head_for l = get_or l 0 0 % heads
