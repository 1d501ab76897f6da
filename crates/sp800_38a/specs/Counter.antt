-- NIST SP 800-38A section 6.5, the Counter mode, over any forward cipher of a block. Appendix B.1: counter blocks follow each other by the standard
-- incrementing function, here over all bits of the block. Change request (vii): "counted big-endian modulo 2^128".
-- Assumes nothing.
use mathlib.Core.List.{List, [], ◌∷◌, reverse, flat_map}
use Rattle.std.specs.Prelude.{ℕ, zero, suc, ◌+◌, ◌/◌, length}
use Rattle.bits.specs.Bytes.{xor_bytes}
use Rattle.bits.specs.Words.{le_bytes, le_value}

-- the number that bytes stand for, highest byte first, and the n low bytes of a number in that order
abbrev pub be_value : List ℕ → ℕ
be_value l = le_value (reverse l)

abbrev pub be_bytes : ℕ → ℕ → List ℕ
be_bytes n x = reverse (le_bytes n x)

-- B.1: the counter block i blocks behind c, modulo 256 to the number of its bytes
unfoldable pub counter_at : List ℕ → ℕ → List ℕ
counter_at c i = be_bytes (length c) (be_value c + i)

-- 6.5, T_1 to T_n: n counter blocks, from the one i blocks behind c on
abbrev pub counters : List ℕ → ℕ → ℕ → List (List ℕ)
counters c i zero = []
counters c i (suc n) = counter_at c i ∷ counters c (i + 1) n

-- 6.5, O_1 to O_n: the counter blocks enciphered
unfoldable pub output_blocks : (List ℕ → List ℕ) → List ℕ → ℕ → ℕ → List ℕ
output_blocks f c i n = flat_map f (counters c i n)

-- 6.5, CTR encryption and decryption: the data XORed with the output blocks; of the last one as many first bytes as there are data left
unfoldable pub ctr : (List ℕ → List ℕ) → List ℕ → List ℕ → List ℕ
ctr f c s = xor_bytes s (output_blocks f c 0 ((length s + 15) / 16))
