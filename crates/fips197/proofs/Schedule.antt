-- The key schedule has 16 (nr + 1) bytes, and the inverse cipher of nr rounds reads no more than those of any longer list.
-- Assumes nothing.
use mathlib.Core.Path.{◌≡◌, refl, ap, ap₂, ◌∙◌}
use mathlib.Core.Bool.{Bool, true, false, cond, ◌&&◌}
use mathlib.Core.List.{List}
use Prim.Native.Nat.{ℕ, zero, suc, ◌+◌, ◌-◌, ◌*◌, ◌/◌, ◌%◌, ◌≤◌, ◌<◌}
use native.Mathlib.Omega.{arith}
use lib.Bits.{xor_lt}
use lib.Dec.{lit<, eqb, ltb}
use lib.ListN.{length, get_or, take, length-append}
use lib.Seq.{get_or-take}
use Rattle.bits.specs.Bytes.{Bytes}
use Rattle.bits.proofs.Lists.{bytes_at, bytes_append}
use Rattle.fips197.specs.Cipher.{add_round_key}
use Rattle.fips197.specs.InvCipher.{inv_round, inv_final_round, inv_rounds, inv_cipher}
use Rattle.fips197.specs.KeyExpansion.{word_at, round_key, add_words, sub_word, rot_word, power, rcon, transformed, next_word, expanded, key_expansion}
use Rattle.bits.proofs.Field.{times_x-lt}
use Rattle.fips197.proofs.Field.{gf256}
use Rattle.fips197.proofs.Sbox.{sbox_byte}
use Rattle.fips197.proofs.State.{word_bytes, state_bytes, state_ext}

-- ---- the round keys

pub round_key_bytes : (w : List ℕ) (n : ℕ) → Bytes w → Bytes (round_key w n)
unfolding round_key word_at
round_key_bytes w n h = state_bytes _ (λ r c. bytes_at w h (4 * (4 * n + c) + r))

pub round_key-take : (m : ℕ) (w : List ℕ) (n : ℕ) → 16 * (n + 1) ≤ m → round_key (take m w) n ≡ round_key w n
unfolding round_key word_at
round_key-take m w n h = state_ext (λ r c. get_or-take m w (4 * (4 * n + c % 4) + r % 4) 0 (omega arith))

-- ---- the inverse cipher

inv_rounds-take : (m : ℕ) (w : List ℕ) (n : ℕ) (s : List ℕ) → 16 * (n + 1) ≤ m → inv_rounds (take m w) n s ≡ inv_rounds w n s
unfolding inv_rounds
inv_rounds-take m w zero s h = refl
inv_rounds-take m w (suc n) s h =
    inv_rounds-take m w n (inv_round s (round_key (take m w) (n + 1))) (omega arith)
    ∙ ap (λ (k : List ℕ). inv_rounds w n (inv_round s k)) (round_key-take m w (n + 1) (omega arith))

pub inv_cipher-take : (m : ℕ) (w : List ℕ) (nr : ℕ) (b : List ℕ) → 16 * (nr + 1) ≤ m → inv_cipher (take m w) nr b ≡ inv_cipher w nr b
unfolding inv_cipher
inv_cipher-take m w nr b h =
    ap₂ inv_final_round (inv_rounds-take m w (nr - 1) (add_round_key b (round_key (take m w) nr)) (omega arith)
    ∙ ap (λ (k : List ℕ). inv_rounds w (nr - 1) (add_round_key b k)) (round_key-take m w nr h)) (round_key-take m w 0 (omega arith))

-- ---- the key expansion

expanded-length : (nk : ℕ) (key : List ℕ) (n : ℕ) → length (expanded nk key n) ≡ length key + 4 * n
unfolding expanded next_word add_words
expanded-length nk key zero = omega arith
expanded-length nk key (suc n) =
    let w = expanded nk key n in
    length-append w (next_word nk (nk + n) w) ∙ omega (arith, expanded-length nk key n)

pub expansion_length : (nk : ℕ) (key : List ℕ) → length key ≡ 4 * nk → length (key_expansion nk key) ≡ 16 * (nk + 7)
unfolding key_expansion
expansion_length nk key e = omega (arith, expanded-length nk key (4 * (nk + 7) - nk))

bytes_cond : (t : Bool) (l m : List ℕ) → Bytes l → Bytes m → Bytes (cond t l m)
bytes_cond true l m g h = g
bytes_cond false l m g h = h

word_at_bytes : (w : List ℕ) (i : ℕ) → Bytes w → Bytes (word_at w i)
unfolding word_at
word_at_bytes w i h = word_bytes _ (λ j. bytes_at w h (4 * i + j))

add_words_bytes : (a b : List ℕ) → Bytes a → Bytes b → Bytes (add_words a b)
unfolding add_words
add_words_bytes a b g h = word_bytes _ (λ j. xor_lt 8 (get_or a j 0) (get_or b j 0) (bytes_at a g j) (bytes_at b h j))

sub_word_bytes : (t : List ℕ) → Bytes (sub_word t)
unfolding sub_word
sub_word_bytes t = search sbox_byte

pub power_byte : (n : ℕ) → power n < 256
unfolding power
power_byte zero = lit< tt
power_byte (suc n) = times_x-lt gf256 (power n) (power_byte n)

rcon_bytes : (i : ℕ) → Bytes (rcon i)
unfolding rcon
rcon_bytes i = (power_byte _, (lit< tt, (lit< tt, (lit< tt, tt))))

transformed_bytes : (nk i : ℕ) (t : List ℕ) → Bytes t → Bytes (transformed nk i t)
unfolding transformed
transformed_bytes nk i t h =
    bytes_cond (eqb (i % nk) 0) _ _
    (add_words_bytes (sub_word (rot_word t)) (rcon (i / nk)) (sub_word_bytes (rot_word t)) (rcon_bytes (i / nk)))
    (bytes_cond (ltb 6 nk && eqb (i % nk) 4) _ _ (sub_word_bytes t) h)

expanded_bytes : (nk : ℕ) (key : List ℕ) (n : ℕ) → Bytes key → Bytes (expanded nk key n)
unfolding expanded next_word
expanded_bytes nk key zero h = h
expanded_bytes nk key (suc n) h =
    let w = expanded nk key n in
    let g = expanded_bytes nk key n h in
    bytes_append w (next_word nk (nk + n) w) g
    (add_words_bytes (word_at w (nk + n - nk)) (transformed nk (nk + n) (word_at w (nk + n - 1))) (word_at_bytes w (nk + n - nk) g)
    (transformed_bytes nk (nk + n) (word_at w (nk + n - 1)) (word_at_bytes w (nk + n - 1) g)))

pub expansion_bytes : (nk : ℕ) (key : List ℕ) → Bytes key → Bytes (key_expansion nk key)
unfolding key_expansion
expansion_bytes nk key h = expanded_bytes nk key (4 * (nk + 7) - nk) h
