-- FIPS 197 section 5.2: the key schedule, as a list of bytes, over the number of words in the key, nk.
-- Assumes nothing.
use Rattle.std.specs.Prelude.{cond, ◌&&◌, List, [], ◌∷◌, ◌++◌, ℕ, zero, suc, ◌+◌, ◌-◌, ◌*◌, ◌/◌, ◌%◌, eqb, ltb, get_or}
use Rattle.fips197.specs.Field.{add, xtime}
use Rattle.fips197.specs.Sbox.{sbox}
use Rattle.fips197.specs.State.{word}

-- 5.2: w[i], four bytes
unfoldable pub word_at : List ℕ → ℕ → List ℕ
word_at w i = word (λ j. get_or w (4 * i + j) 0)

-- 5.1.4: the key of a round, the words w[4n] to w[4n + 3]
unfoldable pub round_key : List ℕ → ℕ → List ℕ
round_key w n = word_at w (4 * n + 0) ++ word_at w (4 * n + 1) ++ word_at w (4 * n + 2) ++ word_at w (4 * n + 3)

-- 5.2: the sum of two words
unfoldable pub add_words : List ℕ → List ℕ → List ℕ
add_words a b = word (λ j. add (get_or a j 0) (get_or b j 0))

-- 5.2: SubWord applies the S-box to each byte, RotWord takes [a0, a1, a2, a3] to [a1, a2, a3, a0]
unfoldable pub sub_word : List ℕ → List ℕ
sub_word t = word (λ j. sbox (get_or t j 0))

unfoldable pub rot_word : List ℕ → List ℕ
rot_word t = word (λ j. get_or t ((j + 1) % 4) 0)

-- 5.2: x^n as a byte
unfoldable pub power : ℕ → ℕ
power zero = 1
power (suc n) = xtime (power n)

-- 5.2: Rcon[i], whose first byte is x^(i - 1)
unfoldable pub rcon : ℕ → List ℕ
rcon i = power (i - 1) ∷ 0 ∷ 0 ∷ 0 ∷ []

-- 5.2, figure 11: what is added to w[i - nk] to make w[i], from temp = w[i - 1]
unfoldable pub transformed : ℕ → ℕ → List ℕ → List ℕ
transformed nk i temp =
    cond (eqb (i % nk) 0) (add_words (sub_word (rot_word temp)) (rcon (i / nk)))
    (cond (ltb 6 nk && eqb (i % nk) 4) (sub_word temp) temp)

-- 5.2, figure 11: w[i], from the words before it
unfoldable pub next_word : ℕ → ℕ → List ℕ → List ℕ
next_word nk i w = add_words (word_at w (i - nk)) (transformed nk i (word_at w (i - 1)))

-- 5.2, figure 11: the key and n words more
unfoldable pub expanded : ℕ → List ℕ → ℕ → List ℕ
expanded nk key zero = key
expanded nk key (suc n) = let w = expanded nk key n in w ++ next_word nk (nk + n) w

-- 5.2: 4 (nr + 1) words, where nr is nk + 6 (section 5)
unfoldable pub key_expansion : ℕ → List ℕ → List ℕ
key_expansion nk key = expanded nk key (4 * (nk + 7) - nk)
