-- The key schedule as an array of words.
-- Assumes nothing.
use mathlib.Core.Path.{◌≡◌, refl, sym, ap, ◌∙◌}
use mathlib.Core.List.{List}
use Prim.Native.Nat.{ℕ, ◌+◌, ◌*◌, ◌≤◌}
use native.Mathlib.Omega.{arith}
use lib.Dec.{lit<, lit≤}
use lib.ListN.{length, get_or, take}
use lib.Seq.{take_at}
use Rattle.bits.specs.Words.{le_bytes, le_words}
use Rattle.bits.proofs.Lists.{list4}
use Rattle.bits.proofs.Words.{get_d_words, words_take}
use Rattle.fips197.specs.KeyExpansion.{word_at, key_expansion}
use Rattle.fips197.specs.InvCipher.{inv_cipher}
use Rattle.fips197.proofs.Schedule.{inv_cipher-take, expansion_length}
use Rattle.fips197.specs.Sizes.{nk, nr}
use Rattle.aes.specs.Meaning.{key_bytes, schedule, stored_schedule}
use Rattle.aes.specs.declared.Key.{Key}
use Rattle.fips197.specs.declared.KeySize.{KeySize}
use Rattle.fips197.specs.declared.KeySize.TheVariants.{Aes128, Aes256}

-- w[i], also past the end
pub word_words : (w : List ℕ) (i : ℕ) → word_at (le_words 4 w) i ≡ le_bytes 4 (get_or w i 0)
unfolding word_at
word_words w i = list4 (get_d_words 4 w i 0 (lit< tt)) (get_d_words 4 w i 1 (lit< tt)) (get_d_words 4 w i 2 (lit< tt)) (get_d_words 4 w i 3 (lit< tt))

-- ten rounds or fourteen
pub rounds_few : (size : KeySize) → (1 ≤ nr size) × (nr size ≤ 14)
rounds_few Aes128 = (lit≤ tt, lit≤ tt)
rounds_few Aes256 = (lit≤ tt, lit≤ tt)

-- the inverse cipher reads its schedule and not the words past it
module _ (size : KeySize) (w : List ℕ) {n : ℕ} (e : n ≡ nr size) (b : List ℕ) where
  pub inv_cipher-schedule : inv_cipher (le_words 4 w) n b ≡ inv_cipher (schedule size w) (nr size) b
  inv_cipher-schedule =
      ap (λ (m : ℕ). inv_cipher (le_words 4 w) m b) e
      ∙ sym (inv_cipher-take (4 * (4 * (nk size + 7))) (le_words 4 w) (nr size) b (omega arith))
      ∙ ap (λ (l : List ℕ). inv_cipher l (nr size) b) (sym (words_take 4 (4 * (nk size + 7)) w))

-- ---- a stored schedule

key_bytes_lem : (size : KeySize) (k : Key) → length (key_bytes size k) ≡ 4 * nk size
key_bytes_lem Aes128 k = refl
key_bytes_lem Aes256 k = refl

pub schedule_stored : (size : KeySize) (k : Key) (w : List ℕ) → le_words 4 w ≡ stored_schedule size (key_bytes size k)
    → schedule size w ≡ key_expansion (nk size) (key_bytes size k)
schedule_stored size k w e =
    let long : 16 * (nk size + 7) ≡ 4 * (4 * (nk size + 7)) = omega arith in
    words_take 4 (4 * (nk size + 7)) w
    ∙ ap (take (4 * (4 * (nk size + 7)))) e
    ∙ take_at (key_expansion (nk size) (key_bytes size k)) _ _ (expansion_length (nk size) (key_bytes size k) (key_bytes_lem size k) ∙ long)
