-- The words of the key schedule, one after the other.
-- Assumes nothing.
use mathlib.Core.Path.{◌≡◌, sym, ap, ap₂, ◌∙◌}
use mathlib.Core.Bool.{true, false, cond, ◌&&◌}
use mathlib.Core.List.{List, [], ◌∷◌, ◌++◌}
use Prim.Native.Nat.{ℕ, suc, ◌+◌, ◌-◌, ◌*◌, ◌/◌, ◌%◌, ◌^◌, ◌≤◌, ◌<◌}
use native.Mathlib.Omega.{arith}
use native.Mathlib.Numerals.{add-one}
use borrow.Author.Tests.{lt-ltb, le-ltb, eq-eqb, ne_eqb}
use lib.Bits.{bit_xor}
use lib.Dec.{eqb, ltb, eqb→eq, lit≤}
use lib.ListN.{length, get_or, set, take, drop, replicate, take-append-drop}
use lib.Seq.{get_or-take, take-take, take-suc-set, drop-drop}
use Rattle.bits.specs.Bytes.{xor_bytes}
use Rattle.bits.specs.Words.{le_bytes, le_words}
use Rattle.bits.proofs.Choice.{cond_on, cond_off}
use Rattle.bits.proofs.Lists.{list4}
use Rattle.bits.proofs.Table.{entry}
use Rattle.bits.proofs.Words.{le_xor, words_append, words_take}
use Rattle.fips197.specs.Field.{xtime}
use Rattle.fips197.specs.KeyExpansion.{word_at, add_words, sub_word, rot_word, power, rcon, transformed, next_word, expanded, key_expansion}
use Rattle.fips197.proofs.Schedule.{power_byte}
use Rattle.fips197.specs.Sizes.{nk}
use Rattle.fips197.specs.declared.KeySize.{KeySize}
use Rattle.fips197.specs.declared.KeySize.TheVariants.{Aes128, Aes256}
use Rattle.aes.specs.Meaning.{stored_schedule}
use Rattle.aes.proofs.KeySchedule.{word_words}

-- the powers of x that ten round constants need, as the code shifts for them
ten : List ℕ
ten = replicate 10 0

shifted : ℕ → ℕ
shifted j = cond (ltb j 8) (1 * 2 ^ j % 2 ^ 32) (27 * 2 ^ (j - 8) % 2 ^ 32)

powers : (j : ℕ) → j < 10 → shifted j ≡ power j
unfolding ten shifted power xtime
powers j h = eqb→eq (shifted j) (power j) (entry (λ k x. eqb (shifted k) (power k)) ten tt j h)

pub power_low : (j : ℕ) → j < 8 → 1 * 2 ^ j % 2 ^ 32 ≡ power j
unfolding shifted
power_low j h = sym (cond_on (lt-ltb j 8 h) _ _) ∙ powers j (omega arith)

pub power_high : (j : ℕ) → 8 ≤ j → j < 10 → 27 * 2 ^ (j - 8) % 2 ^ 32 ≡ power j
unfolding shifted
power_high j h k = sym (cond_off (le-ltb j 8 h) _ _) ∙ powers j k

-- ---- the three ways to a word

module _ (n i : ℕ) (l : List ℕ) where
  pub with_constant : (s p : ℕ) → i % n ≡ 0 → le_bytes 4 s ≡ sub_word (rot_word l) → p ≡ power (i / n - 1)
      → le_bytes 4 (bit_xor s p) ≡ transformed n i l
  unfolding transformed add_words sub_word rcon
  with_constant s p h e f =
      let small = power_byte (i / n - 1) in
      let bytes : le_bytes 4 p ≡ rcon (i / n) = list4 (omega arith) (omega arith) (omega arith) (omega arith) in
      le_xor 4 s p ∙ ap₂ xor_bytes e bytes ∙ sym (cond_on (eq-eqb (i % n) 0 h) _ _)

  pub substituted : (i % n ≡ 0 → ⊥) → (ltb 6 n && eqb (i % n) 4) ≡ true → sub_word l ≡ transformed n i l
  unfolding transformed
  substituted h t = sym (cond_off (ne_eqb (i % n) 0 h) _ _ ∙ cond_on t _ _)

  pub copied : (i % n ≡ 0 → ⊥) → (ltb 6 n && eqb (i % n) 4) ≡ false → l ≡ transformed n i l
  unfolding transformed
  copied h t = sym (cond_off (ne_eqb (i % n) 0 h) _ _ ∙ cond_off t _ _)

pub next_words : (n i : ℕ) (w : List ℕ) (x : ℕ) → le_bytes 4 x ≡ transformed n i (le_bytes 4 (get_or w (i - 1) 0))
    → le_bytes 4 (bit_xor (get_or w (i - n) 0) x) ≡ next_word n i (le_words 4 w)
unfolding next_word add_words
next_words n i w x e =
    le_xor 4 (get_or w (i - n) 0) x
    ∙ ap₂ add_words (sym (word_words w (i - n))) (e ∙ ap (transformed n i) (sym (word_words w (i - 1))))

-- ---- the loop

-- a word that is read lies below the word that is stored
next_local : (n i : ℕ) (w : List ℕ) → 0 < n → n ≤ i → next_word n i (le_words 4 w) ≡ next_word n i (le_words 4 (take i w))
unfolding next_word
next_local n i w h k =
    let same : (j : ℕ) → j < i → word_at (le_words 4 w) j ≡ word_at (le_words 4 (take i w)) j =
    λ j p. word_words w j ∙ ap (le_bytes 4) (sym (get_or-take i w j 0 p)) ∙ sym (word_words (take i w) j) in
    ap₂ (λ (a b : List ℕ). add_words a (transformed n i b)) (same (i - n) (omega arith)) (same (i - 1) (omega arith))

expanded_more : (n i : ℕ) (key : List ℕ) → n ≤ i
    → expanded n key (i + 1 - n) ≡ expanded n key (i - n) ++ next_word n i (expanded n key (i - n))
unfolding expanded
expanded_more n i key h =
    let e : i + 1 - n ≡ suc (i - n) = omega arith in
    let f : n + (i - n) ≡ i = omega arith in
    ap (expanded n key) e ∙ ap (λ (m : ℕ). expanded n key (i - n) ++ next_word n m (expanded n key (i - n))) f

pub expanded-none : (n : ℕ) (key : List ℕ) → key ≡ expanded n key (n - n)
unfolding expanded
expanded-none n key = let e : 0 ≡ n - n = omega arith in ap (expanded n key) e

-- one word more is stored
pub expands : (n i : ℕ) (key w : List ℕ) (x : ℕ) → 0 < n → n ≤ i → i < length w → le_words 4 (take i w) ≡ expanded n key (i - n)
    → le_bytes 4 x ≡ next_word n i (le_words 4 w) → le_words 4 (take (i + 1) (set w i x)) ≡ expanded n key (i + 1 - n)
expands n i key w x p q h inv e =
    ap (λ (m : ℕ). le_words 4 (take m (set w i x))) (add-one i)
    ∙ ap (le_words 4) (take-suc-set w i x h)
    ∙ words_append 4 (take i w) (x ∷ [])
    ∙ ap₂ (λ (a b : List ℕ). a ++ b) inv (e ∙ next_local n i w p q ∙ ap (next_word n i) inv)
    ∙ sym (expanded_more n i key q)

key_words_few : (size : KeySize) → nk size ≤ 8
key_words_few Aes128 = lit≤ tt
key_words_few Aes256 = lit≤ tt

-- the key at the front of the array, as far as its size goes
key_front : (n : ℕ) (w key : List ℕ) → n ≤ 8 → le_words 4 (take 8 w) ≡ key → le_words 4 (take n w) ≡ take (4 * n) key
key_front n w key h e = ap (le_words 4) (sym (take-take n 8 w h)) ∙ words_take 4 n (take 8 w) ∙ ap (take (4 * n)) e

-- zeros behind the key are zeros behind the schedule
zeros_left : (size : KeySize) (w : List ℕ) → drop 8 w ≡ replicate 52 0
    → le_words 4 (drop (4 * (nk size + 7)) w) ≡ replicate (4 * (60 - 4 * (nk size + 7))) 0
zeros_left Aes128 w e = ap (le_words 4) (sym (drop-drop 36 8 w) ∙ ap (drop 36) e)
zeros_left Aes256 w e = ap (le_words 4) (sym (drop-drop 52 8 w) ∙ ap (drop 52) e)

-- all words of the array, once those of the schedule are made of the first array's
pub stored : (size : KeySize) (w w₀ key : List ℕ) → le_words 4 (take (4 * (nk size + 7)) w) ≡ key_expansion (nk size) (le_words 4 (take (nk size) w₀))
    → drop (4 * (nk size + 7)) w ≡ drop (4 * (nk size + 7)) w₀ → le_words 4 (take 8 w₀) ≡ key → drop 8 w₀ ≡ replicate 52 0
    → le_words 4 w ≡ stored_schedule size (take (4 * nk size) key)
stored size w w₀ key made same front zeros =
    ap (le_words 4) (sym (take-append-drop (4 * (nk size + 7)) w))
    ∙ words_append 4 (take (4 * (nk size + 7)) w) (drop (4 * (nk size + 7)) w)
    ∙ ap₂ (λ (a b : List ℕ). a ++ b) (made ∙ ap (key_expansion (nk size)) (key_front (nk size) w₀ key (key_words_few size) front))
    (ap (le_words 4) same ∙ zeros_left size w₀ zeros)
