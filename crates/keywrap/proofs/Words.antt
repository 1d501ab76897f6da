-- The word forms of the steps on a block: top bit, counter, comparison.
-- Assumes nothing.
use mathlib.Core.Path.{◌≡◌, refl, sym, ap, ap₂, subst, ◌∙◌}
use mathlib.Core.Bool.{Bool, ◌&&◌, and_assoc}
use mathlib.Core.List.{List, [], ◌∷◌, ◌++◌}
use Prim.Native.Nat.{ℕ, ◌+◌, ◌/◌, ◌%◌, ◌^◌, ◌<◌}
use native.Mathlib.Nat.{suc_inj, suc-ne-zero}
use native.Mathlib.Omega.{arith}
use lib.Dec.{T, eqb}
use lib.ListN.{length}
use borrow.Author.Tests.{eq-eqb, eqb-true}
use Rattle.std.specs.Cmp.{both_ways}
use Rattle.bits.specs.Bytes.{alike}
use Rattle.bits.specs.Words.{le_bytes}
use Rattle.bits.proofs.Lists.{list4, four, alike-eq, alike_self}
use Rattle.bits.proofs.Words.{le_injective, value_of_le}
use Rattle.handle.specs.Wrap.{clear_top, set_top, counter_block}

-- the bytes of four words
abbrev block : ℕ → ℕ → ℕ → ℕ → List ℕ
block a b c d = le_bytes 4 a ++ le_bytes 4 b ++ le_bytes 4 c ++ le_bytes 4 d

pub clear_top_lem : (a b c d : ℕ) → block a b c (d % 2 ^ 31) ≡ clear_top (block a b c d)
unfolding clear_top
clear_top_lem a b c d =
    four {p = le_bytes 4 a} {q = le_bytes 4 b} {r = le_bytes 4 c} refl refl refl
    (list4 {a' = d % 256} {b' = d / 256 % 256} {c' = d / 256 / 256 % 256} {d' = d / 256 / 256 / 256 % 256 % 128} (omega arith) (omega arith) (omega arith) (omega arith))

-- the last word with its top bit set
top_word : (d : ℕ) → le_bytes 4 (d % 2 ^ 31 + 2 ^ 31) ≡ d % 256 ∷ d / 256 % 256 ∷ d / 256 / 256 % 256 ∷ (128 + d / 256 / 256 / 256 % 256 % 128) ∷ []
top_word d = list4 (omega arith) (omega arith) (omega arith) (omega arith)

-- four bytes count modulo 2^32
counted : (x : ℕ) → le_bytes 4 (x % 2 ^ 32) ≡ le_bytes 4 x
counted x = list4 (omega arith) (omega arith) (omega arith) (omega arith)

pub counter_block_lem : (a b c d i : ℕ) → a < 2 ^ 32 → block ((a + i) % 2 ^ 32) b c (d % 2 ^ 31 + 2 ^ 31) ≡ counter_block (block a b c d) i
unfolding counter_block set_top
counter_block_lem a b c d i h =
    four {q = le_bytes 4 b} {r = le_bytes 4 c} (counted (a + i) ∙ ap (λ (n : ℕ). le_bytes 4 (n + i)) (sym (value_of_le 4 a h))) refl refl (top_word d)

-- ---- comparison

words_alike : (n x y : ℕ) → x < 256 ^ n → y < 256 ^ n → eqb x y ≡ alike (le_bytes n x) (le_bytes n y)
words_alike n x y h k =
    both_ways (eqb x y) (alike (le_bytes n x) (le_bytes n y))
    (λ e. ap (λ (z : ℕ). alike (le_bytes n x) (le_bytes n z)) (sym (eqb-true x y e)) ∙ alike_self (le_bytes n x))
    (λ e. eq-eqb x y (le_injective n x y h k (alike-eq (le_bytes n x) (le_bytes n y) (subst T (sym e) tt))))

alike-append : (l m l' m' : List ℕ) → length l ≡ length l' → alike (l ++ m) (l' ++ m') ≡ alike l l' && alike m m'
alike-append [] m [] m' h = refl
alike-append [] m (y ∷ l') m' h = absurd (suc-ne-zero _ (sym h))
alike-append (x ∷ l) m [] m' h = absurd (suc-ne-zero _ h)
alike-append (x ∷ l) m (y ∷ l') m' h =
    ap (λ (b : Bool). eqb x y && b) (alike-append l m l' m' (suc_inj h)) ∙ sym (and_assoc (eqb x y) (alike l l') (alike m m'))

pub blocks_alike : (a b c d a' b' c' d' : ℕ) → a < 2 ^ 32 → b < 2 ^ 32 → c < 2 ^ 32 → d < 2 ^ 32 → a' < 2 ^ 32 → b' < 2 ^ 32 → c' < 2 ^ 32 → d' < 2 ^ 32
    → (((eqb a a' && eqb b b') && eqb c c') && eqb d d') ≡ alike (block a b c d) (block a' b' c' d')
blocks_alike a b c d a' b' c' d' ha hb hc hd ka kb kc kd =
    ap₂ (λ (p q : Bool). p && q)
    (ap₂ (λ (p q : Bool). p && q)
    (ap₂ (λ (p q : Bool). p && q) (words_alike 4 a a' ha ka) (words_alike 4 b b' hb kb)
    ∙ sym (alike-append (le_bytes 4 a) (le_bytes 4 b) (le_bytes 4 a') (le_bytes 4 b') refl))
    (words_alike 4 c c' hc kc)
    ∙ sym (alike-append (le_bytes 4 a ++ le_bytes 4 b) (le_bytes 4 c) (le_bytes 4 a' ++ le_bytes 4 b') (le_bytes 4 c') refl))
    (words_alike 4 d d' hd kd)
    ∙ sym (alike-append (le_bytes 4 a ++ le_bytes 4 b ++ le_bytes 4 c) (le_bytes 4 d) (le_bytes 4 a' ++ le_bytes 4 b' ++ le_bytes 4 c') (le_bytes 4 d') refl)
