-- The algebra of exclusive or, on numbers and on lists of bytes.
-- Assumes nothing.
use mathlib.Core.Path.{◌≡◌, refl, sym, ap, ap₂, ◌∙◌}
use mathlib.Core.List.{List, [], ◌∷◌, ◌++◌}
use Prim.Native.Nat.{ℕ, zero, suc, ◌+◌, ◌*◌, ◌/◌, ◌%◌, ◌≤◌, ◌<◌}
use native.Mathlib.Nat.{mod-lt, zero-lt-suc, le_of_suc-le-suc, not-suc-le-zero, suc_inj, suc-ne-zero}
use native.Mathlib.Numerals.{add-one}
use lib.Arith.{bin_ind}
use lib.Bits.{bit_xor, differ, xor_step, xor_shr, xor_mod, xor_self, xor_zero_r, xor_comm, xor_lt}
use lib.ListN.{length, get_or, take, drop, set}
use Rattle.bits.specs.Bytes.{Bytes, xor_bytes}
use Rattle.bits.proofs.Lists.{cons}

-- no number above 1 is a bit
pub no_bit : {x : ℕ} {A : Type 0} → suc (suc x) < 2 → A
no_bit h = absurd (not-suc-le-zero (le_of_suc-le-suc (le_of_suc-le-suc h)))

bits : (x y z : ℕ) → x < 2 → y < 2 → z < 2 → differ (bit_xor x y) z ≡ differ x (bit_xor y z)
bits zero zero z p q r = refl
bits zero (suc zero) zero p q r = refl
bits zero (suc zero) (suc zero) p q r = refl
bits zero (suc zero) (suc (suc z)) p q r = no_bit r
bits zero (suc (suc y)) z p q r = no_bit q
bits (suc zero) zero z p q r = refl
bits (suc zero) (suc zero) zero p q r = refl
bits (suc zero) (suc zero) (suc zero) p q r = refl
bits (suc zero) (suc zero) (suc (suc z)) p q r = no_bit r
bits (suc zero) (suc (suc y)) z p q r = no_bit q
bits (suc (suc x)) y z p q r = no_bit p

bit : (n : ℕ) → n % 2 < 2
bit n = mod-lt n (zero-lt-suc 1)

pub xor_assoc : (a b c : ℕ) → bit_xor (bit_xor a b) c ≡ bit_xor a (bit_xor b c)
xor_assoc =
    bin_ind (λ (n : ℕ). (b c : ℕ) → bit_xor (bit_xor n b) c ≡ bit_xor n (bit_xor b c)) (λ b c. refl)
    (λ n ih b c.
    xor_step (bit_xor n b) c
    ∙ ap₂ (λ (x y : ℕ). bit_xor x (c / 2) * 2 + differ y (c % 2)) (xor_shr n b 1) (xor_mod n b 1)
    ∙ ap₂ (λ (x y : ℕ). x * 2 + y) (ih (b / 2) (c / 2)) (bits (n % 2) (b % 2) (c % 2) (bit n) (bit b) (bit c))
    ∙ ap₂ (λ (x y : ℕ). bit_xor (n / 2) x * 2 + differ (n % 2) y) (sym (xor_shr b c 1)) (sym (xor_mod b c 1))
    ∙ sym (xor_step n (bit_xor b c)))

pub xor_undo : (a b : ℕ) → bit_xor (bit_xor a b) b ≡ a
xor_undo a b = xor_assoc a b b ∙ ap (bit_xor a) (xor_self b) ∙ xor_zero_r a

pub xor_left_comm : (a b c : ℕ) → bit_xor a (bit_xor b c) ≡ bit_xor b (bit_xor a c)
xor_left_comm a b c = sym (xor_assoc a b c) ∙ ap (λ (x : ℕ). bit_xor x c) (xor_comm a b) ∙ xor_assoc b a c

-- two sums, term by term
pub interchange : (a b c d : ℕ) → bit_xor (bit_xor a b) (bit_xor c d) ≡ bit_xor (bit_xor a c) (bit_xor b d)
interchange a b c d = xor_assoc a b (bit_xor c d) ∙ ap (bit_xor a) (xor_left_comm b c d) ∙ sym (xor_assoc a c (bit_xor b d))

-- on lists of bytes
pub xor_bytes_undo : (s k : List ℕ) → length s ≤ length k → xor_bytes (xor_bytes s k) k ≡ s
xor_bytes_undo [] k h = refl
xor_bytes_undo (x ∷ s) [] h = absurd (not-suc-le-zero h)
xor_bytes_undo (x ∷ s) (y ∷ k) h = cons (xor_undo x y) (xor_bytes_undo s k (le_of_suc-le-suc h))

pub xor_length : (s k : List ℕ) → length s ≤ length k → length (xor_bytes s k) ≡ length s
xor_length [] k h = refl
xor_length (x ∷ s) [] h = absurd (not-suc-le-zero h)
xor_length (x ∷ s) (y ∷ k) h = ap suc (xor_length s k (le_of_suc-le-suc h))

pub xor_bytes_lem : (s k : List ℕ) → Bytes s → Bytes k → Bytes (xor_bytes s k)
xor_bytes_lem [] k g h = tt
xor_bytes_lem (x ∷ s) [] g h = tt
xor_bytes_lem (x ∷ s) (y ∷ k) g h = (xor_lt 8 x y g.0 h.0, xor_bytes_lem s k g.1 h.1)

-- two parts, of which the first is as long as its mask
pub xor_append : (s t k l : List ℕ) → length s ≡ length k → xor_bytes (s ++ t) (k ++ l) ≡ xor_bytes s k ++ xor_bytes t l
xor_append [] t [] l e = refl
xor_append [] t (b ∷ k) l e = absurd (suc-ne-zero (length k) (sym e))
xor_append (a ∷ s) t [] l e = absurd (suc-ne-zero (length s) e)
xor_append (a ∷ s) t (b ∷ k) l e = cons refl (xor_append s t k l (suc_inj e))

-- ---- bytes XORed in place

-- the first i bytes are XORed
abbrev pub partly : ℕ → List ℕ → List ℕ → List ℕ
partly i s t = xor_bytes (take i s) t ++ drop i s

one_more : (i : ℕ) (s t : List ℕ) → i < length s → length t ≡ length s
    → set (partly i s t) i (bit_xor (get_or (partly i s t) i 0) (get_or t i 0)) ≡ partly (suc i) s t
one_more i [] t h e = absurd (not-suc-le-zero h)
one_more zero (x ∷ s) [] h e = absurd (suc-ne-zero (length s) (sym e))
one_more zero (x ∷ s) (y ∷ t) h e = refl
one_more (suc i) (x ∷ s) [] h e = absurd (suc-ne-zero (length s) (sym e))
one_more (suc i) (x ∷ s) (y ∷ t) h e = cons refl (one_more i s t (le_of_suc-le-suc h) (suc_inj e))

pub xored_more : (i : ℕ) (s t now : List ℕ) → i < length s → length t ≡ length s → now ≡ partly i s t
    → set now i (bit_xor (get_or now i 0) (get_or t i 0)) ≡ partly (i + 1) s t
xored_more i s t now h n e =
    ap (λ (l : List ℕ). set l i (bit_xor (get_or l i 0) (get_or t i 0))) e
    ∙ one_more i s t h n
    ∙ ap (λ (k : ℕ). partly k s t) (sym (add-one i))

pub xored : (s t : List ℕ) → length t ≡ length s → partly (length s) s t ≡ xor_bytes s t
xored [] t e = refl
xored (x ∷ s) [] e = absurd (suc-ne-zero (length s) (sym e))
xored (x ∷ s) (y ∷ t) e = cons refl (xored s t (suc_inj e))
