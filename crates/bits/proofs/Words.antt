-- Words and their bytes, over the width: n is the number of bytes.
-- Assumes nothing.
use mathlib.Core.Path.{◌≡◌, refl, sym, ap, ap₂, subst, subst₂, ◌∙◌}
use mathlib.Core.List.{List, [], ◌∷◌, ◌++◌, append_assoc}
use Prim.Native.Nat.{ℕ, zero, suc, ◌+◌, ◌*◌, ◌/◌, ◌%◌, ◌^◌, ◌<◌}
use native.Mathlib.Nat.{mod-lt, mod-one, mod-eq_of_lt, one-le-pow, mul-suc, mul-one, one-mul, mul_comm, mul_assoc, add-zero, zero-add, suc-add, pow-suc, div-lt_iff_lt-mul}
use native.Mathlib.Omega.{arith}
use lib.Arith.{digits_lt, digits_div, digits_mod, mod-mul, lt-one}
use lib.Bits.{bit_xor, bit_and, xor_shr, xor_mod, and_shr, and_mod}
use lib.Dec.{lit<}
use lib.ListN.{length, get_or, take, get_or-append}
use lib.Seq.{get_or-append-add, take-nil, take-append-add}
use Rattle.bits.specs.Bytes.{Bytes, zip_bytes, xor_bytes}
use Rattle.bits.specs.Words.{le_bytes, le_value, le_words}
use Rattle.bits.proofs.Lists.{cons, bytes_append}

pub le-length : (n x : ℕ) → length (le_bytes n x) ≡ n
le-length zero x = refl
le-length (suc n) x = ap suc (le-length n (x / 256))

pub le_bytes_lem : (n x : ℕ) → Bytes (le_bytes n x)
le_bytes_lem zero x = tt
le_bytes_lem (suc n) x = (mod-lt x (lit< tt), le_bytes_lem n (x / 256))

-- an operation that works on bits alone works byte by byte
module _ (f : ℕ → ℕ → ℕ) (low : (x y : ℕ) → f x y % 256 ≡ f (x % 256) (y % 256)) (high : (x y : ℕ) → f x y / 256 ≡ f (x / 256) (y / 256)) where
  le_zip : (n x y : ℕ) → le_bytes n (f x y) ≡ zip_bytes f (le_bytes n x) (le_bytes n y)
  le_zip zero x y = refl
  le_zip (suc n) x y = cons (low x y) (ap (le_bytes n) (high x y) ∙ le_zip n (x / 256) (y / 256))

pub le_xor : (n x y : ℕ) → le_bytes n (bit_xor x y) ≡ xor_bytes (le_bytes n x) (le_bytes n y)
le_xor = le_zip bit_xor (λ x y. xor_mod x y 8) (λ x y. xor_shr x y 8)

pub le-and : (n x y : ℕ) → le_bytes n (bit_and x y) ≡ zip_bytes bit_and (le_bytes n x) (le_bytes n y)
le-and = le_zip bit_and (λ x y. and_mod x y 8) (λ x y. and_shr x y 8)

-- bytes, their number, and bytes again
pub le_of_value : (l : List ℕ) → Bytes l → le_bytes (length l) (le_value l) ≡ l
le_of_value [] h = refl
le_of_value (b ∷ l) h =
    let v = le_value l in
    let e : b + 256 * v ≡ v * 256 + b = omega arith in
    cons (ap (λ (x : ℕ). x % 256) e ∙ digits_mod v h.0)
    (ap (λ (x : ℕ). le_bytes (length l) (x / 256)) e ∙ ap (le_bytes (length l)) (digits_div v h.0) ∙ le_of_value l h.1)

-- a number, its n low bytes, and the number again
pub value_le : (n x : ℕ) → le_value (le_bytes n x) ≡ x % 256 ^ n
value_le zero x = sym (mod-one x)
value_le (suc n) x =
    let q = x / 256 in
    let p = 256 ^ n in
    let e : x % 256 + 256 * (q % p) ≡ q % p * 256 + x % 256 = omega arith in
    ap (λ (v : ℕ). x % 256 + 256 * v) (value_le n q) ∙ e
    ∙ sym (ap (λ (m : ℕ). x % m) (pow-suc 256 n) ∙ mod-mul x (one-le-pow n 256 (lit< tt)) (lit< tt))

-- where it fits
pub value_of_le : (n x : ℕ) → x < 256 ^ n → le_value (le_bytes n x) ≡ x
value_of_le n x h = value_le n x ∙ mod-eq_of_lt h

pub value_lt : (l : List ℕ) → Bytes l → le_value l < 256 ^ length l
value_lt [] h = lit< tt
value_lt (b ∷ l) h =
    subst₂ (λ (v m : ℕ). v < m) (mul_comm_add (le_value l) b) (sym (pow-suc 256 (length l))) (digits_lt (value_lt l h.1) h.0)
  where
    mul_comm_add : (v b : ℕ) → v * 256 + b ≡ b + 256 * v
    mul_comm_add v b = omega arith

-- numbers that fit are told apart by their bytes
pub le_injective : (n x y : ℕ) → x < 256 ^ n → y < 256 ^ n → le_bytes n x ≡ le_bytes n y → x ≡ y
le_injective n x y h k e = sym (value_of_le n x h) ∙ ap le_value e ∙ value_of_le n y k

-- two runs of bytes
pub value_append : (l m : List ℕ) → le_value (l ++ m) ≡ le_value l + 256 ^ length l * le_value m
value_append [] m = sym (zero-add (1 * le_value m) ∙ one-mul (le_value m))
value_append (b ∷ l) m =
    let p = 256 ^ length l in
    let v = le_value m in
    let e : 256 ^ suc (length l) * v ≡ 256 * (p * v) =
    ap (λ (n : ℕ). n * v) (pow-suc 256 (length l) ∙ mul_comm p 256) ∙ mul_assoc 256 p v in
    ap (λ (n : ℕ). b + 256 * n) (value_append l m) ∙ distribute b (le_value l) (p * v) ∙ ap (λ (n : ℕ). b + 256 * le_value l + n) (sym e)
  where
    distribute : (b x y : ℕ) → b + 256 * (x + y) ≡ b + 256 * x + 256 * y
    distribute b x y = omega arith

pub le-append : (n m x y : ℕ) → x < 256 ^ n → le_bytes (n + m) (y * 256 ^ n + x) ≡ le_bytes n x ++ le_bytes m y
le-append zero m x y h =
    ap₂ le_bytes (zero-add m) (ap (λ (z : ℕ). y * 1 + z) (lt-one h) ∙ add-zero (y * 1) ∙ mul-one y)
le-append (suc n) m x y h =
    let p = 256 ^ n in
    let e : y * 256 ^ suc n ≡ y * p * 256 = ap (λ (z : ℕ). y * z) (pow-suc 256 n) ∙ sym (mul_assoc y p 256) in
    let l : x / 256 < p = (div-lt_iff_lt-mul (lit< tt)).1 (subst (λ (z : ℕ). x < z) (pow-suc 256 n) h) in
    ap₂ (λ (k z : ℕ). le_bytes k (z + x)) (suc-add n m) e
    ∙ cons (low (y * p) x) (ap (le_bytes (n + m)) (high (y * p) x) ∙ le-append n m (x / 256) y l)
  where
    low : (q x : ℕ) → (q * 256 + x) % 256 ≡ x % 256
    low q x = omega arith

    high : (q x : ℕ) → (q * 256 + x) / 256 ≡ q + x / 256
    high q x = omega arith

le-zero : (n j : ℕ) → get_or (le_bytes n 0) j 0 ≡ 0
le-zero zero j = refl
le-zero (suc n) zero = refl
le-zero (suc n) (suc j) = le-zero n j

-- byte j of word i, also past the end
pub get_d_words : (n : ℕ) (l : List ℕ) (i j : ℕ) → j < n → get_or (le_words n l) (n * i + j) 0 ≡ get_or (le_bytes n (get_or l i 0)) j 0
get_d_words n [] i j h = sym (le-zero n j)
get_d_words n (x ∷ l) zero j h =
    let e : n * 0 + j ≡ j = omega arith in
    let k : j < length (le_bytes n x) = rw le-length h in
    ap (λ (m : ℕ). get_or (le_bytes n x ++ le_words n l) m 0) e ∙ get_or-append (le_bytes n x) (le_words n l) 0 j k
get_d_words n (x ∷ l) (suc i) j h =
    let e : n * suc i + j ≡ length (le_bytes n x) + (n * i + j) = rw (le-length, mul-suc) (omega arith) in
    ap (λ (m : ℕ). get_or (le_bytes n x ++ le_words n l) m 0) e ∙ get_or-append-add (le_bytes n x) (le_words n l) (n * i + j) 0 ∙ get_d_words n l i j h

pub words_append : (n : ℕ) (l m : List ℕ) → le_words n (l ++ m) ≡ le_words n l ++ le_words n m
words_append n [] m = refl
words_append n (x ∷ l) m = ap (λ (w : List ℕ). le_bytes n x ++ w) (words_append n l m) ∙ sym (append_assoc (le_bytes n x) (le_words n l) (le_words n m))

pub words_take : (n i : ℕ) (l : List ℕ) → le_words n (take i l) ≡ take (n * i) (le_words n l)
words_take n zero l =
    let e : 0 ≡ n * 0 = omega arith in
    ap (λ (m : ℕ). take m (le_words n l)) e
words_take n (suc i) [] = sym (take-nil (n * suc i))
words_take n (suc i) (x ∷ l) =
    let e : length (le_bytes n x) + n * i ≡ n * suc i = rw (le-length, mul-suc) (omega arith) in
    ap (λ (w : List ℕ). le_bytes n x ++ w) (words_take n i l)
    ∙ sym (take-append-add (le_bytes n x) (le_words n l) (n * i))
    ∙ ap (λ (m : ℕ). take m (le_bytes n x ++ le_words n l)) e

pub words_bytes : (n : ℕ) (l : List ℕ) → Bytes (le_words n l)
words_bytes n [] = tt
words_bytes n (x ∷ l) = bytes_append (le_bytes n x) (le_words n l) (le_bytes_lem n x) (words_bytes n l)
