-- The AAD of a key type and restrictions: sixteen bytes that hold just these two, and every AAD without a reserved bit is one.
-- Assumes nothing.
use mathlib.Core.Path.{◌≡◌, sym, ap, ap₂, subst, ◌∙◌}
use mathlib.Core.Bool.{Bool, false, ◌&&◌, not}
use mathlib.Core.List.{List}
use Prim.Native.Nat.{ℕ, ◌+◌, ◌*◌, ◌^◌, ◌/◌, ◌%◌, ◌<◌}
use native.Mathlib.Nat.{lt_trans}
use native.Mathlib.Omega.{arith}
use lib.Dec.{T, eqb, eqb→eq, lit<}
use lib.ListN.{length}
use borrow.Author.Tests.{eq-eqb, not-false}
use Rattle.bits.specs.Bytes.{Bytes}
use Rattle.bits.specs.Words.{le_bytes, le_value}
use Rattle.bits.proofs.Choice.{and_left, and_right}
use Rattle.bits.proofs.Words.{le-length, le_bytes_lem, le_of_value, value_of_le}
use Rattle.handle.specs.Format.{aad, key_type, restrictions, reserved_bit_set}

pub aad-length : (t r : ℕ) → length (aad t r) ≡ 16
unfolding aad
aad-length t r = le-length 16 (t % 16 * 2 ^ 24 + r % 8)

pub aad_bytes : (t r : ℕ) → Bytes (aad t r)
unfolding aad
aad_bytes t r = le_bytes_lem 16 (t % 16 * 2 ^ 24 + r % 8)

aad_value : (t r : ℕ) → le_value (aad t r) ≡ t % 16 * 2 ^ 24 + r % 8
unfolding aad
aad_value t r =
    let x = t % 16 * 2 ^ 24 + r % 8 in
    let small : x < 2 ^ 28 = omega arith in
    value_of_le 16 x (lt_trans small (lit< tt))

pub aad-key_type : (t r : ℕ) → key_type (aad t r) ≡ t % 16
aad-key_type t r = ap (λ (v : ℕ). v / 2 ^ 24 % 16) (aad_value t r) ∙ omega arith

pub aad-restrictions : (t r : ℕ) → restrictions (aad t r) ≡ r % 8
aad-restrictions t r = ap (λ (v : ℕ). v % 8) (aad_value t r) ∙ omega arith

pub aad_reserved : (t r : ℕ) → reserved_bit_set (aad t r) ≡ false
aad_reserved t r =
    let x = t % 16 * 2 ^ 24 + r % 8 in
    let high : x / 2 ^ 28 ≡ 0 = omega arith in
    let low : x / 2 ^ 3 % 2 ^ 21 ≡ 0 = omega arith in
    ap (λ (v : ℕ). not (eqb (v / 2 ^ 28) 0 && eqb (v / 2 ^ 3 % 2 ^ 21) 0)) (aad_value t r)
    ∙ ap₂ (λ (p q : Bool). not (p && q)) (eq-eqb (x / 2 ^ 28) 0 high) (eq-eqb (x / 2 ^ 3 % 2 ^ 21) 0 low)

-- the AAD is that of what it says
pub aad_of_parts : (a : List ℕ) → Bytes a → length a ≡ 16 → reserved_bit_set a ≡ false → aad (key_type a) (restrictions a) ≡ a
unfolding aad
aad_of_parts a b e h =
    let v = le_value a in
    let p = eqb (v / 2 ^ 28) 0 in
    let q = eqb (v / 2 ^ 3 % 2 ^ 21) 0 in
    let clear : T (p && q) = subst T (sym (not-false (p && q) h)) tt in
    let high : v / 2 ^ 28 ≡ 0 = eqb→eq (v / 2 ^ 28) 0 (and_left p q clear) in
    let low : v / 2 ^ 3 % 2 ^ 21 ≡ 0 = eqb→eq (v / 2 ^ 3 % 2 ^ 21) 0 (and_right p q clear) in
    let whole : v / 2 ^ 24 % 16 % 16 * 2 ^ 24 + v % 8 % 8 ≡ v = omega arith in
    ap (le_bytes 16) whole ∙ ap (λ (n : ℕ). le_bytes n v) (sym e) ∙ le_of_value a b
