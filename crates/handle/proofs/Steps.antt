-- The steps of wrapping as numbers: what the top bit, the counter and the length block are.
-- Assumes nothing.
use mathlib.Core.Path.{◌≡◌, sym, ap, ap₂, subst, ◌∙◌}
use mathlib.Core.List.{List, [], ◌∷◌, ◌++◌}
use Prim.Native.Nat.{ℕ, ◌+◌, ◌*◌, ◌^◌, ◌%◌, ◌<◌}
use native.Mathlib.Nat.{add_assoc, add-mul}
use native.Mathlib.Omega.{arith}
use lib.ListN.{length, get_or, take, drop}
use lib.Pow.{mod-pow-add, high, low}
use lib.Seq.{take-suc, take_all, take_at, drop_at, length-take-le}
use Rattle.bits.specs.Bytes.{Bytes}
use Rattle.bits.specs.Words.{le_bytes, le_value}
use Rattle.bits.proofs.Lists.{bytes_take}
use Rattle.bits.proofs.Words.{le-length, value_le, value_lt, value_append}
use Rattle.handle.specs.Wrap.{length_block, clear_top, set_top, counter_block}

-- ---- the top bit of a block is that of its number

module _ (b : List ℕ) (bytes : Bytes b) (h : length b ≡ 16) where
  abbrev rest : List ℕ
  rest = take 15 b

  abbrev last : ℕ
  last = get_or b 15 0

  rest-length : length rest ≡ 15
  rest-length = length-take-le 15 b (omega arith)

  -- the number of the first fifteen bytes and another last one
  with_last : (x : ℕ) → le_value (rest ++ (x ∷ [])) ≡ x * 2 ^ 120 + le_value rest
  with_last x =
      let e : x + 256 * 0 ≡ x = omega arith in
      value_append rest (x ∷ []) ∙ ap₂ (λ (n y : ℕ). le_value rest + 256 ^ n * y) rest-length e ∙ swap (le_value rest) x
    where
      swap : (v x : ℕ) → v + 2 ^ 120 * x ≡ x * 2 ^ 120 + v
      swap v x = omega arith

  whole : le_value b ≡ last * 2 ^ 120 + le_value rest
  whole = ap le_value (sym (take_all 16 b (omega arith)) ∙ take-suc b 15 0 (omega arith)) ∙ with_last last

  small : le_value rest < 2 ^ 120
  small = subst (λ (n : ℕ). le_value rest < 256 ^ n) rest-length (value_lt rest (bytes_take 15 b bytes))

  below : le_value b % 2 ^ 127 ≡ last % 128 * 2 ^ 120 + le_value rest
  below =
      ap (λ (v : ℕ). v % 2 ^ 127) whole ∙ mod-pow-add (last * 2 ^ 120 + le_value rest) 7 120
      ∙ ap₂ (λ (x y : ℕ). x % 128 * 2 ^ 120 + y) (high last 120 small) (low last 120 small)

  pub clear_top_lem : le_value (clear_top b) ≡ le_value b % 2 ^ 127
  unfolding clear_top
  clear_top_lem = with_last (last % 128) ∙ sym below

  pub set_top_lem : le_value (set_top b) ≡ 2 ^ 127 + le_value b % 2 ^ 127
  unfolding set_top
  set_top_lem =
      with_last (128 + last % 128)
      ∙ ap (λ (v : ℕ). v + le_value rest) (add-mul 128 (last % 128) (2 ^ 120))
      ∙ add_assoc (2 ^ 127) (last % 128 * 2 ^ 120) (le_value rest)
      ∙ ap (λ (v : ℕ). 2 ^ 127 + v) (sym below)

-- ---- the counter: four bytes count, modulo 2^32, and the others are the tag's

pub counter_counts : (t : List ℕ) (i : ℕ) → le_value (take 4 (counter_block t i)) ≡ (le_value (take 4 t) + i) % 2 ^ 32
unfolding counter_block
counter_counts t i =
    let x = le_value (take 4 t) + i in
    ap le_value (take_at (le_bytes 4 x) (drop 4 (set_top t)) 4 (le-length 4 x)) ∙ value_le 4 x

pub counter_keeps : (t : List ℕ) (i : ℕ) → drop 4 (counter_block t i) ≡ drop 4 (set_top t)
unfolding counter_block
counter_keeps t i =
    let x = le_value (take 4 t) + i in
    drop_at (le_bytes 4 x) (drop 4 (set_top t)) 4 (le-length 4 x)

-- ---- the length block, in bits: 128 for the AAD, 128 for each block of the key

pub length_block_lem : (aad key : List ℕ) (n : ℕ) → length aad ≡ 16 → length key ≡ 16 * n → length_block aad key ≡ le_bytes 8 128 ++ le_bytes 8 (128 * n)
unfolding length_block
length_block_lem aad key n ha hk =
    let e : 8 * length aad ≡ 128 = omega arith in
    let f : 8 * length key ≡ 128 * n = omega arith in
    ap₂ (λ (x y : ℕ). le_bytes 8 x ++ le_bytes 8 y) e f
