-- Tables of mixed columns: what a sum of their entries is.
-- Assumes nothing.
use mathlib.Core.Path.{◌≡◌, sym, ap, ap₂, ◌∙◌}
use mathlib.Core.List.{List, [], ◌∷◌}
use Prim.Native.Nat.{ℕ, ◌<◌}
use native.Mathlib.Omega.{arith}
use lib.Bits.{bit_xor, xor_comm}
use lib.ListN.{get_or}
use Rattle.bits.specs.Words.{le_bytes}
use Rattle.bits.proofs.Lists.{list4}
use Rattle.bits.proofs.Xor.{xor_assoc}
use Rattle.fips197.specs.Field.{multiply}
use Rattle.fips197.specs.Cipher.{matrix_row, mix_row}
use Rattle.aes.specs.Columns.{staggered, mixed, diagonal}
use Rattle.aes_blocks.specs.Tables.{part, MixTable}
use Rattle.aes_blocks.specs.TableCipher.{entry_bytes, table_column}

-- an entry of the table made of the S-box's table
pub boxed : {a b : ℕ} {l : List ℕ} → a ≡ b → l ≡ part mix_row a 0 → l ≡ part mix_row b 0
boxed same made = made ∙ ap (λ (s : ℕ). part mix_row s 0) same

-- the second of four terms and the last exchanged
exchange : (a b c d : ℕ) → bit_xor (bit_xor (bit_xor a d) c) b ≡ bit_xor (bit_xor (bit_xor a b) c) d
exchange a b c d =
    let e : bit_xor (bit_xor d c) b ≡ bit_xor (bit_xor b c) d = xor_comm (bit_xor d c) b ∙ ap (bit_xor b) (xor_comm d c) ∙ sym (xor_assoc b c d) in
    ap (λ (x : ℕ). bit_xor x b) (xor_assoc a d c) ∙ xor_assoc a (bit_xor d c) b ∙ ap (bit_xor a) e
    ∙ sym (xor_assoc a (bit_xor b c) d) ∙ ap (λ (x : ℕ). bit_xor x d) (sym (xor_assoc a b c))

-- the parts of four bytes make the mixed column
sum_of_parts : (q : List ℕ) (a b c d : ℕ) → staggered (part q a 0) (part q d 0) (part q c 0) (part q b 0) ≡ mixed q (a ∷ b ∷ c ∷ d ∷ [])
unfolding staggered mixed matrix_row
sum_of_parts q a b c d =
    let m : ℕ → ℕ → ℕ = λ x i. multiply x (get_or q i 0) in
    list4 (exchange (m a 0) (m b 1) (m c 2) (m d 3)) (exchange (m a 3) (m b 0) (m c 1) (m d 2)) (exchange (m a 2) (m b 3) (m c 0) (m d 1)) (exchange (m a 1) (m b 2) (m c 3) (m d 0))

-- the terms of a staggered sum
pub terms : {a b c d a' b' c' d' : List ℕ} → a ≡ a' → b ≡ b' → c ≡ c' → d ≡ d' → staggered a b c d ≡ staggered a' b' c' d'
terms {c = c} {d = d} {a' = a'} {b' = b'} p q r s = ap₂ (λ (x y : List ℕ). staggered x y c d) p q ∙ ap₂ (λ (x y : List ℕ). staggered a' b' x y) r s

-- an entry, by its byte
pub entry_at : (t : List ℕ) {x i : ℕ} (j : ℕ) → x ≡ get_or t i 0 → i ≡ j → le_bytes 4 x ≡ entry_bytes t j
entry_at t j e same = ap (le_bytes 4) (e ∙ ap (λ (k : ℕ). get_or t k 0) same)

-- a column by a table, whatever matrix and whatever function it has
module _ (q : List ℕ) (f : ℕ → ℕ) (t : List ℕ) (rule : MixTable q f 256 t) where
  pub column_by : (a b c d : ℕ) → a < 256 → b < 256 → c < 256 → d < 256 → table_column t (a ∷ b ∷ c ∷ d ∷ []) ≡ mixed q (f a ∷ f b ∷ f c ∷ f d ∷ [])
  unfolding table_column
  column_by a b c d ha hb hc hd =
      terms (rule a ha) (rule d hd) (rule c hc) (rule b hb) ∙ sum_of_parts q (f a) (f b) (f c) (f d)

  -- of a byte of each of four words
  pub diagonal_by : (a b c d : ℕ) → table_column t (diagonal (λ x. x) a b c d) ≡ mixed q (diagonal f a b c d)
  diagonal_by a b c d = column_by _ _ _ _ (omega arith) (omega arith) (omega arith) (omega arith)
