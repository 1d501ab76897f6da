-- The cipher by lent tables: its loop, the words that it reads, and that with the right tables it is the cipher.
-- Assumes nothing.
use mathlib.Core.Path.{◌≡◌, refl, sym, ap, ap₂, ◌∙◌}
use mathlib.Core.List.{List, ◌++◌}
use Prim.Native.Nat.{ℕ, zero, suc, ◌+◌, ◌-◌, ◌*◌, ◌≤◌, ◌<◌}
use native.Mathlib.Omega.{arith}
use lib.ListN.{take, drop, get_or}
use lib.Seq.{get_or-drop}
use Rattle.bits.specs.Blocks.{map_blocks}
use Rattle.bits.specs.Bytes.{Bytes}
use Rattle.bits.specs.Words.{le_words}
use Rattle.bits.proofs.Lists.{four, bytes_of_lem, bytes_take}
use Rattle.bits.proofs.Words.{words_bytes, words_take}
use Rattle.fips197.specs.Sbox.{sbox, SboxTable}
use Rattle.fips197.specs.Cipher.{sub_bytes, shift_rows, mix_row, mix_by, mix_columns, add_round_key, round, rounds, cipher}
use Rattle.fips197.specs.KeyExpansion.{round_key}
use Rattle.fips197.specs.Sizes.{nk, nr}
use Rattle.fips197.specs.declared.KeySize.{KeySize}
use Rattle.fips197.proofs.Schedule.{round_key_bytes, round_key-take}
use Rattle.fips197.proofs.State.{at_byte}
use Rattle.fips197.proofs.Steps.{add_round_key_bytes, round_bytes}
use Rattle.aes.specs.Columns.{staggered, mixed}
use Rattle.aes.specs.Meaning.{bytes_of, schedule}
use Rattle.aes.specs.Tables.{table_final_round}
use Rattle.aes.specs.declared.Block.{Block}
use Rattle.aes.proofs.Tables.{block_bytes, final_round_by}
use Rattle.aes_blocks.specs.Tables.{MixedTable}
use Rattle.aes_blocks.specs.TableCipher.{table_column, table_columns, table_round, table_rounds, table_cipher}
use Rattle.aes_blocks.proofs.Columns.{column_by}

module _ (t : List ℕ) where
  -- round i, after those before it
  pub rounds_more : (w : List ℕ) (i : ℕ) (s₀ : List ℕ) {s k r : List ℕ} → 1 ≤ i → s ≡ table_rounds t w (i - 1) s₀ → k ≡ round_key w i → r ≡ table_round t s k
      → r ≡ table_rounds t w (i + 1 - 1) s₀
  unfolding table_rounds
  rounds_more w i s₀ h inv key e =
      let p : suc (i - 1) ≡ i + 1 - 1 = omega arith in
      let q : i ≡ i - 1 + 1 = omega arith in
      e ∙ ap₂ (table_round t) inv (key ∙ ap (round_key w) q) ∙ ap (λ (n : ℕ). table_rounds t w n s₀) p

  rounds-take : (m : ℕ) (w : List ℕ) (n : ℕ) (s : List ℕ) → 16 * (n + 1) ≤ m → table_rounds t (take m w) n s ≡ table_rounds t w n s
  unfolding table_rounds
  rounds-take m w zero s h = refl
  rounds-take m w (suc n) s h = ap₂ (table_round t) (rounds-take m w n s (omega arith)) (round_key-take m w (n + 1) (omega arith))

module _ (t f : List ℕ) where
  pub cipher_ends : (w : List ℕ) (nr i : ℕ) (b : List ℕ) {s₀ s k₀ k r : List ℕ} → i ≡ nr → k₀ ≡ round_key w 0 → s₀ ≡ add_round_key b k₀
      → s ≡ table_rounds t w (i - 1) s₀ → k ≡ round_key w nr → r ≡ table_final_round f s k → r ≡ table_cipher t f w nr b
  unfolding table_cipher
  cipher_ends w nr i b e key first inv last end =
      end ∙ ap₂ (table_final_round f) (inv ∙ ap₂ (λ (n : ℕ) (s : List ℕ). table_rounds t w (n - 1) s) e (first ∙ ap (add_round_key b) key)) last

  -- it reads its schedule and not the words past it
  cipher-take : (m : ℕ) (w : List ℕ) (n : ℕ) (b : List ℕ) → 16 * (n + 1) ≤ m → table_cipher t f (take m w) n b ≡ table_cipher t f w n b
  unfolding table_cipher
  cipher-take m w n b h =
      ap₂ (table_final_round f) (rounds-take t m w (n - 1) (add_round_key b (round_key (take m w) 0)) (omega arith)
      ∙ ap (λ (k : List ℕ). table_rounds t w (n - 1) (add_round_key b k)) (round_key-take m w 0 (omega arith))) (round_key-take m w n h)

  pub cipher-schedule : (size : KeySize) (w : List ℕ) {n : ℕ} → n ≡ nr size → (b : List ℕ)
      → table_cipher t f (le_words 4 w) n b ≡ table_cipher t f (schedule size w) (nr size) b
  cipher-schedule size w e b =
      ap (λ (m : ℕ). table_cipher t f (le_words 4 w) m b) e
      ∙ sym (cipher-take (4 * (4 * (nk size + 7))) (le_words 4 w) (nr size) b (omega arith))
      ∙ ap (λ (l : List ℕ). table_cipher t f l (nr size) b) (sym (words_take 4 (4 * (nk size + 7)) w))

-- ---- with the right tables

module _ (t : List ℕ) (rule : MixedTable t) where
  columns_by : (s : List ℕ) → Bytes s → table_columns t (shift_rows s) ≡ mix_columns (shift_rows (sub_bytes s))
  unfolding table_columns table_column staggered mixed mix_columns mix_by shift_rows sub_bytes
  columns_by s h =
      let column = column_by mix_row sbox t rule in
      four (column _ _ _ _ (at_byte s h 0 0) (at_byte s h 1 1) (at_byte s h 2 2) (at_byte s h 3 3))
      (column _ _ _ _ (at_byte s h 0 1) (at_byte s h 1 2) (at_byte s h 2 3) (at_byte s h 3 0))
      (column _ _ _ _ (at_byte s h 0 2) (at_byte s h 1 3) (at_byte s h 2 0) (at_byte s h 3 1))
      (column _ _ _ _ (at_byte s h 0 3) (at_byte s h 1 0) (at_byte s h 2 1) (at_byte s h 3 2))

  round_by : (s k : List ℕ) → Bytes s → table_round t s k ≡ round s k
  unfolding table_round round
  round_by s k h = ap (λ (x : List ℕ). add_round_key x k) (columns_by s h)

  module _ (w : List ℕ) (words : Bytes w) where
    rounds_bytes : (n : ℕ) (s : List ℕ) → Bytes s → Bytes (rounds w n s)
    unfolding rounds
    rounds_bytes zero s h = h
    rounds_bytes (suc n) s h = round_bytes (rounds w n s) (round_key w (n + 1)) (round_key_bytes w (n + 1) words)

    rounds_by : (n : ℕ) (s : List ℕ) → Bytes s → table_rounds t w n s ≡ rounds w n s
    unfolding table_rounds rounds
    rounds_by zero s h = refl
    rounds_by (suc n) s h =
        ap (λ (x : List ℕ). table_round t x (round_key w (n + 1))) (rounds_by n s h) ∙ round_by (rounds w n s) (round_key w (n + 1)) (rounds_bytes n s h)

    pub cipher_by : (f : List ℕ) → SboxTable f → (n : ℕ) (b : List ℕ) → Bytes b → table_cipher t f w n b ≡ cipher w n b
    unfolding table_cipher cipher
    cipher_by f box n b h =
        let s = add_round_key b (round_key w 0) in
        let g = add_round_key_bytes b (round_key w 0) h (round_key_bytes w 0 words) in
        ap (λ (x : List ℕ). table_final_round f x (round_key w n)) (rounds_by (n - 1) s g)
        ∙ final_round_by f (rounds w (n - 1) s) (round_key w n) (rounds_bytes (n - 1) s g) box

-- the same under a schedule of words, of a block and of the blocks of a slice
module _ (t f : List ℕ) (rule : MixedTable t) (box : SboxTable f) (size : KeySize) (w : List ℕ) where
  pub schedule_by : (b : List ℕ) → Bytes b → table_cipher t f (schedule size w) (nr size) b ≡ cipher (schedule size w) (nr size) b
  schedule_by b h = cipher_by t rule (schedule size w) (words_bytes 4 (take (4 * (nk size + 7)) w)) f box (nr size) b h

  pub block_by : (b : Block) → table_cipher t f (schedule size w) (nr size) (bytes_of b) ≡ cipher (schedule size w) (nr size) (bytes_of b)
  block_by b = schedule_by (bytes_of b) (block_bytes b)

  pub blocks_by : (n : ℕ) (s : List ℕ) → ((i : ℕ) → get_or s i 0 < 256)
      → map_blocks (table_cipher t f (schedule size w) (nr size)) n s ≡ map_blocks (cipher (schedule size w) (nr size)) n s
  blocks_by zero s h = refl
  blocks_by (suc n) s h =
      ap₂ (λ (x y : List ℕ). x ++ y) (schedule_by (take 16 s) (bytes_take 16 s (bytes_of_lem s h)))
      (blocks_by n (drop 16 s) (λ i. rw (get_or-drop 16 s i 0) (h (16 + i))))
