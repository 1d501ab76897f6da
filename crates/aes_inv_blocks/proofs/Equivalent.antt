-- FIPS 197 section 5.3.5: a round of the inverse cipher whose key is added after InvMixColumns.
-- Assumes nothing.
use mathlib.Core.Path.{◌≡◌, sym, ap, ◌∙◌}
use mathlib.Core.List.{List}
use Prim.Native.Nat.{ℕ, ◌+◌, ◌*◌, ◌<◌}
use native.Mathlib.Omega.{arith}
use lib.ListN.{get_or}
use Rattle.bits.specs.Words.{le_bytes, le_words}
use Rattle.bits.proofs.Lists.{four}
use Rattle.bits.proofs.Words.{words_bytes}
use Rattle.fips197.specs.Cipher.{add_round_key, mix_by}
use Rattle.fips197.specs.InvCipher.{inv_mix_row, inv_mix_columns, inv_sub_bytes, inv_shift_rows, inv_round}
use Rattle.fips197.specs.KeyExpansion.{word_at, round_key}
use Rattle.fips197.proofs.Equivalent.{inv_round_lem}
use Rattle.fips197.proofs.Schedule.{round_key_bytes}
use Rattle.aes.specs.Columns.{mixed}
use Rattle.aes.proofs.KeySchedule.{word_words}
use Rattle.aes_inv_blocks.specs.Tables.{InvMixed}

module _ (w v : List ℕ) (m n : ℕ) (below : n < m) (rule : InvMixed w (4 * m) v) where
  inv_mixed_key : round_key (le_words 4 v) n ≡ inv_mix_columns (round_key (le_words 4 w) n)
  unfolding round_key mixed inv_mix_columns mix_by
  inv_mixed_key =
      let word : (j : ℕ) → j < 4 → word_at (le_words 4 v) (4 * n + j) ≡ mixed inv_mix_row (le_bytes 4 (get_or w (4 * n + j) 0)) =
      λ j h. word_words v (4 * n + j) ∙ rule (4 * n + j) (omega arith) in
      let key : (j : ℕ) → word_at (le_words 4 w) (4 * n + j) ≡ le_bytes 4 (get_or w (4 * n + j) 0) = λ j. word_words w (4 * n + j) in
      four (word 0 (omega arith)) (word 1 (omega arith)) (word 2 (omega arith)) (word 3 (omega arith))
      ∙ ap inv_mix_columns (sym (four (key 0) (key 1) (key 2) (key 3)))

  pub equivalent_round : (s : List ℕ) {k r : List ℕ} → k ≡ round_key (le_words 4 v) n
      → r ≡ add_round_key (inv_mix_columns (inv_sub_bytes (inv_shift_rows s))) k → r ≡ inv_round s (round_key (le_words 4 w) n)
  equivalent_round s key e =
      e ∙ ap (add_round_key (inv_mix_columns (inv_sub_bytes (inv_shift_rows s)))) (key ∙ inv_mixed_key)
      ∙ sym (inv_round_lem s (round_key (le_words 4 w) n) (round_key_bytes (le_words 4 w) n (words_bytes 4 w)))
