-- The loops over the rounds of the inverse cipher: one round more, and the end.
-- Assumes nothing.
use mathlib.Core.Path.{◌≡◌, sym, ap, ap₂, ◌∙◌}
use mathlib.Core.List.{List}
use Prim.Native.Nat.{ℕ, suc, ◌+◌, ◌-◌, ◌≤◌}
use native.Mathlib.Omega.{arith}
use Rattle.bits.specs.Bytes.{Bytes}
use Rattle.fips197.specs.Sbox.{InvSboxTable}
use Rattle.fips197.specs.Cipher.{add_round_key}
use Rattle.fips197.specs.InvCipher.{inv_round, inv_final_round, inv_rounds, inv_cipher}
use Rattle.fips197.specs.KeyExpansion.{round_key}
use Rattle.aes.specs.Tables.{table_inv_final_round}
use Rattle.aes.proofs.Tables.{inv_final_round_by}

module _ (w : List ℕ) where
  -- counting down: round i, then those below it, which is all that is left
  pub inv_rounds_more : (i : ℕ) (s : List ℕ) {a k r : List ℕ} → 1 ≤ i → inv_rounds w i s ≡ a → k ≡ round_key w i → r ≡ inv_round s k
      → inv_rounds w (i - 1) r ≡ a
  unfolding inv_rounds
  inv_rounds_more i s h inv key e =
      let f : suc (i - 1) ≡ i = omega arith in
      let g : i ≡ i - 1 + 1 = omega arith in
      ap (inv_rounds w (i - 1)) (e ∙ ap (inv_round s) (key ∙ ap (round_key w) g)) ∙ ap (λ (n : ℕ). inv_rounds w n s) f ∙ inv

  -- the last round is by a table
  pub inv_cipher_ends : (t : List ℕ) → InvSboxTable t → (nr i : ℕ) (b s : List ℕ) {s₀ k₀ k r : List ℕ} → Bytes s → i ≡ 0 → k₀ ≡ round_key w nr
      → s₀ ≡ add_round_key b k₀ → inv_rounds w i s ≡ inv_rounds w (nr - 1) s₀ → k ≡ round_key w 0 → r ≡ table_inv_final_round t s k → r ≡ inv_cipher w nr b
  unfolding inv_cipher inv_rounds
  inv_cipher_ends t rule nr i b s {k = k} h e key first inv last end =
      end ∙ inv_final_round_by t s k h rule ∙ ap₂ inv_final_round (ap (λ (n : ℕ). inv_rounds w n s) (sym e) ∙ inv ∙ ap (inv_rounds w (nr - 1)) (first ∙ ap (add_round_key b) key)) last
