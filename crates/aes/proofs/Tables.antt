-- With the right tables, the steps by a table are those of FIPS 197.
-- Assumes nothing.
use mathlib.Core.Path.{◌≡◌, ap}
use mathlib.Core.List.{List, [], ◌∷◌}
use Prim.Native.Nat.{ℕ, ◌+◌, ◌-◌, ◌%◌}
use Rattle.bits.specs.Bytes.{Bytes}
use Rattle.bits.proofs.Words.{words_bytes}
use Rattle.fips197.specs.State.{at}
use Rattle.fips197.specs.Sbox.{SboxTable, InvSboxTable}
use Rattle.fips197.specs.Cipher.{sub_bytes, shift_rows, add_round_key, final_round}
use Rattle.fips197.specs.InvCipher.{inv_sub_bytes, inv_shift_rows, inv_final_round}
use Rattle.fips197.proofs.State.{at_byte, state_ext, state_bytes}
use Rattle.aes.specs.Meaning.{bytes_of}
use Rattle.aes.specs.Tables.{table_sub_bytes, table_final_round, table_inv_final_round}
use Rattle.aes.specs.declared.Block.{Block}

-- a block is bytes
pub block_bytes : (b : Block) → Bytes (bytes_of b)
block_bytes b = words_bytes 4 (b.a ∷ b.b ∷ b.c ∷ b.d ∷ [])

module _ (t s k : List ℕ) (h : Bytes s) where
  pub final_round_by : SboxTable t → table_final_round t s k ≡ final_round s k
  unfolding table_final_round table_sub_bytes final_round sub_bytes
  final_round_by rule = ap (λ (x : List ℕ). add_round_key (shift_rows x) k) (state_ext (λ r c. rule (at s r c) (at_byte s h r c)))

  shifted_bytes : Bytes (inv_shift_rows s)
  unfolding inv_shift_rows
  shifted_bytes = state_bytes _ (λ r c. at_byte s h r ((c + 4 - r) % 4))

  pub inv_final_round_by : InvSboxTable t → table_inv_final_round t s k ≡ inv_final_round s k
  unfolding table_inv_final_round table_sub_bytes inv_final_round inv_sub_bytes
  inv_final_round_by rule =
      ap (λ (x : List ℕ). add_round_key x k) (state_ext (λ r c. rule (at (inv_shift_rows s) r c) (at_byte (inv_shift_rows s) shifted_bytes r c)))
