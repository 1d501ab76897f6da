-- FIPS 197 section 5.3.5: a round of the inverse cipher may add the round key last, if InvMixColumns is applied to that key too.
-- Assumes nothing.
use mathlib.Core.Path.{◌≡◌}
use mathlib.Core.List.{List}
use Prim.Native.Nat.{ℕ}
use Rattle.bits.specs.Bytes.{Bytes}
use Rattle.fips197.specs.Cipher.{add_round_key}
use Rattle.fips197.specs.InvCipher.{inv_sub_bytes, inv_shift_rows, inv_mix_row, inv_mix_columns, inv_final_round, inv_round}
use Rattle.fips197.proofs.Mix.{mix_add}
use Rattle.fips197.proofs.Steps.{inv_sub_bytes_bytes}

pub inv_round_lem : (s k : List ℕ) → Bytes k → inv_round s k ≡ add_round_key (inv_mix_columns (inv_sub_bytes (inv_shift_rows s))) (inv_mix_columns k)
unfolding inv_round inv_final_round inv_mix_columns
inv_round_lem s k h = mix_add inv_mix_row (inv_sub_bytes (inv_shift_rows s)) k (inv_sub_bytes_bytes (inv_shift_rows s)) h
