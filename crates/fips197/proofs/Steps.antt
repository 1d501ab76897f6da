-- Each step of the cipher and of its inverse gives bytes; those that go through an S-box give them from any state.
-- Assumes nothing.
use mathlib.Core.List.{List}
use Prim.Native.Nat.{ℕ}
use lib.Bits.{xor_lt}
use Rattle.bits.specs.Bytes.{Bytes}
use Rattle.fips197.specs.State.{at}
use Rattle.fips197.specs.Cipher.{sub_bytes, shift_rows, mix_row, mix_columns, add_round_key, round, final_round}
use Rattle.fips197.specs.InvCipher.{inv_sub_bytes, inv_shift_rows, inv_final_round}
use Rattle.fips197.proofs.Sbox.{sbox_byte, inv_sbox_byte}
use Rattle.fips197.proofs.State.{at_byte, state_bytes}
use Rattle.fips197.proofs.Mix.{mix_bytes}

pub add_round_key_bytes : (s k : List ℕ) → Bytes s → Bytes k → Bytes (add_round_key s k)
unfolding add_round_key
add_round_key_bytes s k hs hk = state_bytes _ (λ r c. xor_lt 8 (at s r c) (at k r c) (at_byte s hs r c) (at_byte k hk r c))

pub shift_rows_bytes : (s : List ℕ) → Bytes (shift_rows (sub_bytes s))
unfolding shift_rows sub_bytes
shift_rows_bytes s = search sbox_byte

pub inv_sub_bytes_bytes : (s : List ℕ) → Bytes (inv_sub_bytes s)
unfolding inv_sub_bytes
inv_sub_bytes_bytes s = search inv_sbox_byte

pub round_bytes : (s k : List ℕ) → Bytes k → Bytes (round s k)
unfolding round mix_columns
round_bytes s k h =
    let x = shift_rows (sub_bytes s) in
    add_round_key_bytes (mix_columns x) k (mix_bytes mix_row x (shift_rows_bytes s)) h

pub final_round_bytes : (s k : List ℕ) → Bytes k → Bytes (final_round s k)
unfolding final_round
final_round_bytes s k h = add_round_key_bytes (shift_rows (sub_bytes s)) k (shift_rows_bytes s) h

pub inv_final_round_bytes : (s k : List ℕ) → Bytes k → Bytes (inv_final_round s k)
unfolding inv_final_round
inv_final_round_bytes s k h = add_round_key_bytes (inv_sub_bytes (inv_shift_rows s)) k (inv_sub_bytes_bytes (inv_shift_rows s)) h
