-- The inverse cipher undoes the cipher, for every key schedule of bytes and every number of rounds; both give sixteen bytes.
-- Assumes nothing.
use mathlib.Core.Path.{◌≡◌, refl, ap, ◌∙◌}
use mathlib.Core.List.{List}
use Prim.Native.Nat.{ℕ, zero, suc, ◌+◌, ◌-◌}
use lib.ListN.{length}
use Rattle.bits.specs.Bytes.{Bytes}
use Rattle.bits.proofs.Xor.{xor_undo}
use Rattle.fips197.specs.State.{at, state}
use Rattle.fips197.specs.Cipher.{sub_bytes, shift_rows, mix_by, mix_columns, add_round_key, round, final_round, rounds, cipher}
use Rattle.fips197.specs.InvCipher.{inv_shift_rows, inv_sub_bytes, inv_mix_columns, inv_final_round, inv_round, inv_rounds, inv_cipher}
use Rattle.fips197.specs.KeyExpansion.{round_key, key_expansion}
use Rattle.fips197.specs.Aes.{encrypt, decrypt}
use Rattle.fips197.proofs.Sbox.{inv_sbox_lem}
use Rattle.fips197.proofs.State.{at_byte, state_ext, state-at}
use Rattle.fips197.proofs.Mix.{unmix}
use Rattle.fips197.proofs.Steps.{add_round_key_bytes, shift_rows_bytes, round_bytes, final_round_bytes, inv_final_round_bytes}
use Rattle.fips197.proofs.Schedule.{round_key_bytes, expansion_bytes}

-- ---- the steps

undo_add : (s k : List ℕ) → add_round_key (add_round_key s k) k ≡ state (at s)
unfolding add_round_key
undo_add s k = state_ext (λ r c. xor_undo (at s r c) (at k r c))

undo_shift : (s : List ℕ) → Bytes s → inv_sub_bytes (inv_shift_rows (shift_rows (sub_bytes s))) ≡ state (at s)
unfolding inv_sub_bytes inv_shift_rows shift_rows sub_bytes
undo_shift s h = state_ext (λ r c. inv_sbox_lem (at s r c) (at_byte s h r c))

-- ---- the rounds

undo_final : (s k : List ℕ) → Bytes s → inv_final_round (shift_rows (sub_bytes s)) k ≡ add_round_key s k
unfolding inv_final_round add_round_key
undo_final s k h = ap (λ (x : List ℕ). add_round_key x k) (undo_shift s h)

undo_round : (s k : List ℕ) → Bytes k → inv_round (shift_rows (sub_bytes (round s k))) k ≡ shift_rows (sub_bytes s)
unfolding inv_round inv_mix_columns round mix_columns mix_by shift_rows
undo_round s k h =
    let x = shift_rows (sub_bytes s) in
    ap inv_mix_columns (undo_final (round s k) k (round_bytes s k h) ∙ undo_add (mix_columns x) k) ∙ unmix x (shift_rows_bytes s)

undo_rounds : (w : List ℕ) (n : ℕ) (s : List ℕ) → Bytes w → inv_rounds w n (shift_rows (sub_bytes (rounds w n s))) ≡ shift_rows (sub_bytes s)
unfolding inv_rounds rounds
undo_rounds w zero s h = refl
undo_rounds w (suc n) s h =
    ap (inv_rounds w n) (undo_round (rounds w n s) (round_key w (n + 1)) (round_key_bytes w (n + 1) h)) ∙ undo_rounds w n s h

-- ---- the cipher

pub inv_cipher_lem : (w : List ℕ) (nr : ℕ) (b : List ℕ) → Bytes w → Bytes b → length b ≡ 16 → inv_cipher w nr (cipher w nr b) ≡ b
unfolding inv_cipher cipher final_round shift_rows
inv_cipher_lem w nr b hw hb e =
    let k = round_key w 0 in
    let s = add_round_key b k in
    let x = shift_rows (sub_bytes (rounds w (nr - 1) s)) in
    ap (λ (y : List ℕ). inv_final_round (inv_rounds w (nr - 1) y) k) (undo_add x (round_key w nr))
    ∙ ap (λ (y : List ℕ). inv_final_round y k) (undo_rounds w (nr - 1) s hw)
    ∙ undo_final s k (add_round_key_bytes b k hb (round_key_bytes w 0 hw)) ∙ undo_add b k ∙ state-at b e

pub decrypt-encrypt : (nk : ℕ) (key b : List ℕ) → Bytes key → Bytes b → length b ≡ 16 → decrypt nk key (encrypt nk key b) ≡ b
unfolding decrypt encrypt
decrypt-encrypt nk key b hk hb e = inv_cipher_lem (key_expansion nk key) (nk + 6) b (expansion_bytes nk key hk) hb e

-- ---- both give sixteen bytes

pub cipher_bytes : (w : List ℕ) (nr : ℕ) (b : List ℕ) → Bytes w → Bytes (cipher w nr b)
unfolding cipher
cipher_bytes w nr b h = final_round_bytes (rounds w (nr - 1) (add_round_key b (round_key w 0))) (round_key w nr) (round_key_bytes w nr h)

pub inv_cipher_bytes : (w : List ℕ) (nr : ℕ) (b : List ℕ) → Bytes w → Bytes (inv_cipher w nr b)
unfolding inv_cipher
inv_cipher_bytes w nr b h =
    inv_final_round_bytes (inv_rounds w (nr - 1) (add_round_key b (round_key w nr))) (round_key w 0) (round_key_bytes w 0 h)

pub cipher-length : (w : List ℕ) (nr : ℕ) (b : List ℕ) → length (cipher w nr b) ≡ 16
unfolding cipher final_round add_round_key
cipher-length w nr b = refl

pub inv_cipher-length : (w : List ℕ) (nr : ℕ) (b : List ℕ) → length (inv_cipher w nr b) ≡ 16
unfolding inv_cipher inv_final_round add_round_key
inv_cipher-length w nr b = refl

pub encrypt_bytes : (nk : ℕ) (key b : List ℕ) → Bytes key → Bytes (encrypt nk key b)
unfolding encrypt
encrypt_bytes nk key b h = cipher_bytes (key_expansion nk key) (nk + 6) b (expansion_bytes nk key h)

pub encrypt-length : (nk : ℕ) (key b : List ℕ) → length (encrypt nk key b) ≡ 16
unfolding encrypt
encrypt-length nk key b = cipher-length (key_expansion nk key) (nk + 6) b
