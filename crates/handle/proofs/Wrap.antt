-- Wrapping and unwrapping, over the number of blocks in the key: lengths, the parts of a handle, a wrapped key unwraps to itself, and a key is handed
-- out exactly where the tags agree.
-- Assumes nothing.
use mathlib.Core.Path.{◌≡◌, refl, sym, ap, ap₂, ◌∙◌}
use mathlib.Core.Bool.{Bool, true, false, cond}
use mathlib.Core.List.{List, ◌++◌, flat_map, append_assoc}
use mathlib.Core.Option.{Option, none, some, some-injective, none-ne-some}
use Prim.Native.Nat.{ℕ, zero, suc, ◌+◌, ◌*◌, ◌/◌, ◌≤◌}
use native.Mathlib.Omega.{arith}
use lib.Dec.{T}
use lib.ListN.{length, take, drop, length-append}
use lib.Seq.{take_at, drop_at}
use Rattle.bits.specs.Bytes.{Bytes, xor_bytes, alike}
use Rattle.bits.proofs.Choice.{cond_on}
use Rattle.bits.proofs.Lists.{alike-eq, alike_self, bytes_append}
use Rattle.bits.proofs.Xor.{xor_bytes_undo, xor_length, xor_bytes_lem}
use Rattle.fips197.specs.Aes.{encrypt}
use Rattle.fips197.proofs.Undo.{encrypt-length, encrypt_bytes}
use Rattle.handle.specs.Format.{handle, aad_of, tag_of, ciphertext_of}
use Rattle.handle.specs.Wrap.{hashed, clear_top, tag, counter_block, counter_blocks, keystream, masked, wrap_key, decrypted, unwrap_key}

-- ---- tag and keystream

pub tag-length : (i e aad key : List ℕ) → length (tag i e aad key) ≡ 16
unfolding tag
tag-length i e aad key = encrypt-length 8 e (clear_top (hashed i aad key))

pub tag_bytes : (i e aad key : List ℕ) → Bytes e → Bytes (tag i e aad key)
unfolding tag
tag_bytes i e aad key h = encrypt_bytes 8 e (clear_top (hashed i aad key)) h

-- the keystream from counter block i on
abbrev stream : List ℕ → List ℕ → ℕ → ℕ → List ℕ
stream e t i n = flat_map (encrypt 8 e) (counter_blocks t i n)

stream-length : (e t : List ℕ) (i n : ℕ) → length (stream e t i n) ≡ 16 * n
unfolding flat_map
stream-length e t i zero = refl
stream-length e t i (suc n) =
    length-append (encrypt 8 e (counter_block t i)) (stream e t (i + 1) n)
    ∙ omega (arith, encrypt-length 8 e (counter_block t i), stream-length e t (i + 1) n)

stream_bytes : (e t : List ℕ) (i n : ℕ) → Bytes e → Bytes (stream e t i n)
unfolding flat_map
stream_bytes e t i zero h = tt
stream_bytes e t i (suc n) h =
    bytes_append (encrypt 8 e (counter_block t i)) (stream e t (i + 1) n) (encrypt_bytes 8 e (counter_block t i) h) (stream_bytes e t (i + 1) n h)

pub keystream-length : (e t : List ℕ) (n : ℕ) → length (keystream e t n) ≡ 16 * n
unfolding keystream
keystream-length e t n = stream-length e t 0 n

pub keystream_bytes : (e t : List ℕ) (n : ℕ) → Bytes e → Bytes (keystream e t n)
unfolding keystream
keystream_bytes e t n h = stream_bytes e t 0 n h

-- ---- exclusive or with the keystream

module _ (e t s : List ℕ) (n : ℕ) (h : length s ≡ 16 * n) where
  covered : length s ≤ length (keystream e t (length s / 16))
  covered = omega (arith, keystream-length e t (length s / 16))

  pub masked-length : length (masked e t s) ≡ length s
  masked-length = xor_length s (keystream e t (length s / 16)) covered

  pub masked_twice : masked e t (masked e t s) ≡ s
  masked_twice =
      ap (λ (m : ℕ). xor_bytes (masked e t s) (keystream e t (m / 16))) masked-length ∙ xor_bytes_undo s (keystream e t (length s / 16)) covered

-- ---- the parts of a handle

pub handle_aad : (a t c : List ℕ) → length a ≡ 16 → aad_of (handle a t c) ≡ a
handle_aad a t c h = ap (take 16) (append_assoc a t c) ∙ take_at a (t ++ c) 16 h

pub handle-tag : (a t c : List ℕ) → length a ≡ 16 → length t ≡ 16 → tag_of (handle a t c) ≡ t
handle-tag a t c h k =
    ap (λ (l : List ℕ). take 16 (drop 16 l)) (append_assoc a t c) ∙ ap (take 16) (drop_at a (t ++ c) 16 h) ∙ take_at t c 16 k

pub handle_ciphertext : (a t c : List ℕ) → length a ≡ 16 → length t ≡ 16 → ciphertext_of (handle a t c) ≡ c
handle_ciphertext a t c h k = drop_at (a ++ t) c 32 (length-append a t ∙ omega arith)

pub wrap_aad : (i e aad key : List ℕ) → length aad ≡ 16 → aad_of (wrap_key i e aad key) ≡ aad
unfolding wrap_key
wrap_aad i e aad key h = handle_aad aad _ _ h

pub wrap_tag : (i e aad key : List ℕ) → length aad ≡ 16 → tag_of (wrap_key i e aad key) ≡ tag i e aad key
unfolding wrap_key
wrap_tag i e aad key h = handle-tag aad (tag i e aad key) _ h (tag-length i e aad key)

pub wrap_ciphertext : (i e aad key : List ℕ) → length aad ≡ 16
    → ciphertext_of (wrap_key i e aad key) ≡ masked e (tag i e aad key) key
unfolding wrap_key
wrap_ciphertext i e aad key h = let t = tag i e aad key in handle_ciphertext aad t (masked e t key) h (tag-length i e aad key)

pub wrap_length : (i e aad key : List ℕ) (n : ℕ) → length aad ≡ 16 → length key ≡ 16 * n → length (wrap_key i e aad key) ≡ 32 + 16 * n
unfolding wrap_key
wrap_length i e aad key n ha hk =
    let t = tag i e aad key in
    length-append (aad ++ t) (masked e t key) ∙ omega (arith, length-append aad t, tag-length i e aad key, masked-length e t key n hk)

pub wrap_bytes : (i e aad key : List ℕ) → Bytes e → Bytes aad → Bytes key → Bytes (wrap_key i e aad key)
unfolding wrap_key
wrap_bytes i e aad key he ha hk =
    let t = tag i e aad key in
    let k = keystream e t (length key / 16) in
    bytes_append (aad ++ t) (xor_bytes key k) (bytes_append aad t ha (tag_bytes i e aad key he))
    (xor_bytes_lem key k hk (keystream_bytes e t (length key / 16) he))

-- ---- a key is handed out exactly where the tags agree

-- what a choice between a value and none gave
chosen : {A : Type 0} (b : Bool) (x y : A) → cond b (some x) none ≡ some y → T b × (x ≡ y)
chosen true x y p = (tt, some-injective x y p)
chosen false x y p = absurd (none-ne-some y p)

module _ (i e h : List ℕ) where
  -- the tag made anew
  abbrev anew : List ℕ
  anew = tag i e (aad_of h) (decrypted e h)

  pub unwrap_authentic : tag i e (aad_of h) (decrypted e h) ≡ tag_of h → unwrap_key i e h ≡ some (decrypted e h)
  unfolding unwrap_key
  unwrap_authentic p = cond_on (ap (λ (t : List ℕ). alike t (tag_of h)) p ∙ alike_self (tag_of h)) (some (decrypted e h)) none

  pub unwrap_key_lem : (key : List ℕ) → unwrap_key i e h ≡ some key → key ≡ decrypted e h
  unfolding unwrap_key
  unwrap_key_lem key p = sym (chosen (alike anew (tag_of h)) (decrypted e h) key p).1

  pub unwrap_opens : (key : List ℕ) → unwrap_key i e h ≡ some key → tag i e (aad_of h) key ≡ tag_of h
  unfolding unwrap_key
  unwrap_opens key p =
      ap (tag i e (aad_of h)) (unwrap_key_lem key p) ∙ alike-eq anew (tag_of h) (chosen (alike anew (tag_of h)) (decrypted e h) key p).0

-- ---- a wrapped key unwraps to itself

module _ (i e aad key : List ℕ) (n : ℕ) (ha : length aad ≡ 16) (hk : length key ≡ 16 * n) where
  pub decrypted_wrap : decrypted e (wrap_key i e aad key) ≡ key
  unfolding decrypted
  decrypted_wrap = ap₂ (masked e) (wrap_tag i e aad key ha) (wrap_ciphertext i e aad key ha) ∙ masked_twice e (tag i e aad key) key n hk

  pub unwrap_wrap : unwrap_key i e (wrap_key i e aad key) ≡ some key
  unwrap_wrap =
      unwrap_authentic i e (wrap_key i e aad key) (ap₂ (tag i e) (wrap_aad i e aad key ha) decrypted_wrap ∙ sym (wrap_tag i e aad key ha))
      ∙ ap {B = Option (List ℕ)} some decrypted_wrap
