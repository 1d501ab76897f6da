-- Wrapping and unwrapping from their steps.
-- Assumes nothing.
use Rattle.std.proofs.Common.{◌≡◌, ◌∙◌, ◌*◌, ◌≤◌, ◌++◌, List, ℕ, length, take, refl, sym, ap, ap₂}
use mathlib.Core.Bool.{Bool, true, false, cond}
use Rattle.std.proofs.Math.Option.{Option, none, some}
use Rattle.std.specs.Bool.{then_some}
use Rattle.bits.specs.Bytes.{alike}
use Rattle.bits.specs.Words.{le_words}
use Rattle.fips197.specs.Aes.{encrypt}
use Rattle.fips197.specs.Cipher.{cipher}
use Rattle.fips197.specs.KeyExpansion.{key_expansion}
use Rattle.fips197.specs.Sizes.{nr}
use Rattle.fips197.specs.declared.KeySize.{KeySize}
use Rattle.fips197.specs.declared.KeySize.TheVariants.{Aes256}
use Rattle.aes.specs.Meaning.{bytes_of, key_bytes, schedule, stored_schedule}
use Rattle.aes.specs.declared.Key.{Key}
use Rattle.aes.specs.declared.Schedule.{Schedule}
use Rattle.aes.proofs.KeySchedule.{schedule_stored}
use Rattle.handle.specs.Format.{handle, aad_of, tag_of}
use Rattle.handle.specs.Wrap.{tag, masked, wrap_key, decrypted, unwrap_key}
use Rattle.handle.proofs.Wrap.{tag-length, masked-length, handle_aad, handle-tag, handle_ciphertext}
use Rattle.keywrap.specs.Meaning.{padded, padded_key, opened, whole_key}
use Rattle.keywrap.proofs.Parts.{unpadded, handle-padded}

-- by the schedule of the encryption key: Cipher with 256 bits
pub expanded : (w : Schedule) (k : Key) (e : List ℕ) → w.size ≡ Aes256 → le_words 4 w.words ≡ stored_schedule Aes256 (key_bytes Aes256 k) → bytes_of k.low ++ bytes_of k.high ≡ e
    → (b : List ℕ) → cipher (schedule w.size w.words) (nr w.size) b ≡ encrypt 8 e b
unfolding encrypt
expanded w k e size words told b =
    ap (λ (z : KeySize). cipher (schedule z w.words) (nr z) b) size
    ∙ ap (λ (l : List ℕ). cipher l 14 b) (schedule_stored Aes256 k w.words words ∙ ap (key_expansion 8) told)

pub wrap_ends : (i e aad key t c : List ℕ) → length aad ≡ 16 → t ≡ tag i e aad key → c ≡ padded 32 (masked e t key) → handle aad t c ≡ padded 64 (wrap_key i e aad key)
unfolding wrap_key
wrap_ends i e aad key t c h f g =
    ap (handle aad t) g
    ∙ handle-padded aad t (masked e t key) h (ap length f ∙ tag-length i e aad key)
    ∙ ap (λ (x : List ℕ). padded 64 (handle aad x (masked e x key))) f

padded-cond : (key : List ℕ) (b : Bool) → ◌≡◌ {A = Option (List ℕ)} (cond b (some (padded 32 key)) none) (padded_key (cond b (some key) none))
padded-cond key true = refl
padded-cond key false = refl

pub opened_is : (b : Bool) (k : Key) → opened (then_some b k) ≡ cond b (some (whole_key k)) none
opened_is true k = refl
opened_is false k = refl

-- an answer that hands out the key where the tags agree, and none where not
module _ (i e a t c k key : List ℕ) (n : ℕ) (ha : length a ≡ 16) (ht : length t ≡ 16) (hc : length c ≡ 16 * n) (few : 16 * n ≤ 32)
    (whole : k ≡ padded 32 (masked e t c)) (part : key ≡ take (16 * n) k) where
  opens : decrypted e (handle a t c) ≡ masked e t c
  unfolding decrypted
  opens = ap₂ (masked e) (handle-tag a t c ha ht) (handle_ciphertext a t c ha ht)

  taken : key ≡ decrypted e (handle a t c)
  taken = part ∙ ap (take (16 * n)) whole ∙ unpadded (16 * n) (masked e t c) (masked-length e t c n hc ∙ hc) few ∙ sym opens

  pub unwrap_ends : (t' : List ℕ) → t' ≡ tag i e a key → cond (alike t' t) (some k) none ≡ padded_key (unwrap_key i e (handle a t c))
  unfolding unwrap_key
  unwrap_ends t' f =
      let given : List ℕ = decrypted e (handle a t c) in
      let compared : alike t' t ≡ alike (tag i e (aad_of (handle a t c)) given) (tag_of (handle a t c)) =
      ap₂ alike (f ∙ ap₂ (tag i e) (sym (handle_aad a t c ha)) taken) (sym (handle-tag a t c ha ht)) in
      ap₂ (λ (b : Bool) (x : List ℕ). cond b (some x) none) compared (whole ∙ ap (padded 32) (sym opens))
      ∙ padded-cond given (alike (tag i e (aad_of (handle a t c)) given) (tag_of (handle a t c)))
