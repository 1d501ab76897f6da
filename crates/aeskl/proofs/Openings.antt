-- Opening a handle: the key in its struct, and what a use leaves.
-- Assumes nothing.
use mathlib.Core.Path.{◌≡◌, ◌∙◌, refl, sym, ap}
use mathlib.Core.Bool.{Bool, true, false, cond}
use mathlib.Core.List.{List, ◌++◌}
use mathlib.Core.Option.{Option, none, some, some-injective, none-ne-some, some-ne-none}
use Prim.Native.Nat.{ℕ, ◌*◌, ◌≤◌}
use native.Mathlib.Omega.{arith}
use lib.ListN.{length, take, replicate}
use lib.Seq.{take-take, take_at}
use Rattle.bits.proofs.Choice.{cond_on, cond_off}
use Rattle.handle.specs.Format.{tag_of, ciphertext_of}
use Rattle.handle.specs.Wrap.{decrypted, unwrap_key}
use Rattle.handle.proofs.Wrap.{masked-length, unwrap_key_lem}
use Rattle.fips197.specs.Sizes.{nk}
use Rattle.aes.specs.Meaning.{bytes_of, key_bytes}
use Rattle.aes.proofs.KeySchedule.{rounds_few}
use Rattle.fips197.specs.declared.Direction.{Direction}
use Rattle.aes.specs.declared.Key.{Key}
use Rattle.fips197.specs.declared.KeySize.{KeySize}
use Rattle.fips197.specs.declared.KeySize.TheVariants.{Aes128, Aes256}
use Rattle.keywrap.specs.Meaning.{whole_key, handle_bytes, opened, padded, padded_key}
use Rattle.aeskl.specs.Meaning.{used, used_by}
use Rattle.std.specs.Prelude as answer
use Rattle.keywrap.specs.declared.Handle.{Handle}
use Rattle.model.specs.Instructions.{illegal, opened_for}
use Rattle.model.specs.declared.IwKey.{IwKey}

-- a key's struct and the key that was padded into it
key_told : (size : KeySize) (k : Key) (key : List ℕ) → whole_key k ≡ padded 32 key → length key ≡ 4 * nk size → key_bytes size k ≡ key
key_told size k key e n =
    let m = 4 * nk size in
    let few : 4 * nk size ≤ 32 = omega (arith, rounds_few size) in
    ap (take m) e ∙ take-take m 32 (key ++ replicate 16 0) few ∙ take_at key (replicate 16 0) m n

module _ (k : IwKey) (cpl : ℕ) (size : KeySize) (direction : Direction) (h : Handle) where
  abbrev bytes : List ℕ
  bytes = handle_bytes size h

  not_opened : illegal cpl size direction (bytes_of h.aad) ≡ true → opened_for k cpl size direction bytes ≡ none
  unfolding opened_for
  not_opened e = cond_on e none (unwrap_key k.integrity k.encryption bytes)

  unwrapped : illegal cpl size direction (bytes_of h.aad) ≡ false
      → unwrap_key k.integrity k.encryption bytes ≡ opened_for k cpl size direction bytes
  unfolding opened_for
  unwrapped e = sym (cond_off e none (unwrap_key k.integrity k.encryption bytes))

  -- a key that is handed out is as long as the handle's ciphertext
  key_length : (key : List ℕ) → opened_for k cpl size direction bytes ≡ some key → length key ≡ 4 * nk size
  unfolding opened_for decrypted
  key_length key e =
      ap length (unwrap_key_lem k.integrity k.encryption bytes key (chosen (illegal cpl size direction (bytes_of h.aad)) e))
      ∙ masked-length k.encryption (tag_of bytes) (ciphertext_of bytes) (blocks size) (long size)
      ∙ exact size
    where
      chosen : (t : Bool) → cond t none (unwrap_key k.integrity k.encryption bytes) ≡ some key → unwrap_key k.integrity k.encryption bytes ≡ some key
      chosen true q = absurd (none-ne-some key q)
      chosen false q = q

      blocks : KeySize → ℕ
      blocks Aes128 = 1
      blocks Aes256 = 2

      long : (s : KeySize) → length (ciphertext_of (handle_bytes s h)) ≡ 16 * blocks s
      long Aes128 = refl
      long Aes256 = refl

      exact : (s : KeySize) → length (ciphertext_of (handle_bytes s h)) ≡ 4 * nk s
      exact Aes128 = refl
      exact Aes256 = refl

  -- the key in an answer's struct
  opened_key : (key : Key) → ◌≡◌ {A = Option (List ℕ)} (some (whole_key key)) (padded_key (opened_for k cpl size direction bytes))
      → opened_for k cpl size direction bytes ≡ some (key_bytes size key)
  opened_key key e = go (opened_for k cpl size direction bytes) refl e
    where
      go : (o : Option (List ℕ)) → opened_for k cpl size direction bytes ≡ o → ◌≡◌ {A = Option (List ℕ)} (some (whole_key key)) (padded_key o)
          → ◌≡◌ {A = Option (List ℕ)} o (some (key_bytes size key))
      go none q e = absurd (some-ne-none (whole_key key) e)
      go (some x) q e =
          ap {B = Option (List ℕ)} some (sym (key_told size key x (some-injective (whole_key key) (padded 32 x) e) (key_length x q)))

  opened_none : ◌≡◌ {A = Option (List ℕ)} none (padded_key (opened_for k cpl size direction bytes))
      → ◌≡◌ {A = Option (List ℕ)} (opened_for k cpl size direction bytes) none
  opened_none e = go (opened_for k cpl size direction bytes) e
    where
      go : (o : Option (List ℕ)) → ◌≡◌ {A = Option (List ℕ)} none (padded_key o) → ◌≡◌ {A = Option (List ℕ)} o none
      go none e = refl
      go (some x) e = absurd (none-ne-some (padded 32 x) e)

  -- ---- what a use leaves, by what the handle gave

  module _ (f : List ℕ → List ℕ → List ℕ) (b : List ℕ) where
    pub illegal_used : illegal cpl size direction (bytes_of h.aad) ≡ true → used true b ≡ used_by f (opened_for k cpl size direction bytes) b
    illegal_used e = ap (λ (o : Option (List ℕ)). used_by f o b) (sym (not_opened e))

    pub none_used : {o : answer.Option Key} → illegal cpl size direction (bytes_of h.aad) ≡ false
        → o ≡ answer.None → opened o ≡ padded_key (unwrap_key k.integrity k.encryption bytes) → used true b ≡ used_by f (opened_for k cpl size direction bytes) b
    none_used e n u = ap (λ (o : Option (List ℕ)). used_by f o b) (sym (opened_none (sym (ap opened n) ∙ u ∙ ap padded_key (unwrapped e))))

    pub key_used : {o : answer.Option Key} {after : List ℕ} (key : Key) → illegal cpl size direction (bytes_of h.aad) ≡ false
        → o ≡ answer.Some key → opened o ≡ padded_key (unwrap_key k.integrity k.encryption bytes) → after ≡ f (key_bytes size key) b
        → used false after ≡ used_by f (opened_for k cpl size direction bytes) b
    key_used key e n u done =
        ap (used false) done ∙ ap (λ (o : Option (List ℕ)). used_by f o b) (sym (opened_key key (sym (ap opened n) ∙ u ∙ ap padded_key (unwrapped e))))
