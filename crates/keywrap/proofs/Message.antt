-- The message that is hashed: AAD, key and length block in one row.
-- Assumes nothing.
use Rattle.std.proofs.Common.{◌≡◌, ◌∙◌, ◌+◌, ◌*◌, ◌/◌, ◌++◌, [], ◌∷◌, List, ℕ, length, take, replicate, refl, ap}
use Rattle.std.proofs.lemmas.List.Edits.{sets}
use Rattle.bits.specs.Blocks.{blocks}
use Rattle.fips197.specs.Sizes.{nk}
use Rattle.fips197.specs.declared.KeySize.{KeySize}
use Rattle.fips197.specs.declared.KeySize.TheVariants.{Aes128, Aes256}
use Rattle.rfc8452.specs.Polyval.{polyval}
use Rattle.handle.specs.Wrap.{length_block, hashed}
use Rattle.aes.specs.Meaning.{bytes_of, key_bytes}
use Rattle.aes.specs.declared.Block.{Block}
use Rattle.aes.specs.declared.Key.{Key}

-- the blocks of what a buffer has at its front
abbrev front : ℕ → List ℕ → List (List ℕ)
front n l = blocks (length (take (16 + 4 * n + 16) l) / 16) (take (16 + 4 * n + 16) l)

-- the blocks stored one after the other; for a key of 16 bytes the last takes the place of the key's second half
abbrev stored : ℕ → Block → Key → Block → List ℕ
stored n aad k lengths = sets (sets (sets (sets (replicate 64 0) 0 (bytes_of aad)) 16 (bytes_of k.low)) 32 (bytes_of k.high)) (16 + 4 * n) (bytes_of lengths)

in_a_row : (size : KeySize) (aad : Block) (k : Key) (lengths : Block)
    → front (nk size) (stored (nk size) aad k lengths) ≡ bytes_of aad ∷ (blocks (length (key_bytes size k) / 16) (key_bytes size k) ++ (bytes_of lengths ∷ []))
in_a_row Aes128 aad k lengths = refl
in_a_row Aes256 aad k lengths = refl

pub hash_ends : (size : KeySize) (h : List ℕ) (aad : Block) (k : Key) (lengths : Block) {n : ℕ} {i l₁ l₂ l₃ l₄ : List ℕ} → n ≡ nk size → i ≡ h
    → l₁ ≡ sets (replicate 64 0) 0 (bytes_of aad) → l₂ ≡ sets l₁ 16 (bytes_of k.low) → l₃ ≡ sets l₂ 32 (bytes_of k.high) → l₄ ≡ sets l₃ (16 + 4 * n) (bytes_of lengths)
    → bytes_of lengths ≡ length_block (bytes_of aad) (key_bytes size k) → polyval i (front n l₄) ≡ hashed h (bytes_of aad) (key_bytes size k)
unfolding hashed
hash_ends size h aad k lengths {n} {i} {l₁} {l₂} {l₃} {l₄} e ei e₁ e₂ e₃ e₄ told =
    let key = key_bytes size k in
    ap (λ (x : List ℕ). polyval x (front n l₄)) ei
    ∙ ap (λ (l : List ℕ). polyval h (front n l))
    (e₄ ∙ ap (λ (l : List ℕ). sets l (16 + 4 * n) (bytes_of lengths)) (e₃ ∙ ap (λ (l : List ℕ). sets l 32 (bytes_of k.high)) (e₂ ∙ ap (λ (l : List ℕ). sets l 16 (bytes_of k.low)) e₁)))
    ∙ ap (λ (m : ℕ). polyval h (front m (stored m aad k lengths))) e
    ∙ ap (polyval h) (in_a_row size aad k lengths ∙ ap (λ (b : List ℕ). bytes_of aad ∷ (blocks (length key / 16) key ++ (b ∷ []))) told)
