-- Intel 343965-001US chapter 6, footnote: the definitions give the printed handle, of an all-zero key under an all-zero IWKey.
-- Assumes nothing.
use mathlib.Core.Path.{◌≡◌, ap, ◌∙◌}
use mathlib.Core.List.{List, [], ◌∷◌, ◌++◌, flat_map}
use Prim.Native.Nat.{ℕ}
use lib.ListN.{replicate}
use Rattle.bits.specs.Bytes.{xor_bytes}
use Rattle.fips197.specs.Aes.{encrypt}
use Rattle.aes256_examples.proofs.Encryptions.{first, of_zero, of_first}
use Rattle.handle.specs.Format.{handle, aad}
use Rattle.handle.specs.Wrap.{clear_top, set_top, tag, counter_block, keystream, masked, wrap_key}
use Rattle.handle.proofs.Integrity.{hashed-zero}

-- AAD, tag and ciphertext; the footnote prints the last two as numbers, highest byte first
abbrev pub handle_6 : List ℕ
handle_6 =
    0x00 ∷ 0x00 ∷ 0x00 ∷ 0x00 ∷ 0x00 ∷ 0x00 ∷ 0x00 ∷ 0x00 ∷ 0x00 ∷ 0x00 ∷ 0x00 ∷ 0x00 ∷ 0x00 ∷ 0x00 ∷ 0x00 ∷ 0x00
    ∷ 0xdc ∷ 0x95 ∷ 0xc0 ∷ 0x78 ∷ 0xa2 ∷ 0x40 ∷ 0x89 ∷ 0x89 ∷ 0xad ∷ 0x48 ∷ 0xa2 ∷ 0x14 ∷ 0x92 ∷ 0x84 ∷ 0x20 ∷ 0x87
    ∷ 0x08 ∷ 0xc3 ∷ 0x74 ∷ 0x84 ∷ 0x8c ∷ 0x22 ∷ 0x82 ∷ 0x33 ∷ 0xc2 ∷ 0xb3 ∷ 0x4f ∷ 0x33 ∷ 0x2b ∷ 0xd2 ∷ 0xe9 ∷ 0xd3 ∷ []

-- what is hashed and cleared is zero; the tag is its encryption
tag_6 : tag (replicate 16 0) (replicate 32 0) (aad 0 0) (replicate 16 0) ≡ first
unfolding tag clear_top
tag_6 = ap (λ (h : List ℕ). encrypt 8 (replicate 32 0) (clear_top h)) (hashed-zero (aad 0 0) (replicate 16 0)) ∙ of_zero

-- the tag has its top bit set already and is the counter block; the ciphertext is its encryption
masked_6 : handle (aad 0 0) first (masked (replicate 32 0) first (replicate 16 0)) ≡ handle_6
unfolding keystream flat_map counter_block set_top aad
masked_6 = ap (λ (c : List ℕ). handle (aad 0 0) first (xor_bytes (replicate 16 0) (c ++ []))) of_first

pub chapter_6 : wrap_key (replicate 16 0) (replicate 32 0) (aad 0 0) (replicate 16 0) ≡ handle_6
unfolding wrap_key
chapter_6 = ap (λ (t : List ℕ). handle (aad 0 0) t (masked (replicate 32 0) t (replicate 16 0))) tag_6 ∙ masked_6
