-- The S-box and its inverse give bytes; the affine maps undo each other, and so do the S-box and its inverse.
-- Assumes nothing.
use mathlib.Core.Path.{◌≡◌, ap, ◌∙◌}
use Prim.Native.Nat.{ℕ, ◌<◌}
use native.Mathlib.Omega.{arith}
use Rattle.bits.proofs.Table.{bytes, same}
use Rattle.fips197.specs.Sbox.{inverse, bit, byte_of_bits, affine, sbox, inv_affine, inv_sbox}
use Rattle.fips197.proofs.Field.{inverse_byte, inverse-inverse}

byte_of_bits_byte : (f : ℕ → ℕ) → byte_of_bits f < 256
unfolding byte_of_bits
byte_of_bits_byte f = omega arith

pub sbox_byte : (b : ℕ) → sbox b < 256
unfolding sbox affine
sbox_byte b = byte_of_bits_byte _

pub inv_sbox_byte : (b : ℕ) → inv_sbox b < 256
unfolding inv_sbox inv_affine
inv_sbox_byte b = inverse_byte _ (byte_of_bits_byte _)

pub inv_affine_lem : (b : ℕ) → b < 256 → inv_affine (affine b) ≡ b
unfolding bytes inv_affine affine byte_of_bits bit
inv_affine_lem = same (λ b. inv_affine (affine b)) (λ b. b) tt

pub inv_sbox_lem : (b : ℕ) → b < 256 → inv_sbox (sbox b) ≡ b
unfolding inv_sbox sbox
inv_sbox_lem b h = ap inverse (inv_affine_lem (inverse b) (inverse_byte b h)) ∙ inverse-inverse b h

affine_inv : (b : ℕ) → b < 256 → affine (inv_affine b) ≡ b
unfolding bytes inv_affine affine byte_of_bits bit
affine_inv = same (λ b. affine (inv_affine b)) (λ b. b) tt

-- every byte is a value of the S-box: at its inverse
pub sbox_inv : (b : ℕ) → b < 256 → sbox (inv_sbox b) ≡ b
unfolding inv_sbox sbox inv_affine
sbox_inv b h = ap affine (inverse-inverse (inv_affine b) (byte_of_bits_byte _)) ∙ affine_inv b h
