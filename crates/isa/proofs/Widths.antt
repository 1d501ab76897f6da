-- What the address size makes of an address.
-- Assumes nothing.
use mathlib.Core.Path.{◌≡◌, refl, sym, ap}
use mathlib.Core.Bool.{false, not}
use Prim.Native.Nat.{ℕ, ◌+◌, ◌*◌, ◌^◌, ◌%◌, ◌≤◌, ◌<◌}
use native.Mathlib.Nat.{mod-mod}
use native.Mathlib.Omega.{arith}
use Rattle.isa.specs.Address.{address_bits, base_value, effective_address, index_value, next_rip, segment_of}
use Rattle.isa.specs.Ranges.{canonical, some_not_canonical}
use Rattle.isa.specs.declared.AddressSize.{AddressSize}
use Rattle.isa.specs.declared.AddressSize.TheVariants.{Bits64, Bits32}
use Rattle.isa.specs.declared.Base.{Base}
use Rattle.isa.specs.declared.Base.TheVariants as base
use Rattle.isa.specs.declared.Index.{Index}
use Rattle.isa.specs.declared.Index.TheVariants as index
use Rattle.isa.specs.declared.MemoryPlace.{MemoryPlace}
use Rattle.isa.proofs.Sums.{product_mod}
use Rattle.isa.proofs.Ranges.{any_false, canonical_low}

-- a memory place with another address size
abbrev pub sized : AddressSize → MemoryPlace → MemoryPlace
sized size p = record { base = p.base; index = p.index; scale = p.scale; address_size = size; displacement = p.displacement }

-- modulo 2^64 no bit is lost that an address size has
pub narrow : (size : AddressSize) (x : ℕ) → x % 2 ^ 64 % 2 ^ address_bits size ≡ x % 2 ^ address_bits size
narrow Bits64 x = omega arith
narrow Bits32 x = omega arith

module _ (registers : ℕ → ℕ) (rip bytes : ℕ) where
  -- change request (ii): "the chosen width"
  pub width : (p : MemoryPlace) → (effective_address registers rip bytes p).linear < 2 ^ address_bits p.address_size
  unfolding effective_address
  width p = go p.address_size _ where
    go : (size : AddressSize) (x : ℕ) → x % 2 ^ address_bits size < 2 ^ address_bits size
    go Bits64 x = omega arith
    go Bits32 x = omega arith

  pub below_64 : (p : MemoryPlace) → (effective_address registers rip bytes p).linear < 2 ^ 64
  below_64 p = go p.address_size (effective_address registers rip bytes p).linear (width p) where
    go : (size : AddressSize) (x : ℕ) → x < 2 ^ address_bits size → x < 2 ^ 64
    go Bits64 x h = h
    go Bits32 x h = omega arith

  -- change request (ii): "worked out as before and taken modulo 2^32", and the segment as before
  pub as_before : (p : MemoryPlace) → effective_address registers rip bytes (sized Bits32 p)
      ≡ record {
        linear = (effective_address registers rip bytes (sized Bits64 p)).linear % 2 ^ 32;
        segment = (effective_address registers rip bytes (sized Bits64 p)).segment;
      }
  unfolding effective_address
  as_before p =
      let linear : (effective_address registers rip bytes (sized Bits32 p)).linear ≡ (effective_address registers rip bytes (sized Bits64 p)).linear % 2 ^ 32 =
      sym (narrow Bits32 _) in
      λ j. record { linear = linear j; segment = segment_of p.base }

-- a handle at an address of 32 bits has only canonical bytes: neither 12 nor 13 is its refusal
pub canonical_32 : (a n : ℕ) → a < 2 ^ 32 → n ≤ 64 → some_not_canonical a n ≡ false
unfolding some_not_canonical
canonical_32 a n h l = any_false (λ b. not (canonical b)) n a (λ i k. ap not (canonical_low ((a + i) % 2 ^ 64) (omega arith)))

-- ---- the low halves of registers and RIP decide

module _ (registers : ℕ → ℕ) (rip bytes : ℕ) where
  abbrev low : ℕ → ℕ
  low n = registers n % 2 ^ 32

  low_base : (b : Base) → base_value registers (next_rip rip bytes) b % 2 ^ 32 ≡ base_value low (next_rip (rip % 2 ^ 32) bytes) b % 2 ^ 32
  low_base base.None = refl
  low_base base.Rip = omega arith
  low_base (base.Register n) = sym (mod-mod (registers (n % 16)) (2 ^ 32))

  low_index : (i : Index) (c : ℕ) → index_value registers i * c % 2 ^ 32 ≡ index_value low i * c % 2 ^ 32
  low_index index.None c = refl
  low_index (index.Register n) c = product_mod (2 ^ 32) (registers (n % 16)) c

  sum_alike : (a b c d n : ℕ) → a % 2 ^ 32 ≡ b % 2 ^ 32 → c % 2 ^ 32 ≡ d % 2 ^ 32 → (a + c + n) % 2 ^ 32 ≡ (b + d + n) % 2 ^ 32
  sum_alike a b c d n h k = omega arith

  -- an address of 32 bits is what 32-bit registers and EIP give
  pub low_halves : (p : MemoryPlace) → effective_address registers rip bytes (sized Bits32 p) ≡ effective_address low (rip % 2 ^ 32) bytes (sized Bits32 p)
  unfolding effective_address
  low_halves p =
      let linear = sum_alike _ _ _ _ p.displacement (low_base p.base) (low_index p.index (2 ^ (p.scale % 4))) in
      λ j. record { linear = linear j; segment = segment_of p.base }
