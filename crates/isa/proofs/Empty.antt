-- Change request (vi): only the empty string, or what is left at a string's end, holds nothing.
-- Assumes nothing.
use mathlib.Core.Path.{◌≡◌, refl, ap, subst}
use mathlib.Core.Bool.{Bool, true, false, cond}
use mathlib.Core.List.{List, []}
use Prim.Native.Nat.{ℕ, ◌+◌, ◌≤◌}
use native.Mathlib.Omega.{arith}
use lib.Dec.{ltb}
use lib.ListN.{length, get_or}
use borrow.Author.Tests.{ltb-false, le-ltb}
use Rattle.bits.proofs.Choice.{cond_off, on_cond}
use Rattle.bits.proofs.Lists.{no_elements}
use Rattle.isa.specs.Decode.{byte_at, modrm_of, allowed, built, modrm_from, lock_from, decode_at, decode}
use Rattle.isa.specs.declared.Operands.{Operands}
use Rattle.isa.specs.declared.Operands.TheVariants as operands
use Rattle.isa.specs.declared.Prefixes.{Prefixes}
use Rattle.isa.specs.declared.Decoded.{Decoded}
use Rattle.isa.specs.declared.Decoded.TheVariants as decoded
use Rattle.isa.specs.declared.Step.{Step}
use Rattle.isa.specs.declared.Step.TheVariants as step
use Rattle.isa.proofs.Fitting.{on_first}

abbrev NotEmpty : Decoded → Type 0
NotEmpty (decoded.Found what lock next) = Unit {0}
NotEmpty decoded.BadByte = Unit {0}
NotEmpty decoded.EndOfString = Unit {0}
NotEmpty decoded.Empty = ⊥

module _ (s : List ℕ) where
  modrm_not_empty : (p : Prefixes) (op : ℕ) (z : Step) → NotEmpty (modrm_from s p op z)
  modrm_not_empty p op (step.Byte m next) = on_cond NotEmpty (allowed op m) _ _ (λ e. go (modrm_of s next p m)) (λ e. tt)
    where
      go : (o : Operands) → NotEmpty (built p.lock op m o)
      go (operands.Found reg rm next) = tt
      go operands.End = tt
  modrm_not_empty p op step.End = tt

  pub at_end : (at : ℕ) → length s ≤ at → decode_at s at ≡ decoded.Empty
  unfolding decode_at
  at_end at h = ap (lock_from s) (cond_off (le-ltb at (length s) h) (step.Byte (get_or s at 0) (at + 1)) step.End)

  pub only_at_end : (at : ℕ) → decode_at s at ≡ decoded.Empty → length s ≤ at
  unfolding decode_at
  only_at_end at = go (ltb at (length s)) refl
    where
      go : (t : Bool) → ltb at (length s) ≡ t → lock_from s (cond t (step.Byte (get_or s at 0) (at + 1)) step.End) ≡ decoded.Empty → length s ≤ at
      go true q e =
          absurd (subst NotEmpty e (on_first s NotEmpty tt tt (λ p op at. modrm_not_empty p op (byte_at s at)) (get_or s at 0) (at + 1)))
      go false q e = ltb-false at (length s) q

pub idle_only : (s : List ℕ) → decode s ≡ decoded.Empty → s ≡ []
idle_only s e = let h : length s ≤ 0 = only_at_end s 0 e in no_elements s (omega arith)
