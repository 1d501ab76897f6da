-- Worked cases: whole answers, so that a bit too many is seen as well as one too few.
-- Assumes nothing.
use mathlib.Core.Path.{◌≡◌, refl}
use mathlib.Core.List.{List, [], ◌∷◌}
use Prim.Native.Nat.{ℕ}
use Rattle.cpuid_model.specs.Leaves.{zero_leaf, cpuid}
use Rattle.cpuid_model.specs.declared.Leaf.{Leaf}

pub record Case : Type 0 where
  pub features : ℕ
  pub control : ℕ
  pub leaf : ℕ
  pub subleaf : ℕ
  pub answer : Leaf

abbrev case : (features control leaf subleaf : ℕ) → Leaf → Case
case features control leaf subleaf answer = record { features = features; control = control; leaf = leaf; subleaf = subleaf; answer = answer }

abbrev holds : (eax ebx ecx : ℕ) → Leaf
holds eax ebx ecx = record { eax = eax; ebx = ebx; ecx = ecx; edx = 0 }

abbrev pub cases : List Case
cases =
    -- all features; CR4.KL on and off, CR4.OSFXSR, CR0.EM and CR0.TS of no account
    case 0x3F 1 7 0 (holds 0 0 0x800000)
    ∷ case 0x3F 1 0x19 0 (holds 7 0x15 3)
    ∷ case 0x3F 0x0E 0x19 0 (holds 7 0x14 3)
    ∷ case 0x3F 0x0D 0x19 0xFFFFFFFF (holds 7 0x15 3)
    -- KL alone, and with firmware
    ∷ case 1 1 0x19 0 (holds 7 0 0)
    ∷ case 3 1 0x19 0 (holds 7 1 0)
    -- everything but KL
    ∷ case 0x3E 1 7 0 zero_leaf
    ∷ case 0x3E 1 0x19 0 zero_leaf
    -- another subleaf of 7, and leaves beside these
    ∷ case 0x3F 1 7 1 zero_leaf
    ∷ case 0x3F 1 0 0 zero_leaf
    ∷ case 0x3F 1 0x18 0 zero_leaf
    ∷ case 0x3F 1 0x80000019 0 zero_leaf
    ∷ []

abbrev Hold : List Case → Type 0
Hold [] = Unit {0}
Hold (c ∷ l) = (cpuid c.features c.control c.leaf c.subleaf ≡ c.answer) × Hold l

pub worked : Hold cases
unfolding cpuid
worked = (refl, (refl, (refl, (refl, (refl, (refl, (refl, (refl, (refl, (refl, (refl, (refl, tt))))))))))))
