-- Decoding reads few bytes, all inside the string, and depends on no byte behind what it read.
-- Assumes nothing.
use mathlib.Core.Path.{◌≡◌, refl, sym, ap, ap₂, ◌∙◌}
use mathlib.Core.Bool.{Bool, true, false, cond}
use mathlib.Core.List.{List}
use mathlib.Core.Option.{Option, some}
use Prim.Native.Nat.{ℕ, suc, ◌+◌, ◌≤◌, ◌<◌}
use native.Mathlib.Nat.{lt_of_lt_of_le}
use native.Mathlib.Omega.{arith}
use lib.Dec.{ltb}
use lib.ListN.{length, get_or}
use borrow.Author.Tests.{ltb-true, lt-ltb}
use Rattle.isa.specs.Decode.{byte_at}
use Rattle.isa.specs.declared.Step.{Step}
use Rattle.isa.specs.declared.Step.TheVariants as step

-- two strings that agree in their first n bytes, which both have
abbrev pub Same : ℕ → List ℕ → List ℕ → Type 0
Same n s t = ((i : ℕ) → i < n → get_or t i 0 ≡ get_or s i 0) × (n ≤ length t)

-- a reading that ends behind its place: after at most m bytes, inside the string, and alike for every string with the same bytes up to there
module _ {R : Type 0} (stop : R → Option ℕ) where
  abbrev pub Local : ℕ → (List ℕ → ℕ → R) → Type 0
  Local m f = (s : List ℕ) (at n : ℕ) → stop (f s at) ≡ some n → at ≤ length s
      → (at ≤ n) × (n ≤ at + m) × (n ≤ length s) × ((t : List ℕ) → Same n s t → f t at ≡ f s at)

  pub local_more : (k m : ℕ) (f : List ℕ → ℕ → R) → k ≤ m → Local k f → Local m f
  local_more k m f h l s at n e b =
      let r = l s at n e b in
      (r.0, omega arith, r.2, r.3)

  -- an answer that reads nothing
  pub local_here : (m : ℕ) (g : ℕ → R) → ((at n : ℕ) → stop (g at) ≡ some n → n ≡ at) → Local m (λ s at. g at)
  local_here m g h s at n e b =
      let p : n ≡ at = h at n e in
      (omega arith, omega arith, omega arith, λ t same. refl)

  pub local_cond : (m : ℕ) (b : Bool) (f g : List ℕ → ℕ → R) → Local m f → Local m g → Local m (λ s at. cond b (f s at) (g s at))
  local_cond m true f g p q = p
  local_cond m false f g p q = q

  -- one byte, and what it leads to
  pub local_byte : (m : ℕ) (f : List ℕ → Step → R) (g : ℕ → List ℕ → ℕ → R) → ((s : List ℕ) (n : ℕ) → stop (f s step.End) ≡ some n → ⊥)
      → ((s : List ℕ) (b next : ℕ) → f s (step.Byte b next) ≡ g b s next) → ((b : ℕ) → Local m (g b)) → Local (suc m) (λ s at. f s (byte_at s at))
  local_byte m f g ends byte then s at n e h = go (ltb at (length s)) refl where
    found : at < length s → (at ≤ n) × (n ≤ at + suc m) × (n ≤ length s) × ((t : List ℕ) → Same n s t → f t (byte_at t at) ≡ f s (byte_at s at))
    found p =
        let b = get_or s at 0 in
        let here : byte_at s at ≡ step.Byte b (at + 1) = ap (λ (c : Bool). cond c (step.Byte b (at + 1)) step.End) (lt-ltb at (length s) p) in
        let whole : f s (byte_at s at) ≡ g b s (at + 1) = ap (f s) here ∙ byte s b (at + 1) in
        let r = then b s (at + 1) n (sym (ap stop whole) ∙ e) (omega arith) in
        let after : at + 1 ≤ n = r.0 in
        let few : n ≤ at + 1 + m = r.1 in
        let inside : at < n = omega arith in (
          omega arith,
          omega arith,
          r.2,
          λ t same.
              let there : byte_at t at ≡ step.Byte b (at + 1) =
              ap₂ (λ (c : Bool) (x : ℕ). cond c (step.Byte x (at + 1)) step.End) (lt-ltb at (length t) (lt_of_lt_of_le inside same.1)) (same.0 at inside) in
              ap (f t) there ∙ byte t b (at + 1) ∙ r.3 t same ∙ sym whole,
        )

    go : (c : Bool) → ltb at (length s) ≡ c → (at ≤ n) × (n ≤ at + suc m) × (n ≤ length s) × ((t : List ℕ) → Same n s t → f t (byte_at t at) ≡ f s (byte_at s at))
    go true p = found (ltb-true at (length s) p)
    go false p = absurd (ends s n (sym (ap (λ (c : Bool). stop (f s (cond c (step.Byte (get_or s at 0) (at + 1)) step.End))) p) ∙ e))

-- what is made of a reading
pub local_map : {R Q : Type 0} (stop : R → Option ℕ) (stop' : Q → Option ℕ) (m : ℕ) (k : R → Q) (f : List ℕ → ℕ → R)
    → ((x : R) (n : ℕ) → stop' (k x) ≡ some n → stop x ≡ some n) → Local stop m f → Local stop' m (λ s at. k (f s at))
local_map stop stop' m k f h l s at n e b =
    let r = l s at n (h (f s at) n e) b in
    (r.0, r.1, r.2, λ t same. ap k (r.3 t same))
