-- The decoder's answer: its length is at most 13 and at most the string's, and no byte behind it matters.
-- Assumes nothing.
use mathlib.Core.Path.{◌≡◌, refl, sym, ap, subst, ◌∙◌}
use mathlib.Core.Bool.{Bool, true, false, cond, ◌&&◌}
use mathlib.Core.List.{List}
use mathlib.Core.Option.{Option, none, some, some-injective, none-ne-some}
use Prim.Native.Nat.{ℕ, ◌+◌, ◌/◌, ◌%◌, ◌≤◌, ◌<◌}
use native.Mathlib.Omega.{arith}
use lib.Dec.{eqb, leb, ltb}
use lib.ListN.{length, get_or}
use borrow.Author.Tests.{ltb-true, lt-ltb, leb-true, le-leb}
use Rattle.isa.specs.Decode.{byte_at, extended, signed8, signed32, word32, displacement8, displacement32, displacement_at, placed, index_of, sib_of, sib_from, modrm_of, opcode, allowed, built, modrm_from, opcode_from, map_from, escape_from, rex_of, rex_from, rep_from, address_size_from, lock_from, decode_at}
use Rattle.isa.specs.declared.Base.{Base}
use Rattle.isa.specs.declared.Base.TheVariants as base
use Rattle.isa.specs.declared.Index.{Index}
use Rattle.isa.specs.declared.Index.TheVariants as index
use Rattle.isa.specs.declared.AddressSize.{AddressSize}
use Rattle.isa.specs.declared.AddressSize.TheVariants.{Bits64, Bits32}
use Rattle.isa.specs.declared.Operand.TheVariants as operand
use Rattle.isa.specs.declared.Displacement.{Displacement}
use Rattle.isa.specs.declared.Displacement.TheVariants as displacement
use Rattle.isa.specs.declared.Operands.{Operands}
use Rattle.isa.specs.declared.Operands.TheVariants as operands
use Rattle.isa.specs.declared.Prefixes.{Prefixes}
use Rattle.isa.specs.declared.Decoded.{Decoded}
use Rattle.isa.specs.declared.Decoded.TheVariants as decoded
use Rattle.isa.specs.declared.Step.TheVariants as step
use Rattle.isa.proofs.Local.{Same, Local, local_more, local_here, local_cond, local_byte, local_map}

-- where each answer ends
abbrev end_of_displacement : Displacement → Option ℕ
end_of_displacement (displacement.Found d next) = some next
end_of_displacement displacement.End = none

abbrev end_of_operands : Operands → Option ℕ
end_of_operands (operands.Found reg rm next) = some next
end_of_operands operands.End = none

abbrev pub end_of : Decoded → Option ℕ
end_of (decoded.Found what lock next) = some next
end_of decoded.BadByte = none
end_of decoded.EndOfString = none
end_of decoded.Empty = none

nothing : {n : ℕ} {A : Type 0} → none ≡ some n → A
nothing {n} e = absurd (none-ne-some n e)

-- ---- displacements

-- k bytes at once, where they are there
local_bytes : (k : ℕ) (test : List ℕ → ℕ → Bool) (value : List ℕ → ℕ → ℕ) → ((s : List ℕ) (at : ℕ) → test s at ≡ true → at + k ≤ length s)
    → ((s : List ℕ) (at : ℕ) → at + k ≤ length s → test s at ≡ true) → ((s t : List ℕ) (at : ℕ) → Same (at + k) s t → value t at ≡ value s at)
    → Local end_of_displacement k (λ s at. cond (test s at) (displacement.Found (value s at) (at + k)) displacement.End)
local_bytes k test value fits holds same s at n e h = go (test s at) refl where
  answer : List ℕ → Bool → Displacement
  answer s c = cond c (displacement.Found (value s at) (at + k)) displacement.End

  go : (c : Bool) → test s at ≡ c → (at ≤ n) × (n ≤ at + k) × (n ≤ length s) × ((t : List ℕ) → Same n s t → answer t (test t at) ≡ answer s (test s at))
  go true p =
      let q : at + k ≡ n = some-injective (at + k) n (sym (ap (λ (c : Bool). end_of_displacement (answer s c)) p) ∙ e) in
      let l : at + k ≤ length s = fits s at p in (
        omega arith,
        omega arith,
        omega arith,
        λ t a.
            let b : Same (at + k) s t = subst (λ (m : ℕ). Same m s t) (sym q) a in
            ap (answer t) (holds t at b.1) ∙ ap (λ (v : ℕ). displacement.Found v (at + k)) (same s t at b) ∙ sym (ap (answer s) p),
      )
  go false p = nothing (sym (ap (λ (c : Bool). end_of_displacement (answer s c)) p) ∙ e)

local_8 : Local end_of_displacement 1 displacement8
local_8 =
    local_bytes 1 (λ s at. ltb at (length s)) (λ s at. signed8 (get_or s at 0))
    (λ s at p. let q : at < length s = ltb-true at (length s) p in omega arith)
    (λ s at p. lt-ltb at (length s) (omega arith)) (λ s t at a. ap signed8 (a.0 at (omega arith)))

local_32 : Local end_of_displacement 4 displacement32
unfolding displacement32
local_32 =
    local_bytes 4 (λ s at. leb (at + 4) (length s)) (λ s at. signed32 (word32 (get_or s at 0) (get_or s (at + 1) 0) (get_or s (at + 2) 0) (get_or s (at + 3) 0)))
    (λ s at p. leb-true (at + 4) (length s) p) (λ s at p. le-leb (at + 4) (length s) p)
    (λ s t at a. λ j. signed32 (word32 (a.0 at (omega arith) j) (a.0 (at + 1) (omega arith) j) (a.0 (at + 2) (omega arith) j) (a.0 (at + 3) (omega arith) j)))

local_displacement : (mode : ℕ) → Local end_of_displacement 4 (λ s at. displacement_at s at mode)
unfolding displacement_at
local_displacement mode =
    local_cond end_of_displacement 4 (eqb mode 1) displacement8 (λ s at. cond (eqb mode 2) (displacement32 s at) (displacement.Found 0 at))
    (local_more end_of_displacement 1 4 displacement8 (omega arith) local_8)
    (local_cond end_of_displacement 4 (eqb mode 2) displacement32 (λ s at. displacement.Found 0 at) local_32
    (local_here end_of_displacement 4 (λ at. displacement.Found 0 at) (λ at n e. sym (some-injective at n e))))

-- ---- operands

module _ (size : AddressSize) (reg : ℕ) (b : Base) (i : Index) (scale : ℕ) where
  placed_ends : (d : Displacement) (n : ℕ) → end_of_operands (placed size reg b i scale d) ≡ some n → end_of_displacement d ≡ some n
  placed_ends (displacement.Found d next) n e = e
  placed_ends displacement.End n e = e

  local_placed : (f : List ℕ → ℕ → Displacement) → Local end_of_displacement 4 f → Local end_of_operands 4 (λ s at. placed size reg b i scale (f s at))
  local_placed f l = local_map end_of_displacement end_of_operands 4 (placed size reg b i scale) f placed_ends l

local_sib : (p : Prefixes) (mode reg sib : ℕ) → Local end_of_operands 4 (λ s at. sib_of s at p mode reg sib)
unfolding sib_of
local_sib p mode reg sib =
    local_cond end_of_operands 4 (eqb mode 0 && eqb (sib % 8) 5) _ _
    (local_placed p.address_size reg base.None (index_of p sib) (sib / 64) displacement32 local_32)
    (local_placed p.address_size reg (base.Register (extended p.b sib)) (index_of p sib) (sib / 64) (λ s at. displacement_at s at mode) (local_displacement mode))

local_modrm : (p : Prefixes) (m : ℕ) → Local end_of_operands 5 (λ s at. modrm_of s at p m)
unfolding modrm_of
local_modrm p m =
    let reg = extended p.r (m / 8) in
    local_cond end_of_operands 5 (eqb (m / 64) 3) _ _
    (local_here end_of_operands 5 (λ at. operands.Found reg (operand.Register (extended p.b m)) at) (λ at n e. sym (some-injective at n e)))
    (local_cond end_of_operands 5 (eqb (m % 8) 4) _ _
    (local_byte end_of_operands 4 (λ s z. sib_from s p (m / 64) reg z) (λ b s next. sib_of s next p (m / 64) reg b) (λ s n e. nothing e) (λ s b next. refl)
    (λ b. local_sib p (m / 64) reg b))
    (local_cond end_of_operands 5 (eqb (m / 64) 0 && eqb (m % 8) 5) _ _
    (local_more end_of_operands 4 5 _ (omega arith) (local_placed p.address_size reg base.Rip index.None 0 displacement32 local_32))
    (local_more end_of_operands 4 5 _ (omega arith)
    (local_placed p.address_size reg (base.Register (extended p.b m)) index.None 0 (λ s at. displacement_at s at (m / 64)) (local_displacement (m / 64))))))

-- ---- byte by byte

bad : (m : ℕ) → Local end_of m (λ s at. decoded.BadByte)
bad m = local_here end_of m (λ at. decoded.BadByte) (λ at n e. nothing e)

built_ends : (lock : Bool) (op m : ℕ) (o : Operands) (n : ℕ) → end_of (built lock op m o) ≡ some n → end_of_operands o ≡ some n
built_ends lock op m (operands.Found reg rm next) n e = e
built_ends lock op m operands.End n e = e

local_modrm_from : (p : Prefixes) (op : ℕ) → Local end_of 6 (λ s at. modrm_from s p op (byte_at s at))
local_modrm_from p op =
    local_byte end_of 5 (λ s z. modrm_from s p op z) (λ m s next. cond (allowed op m) (built p.lock op m (modrm_of s next p m)) decoded.BadByte)
    (λ s n e. nothing e) (λ s b next. refl)
    (λ m. local_cond end_of 5 (allowed op m) _ _
    (local_map end_of_operands end_of 5 (built p.lock op m) (λ s at. modrm_of s at p m) (built_ends p.lock op m) (local_modrm p m)) (bad 5))

local_opcode : (p : Prefixes) → Local end_of 7 (λ s at. opcode_from s p (byte_at s at))
local_opcode p =
    local_byte end_of 6 (λ s z. opcode_from s p z) (λ b s next. cond (opcode b) (modrm_from s p b (byte_at s next)) decoded.BadByte)
    (λ s n e. nothing e) (λ s b next. refl) (λ b. local_cond end_of 6 (opcode b) _ _ (local_modrm_from p b) (bad 6))

local_map_from : (p : Prefixes) → Local end_of 8 (λ s at. map_from s p (byte_at s at))
local_map_from p =
    local_byte end_of 7 (λ s z. map_from s p z) (λ b s next. cond (eqb b 0x38) (opcode_from s p (byte_at s next)) decoded.BadByte)
    (λ s n e. nothing e) (λ s b next. refl) (λ b. local_cond end_of 7 (eqb b 0x38) _ _ (local_opcode p) (bad 7))

-- behind a byte that may be 0F
local_escaped : (p : Prefixes) (b : ℕ) → Local end_of 8 (λ s at. escape_from s p (step.Byte b at))
local_escaped p b = local_cond end_of 8 (eqb b 0x0F) _ _ (local_map_from p) (bad 8)

local_escape : (p : Prefixes) → Local end_of 9 (λ s at. escape_from s p (byte_at s at))
local_escape p =
    local_byte end_of 8 (λ s z. escape_from s p z) (λ b s next. escape_from s p (step.Byte b next)) (λ s n e. nothing e) (λ s b next. refl) (local_escaped p)

module _ (lock : Bool) (size : AddressSize) where
  local_rex : Local end_of 10 (λ s at. rex_from s lock size (byte_at s at))
  local_rex =
      local_byte end_of 9 (λ s z. rex_from s lock size z) (λ b s next. rex_from s lock size (step.Byte b next)) (λ s n e. nothing e) (λ s b next. refl)
      (λ b. local_cond end_of 9 (eqb (b / 16) 4) _ _ (local_escape (rex_of lock size b))
      (local_more end_of 8 9 _ (omega arith) (local_escaped (rex_of lock size 0) b)))

  -- behind a byte that may be F3
  local_repeated : (b : ℕ) → Local end_of 10 (λ s at. rep_from s lock size (step.Byte b at))
  local_repeated b = local_cond end_of 10 (eqb b 0xF3) _ _ local_rex (bad 10)

  local_rep : Local end_of 11 (λ s at. rep_from s lock size (byte_at s at))
  local_rep =
      local_byte end_of 10 (λ s z. rep_from s lock size z) (λ b s next. rep_from s lock size (step.Byte b next)) (λ s n e. nothing e) (λ s b next. refl)
      local_repeated

module _ (lock : Bool) where
  -- behind a byte that may be 67
  local_sized : (b : ℕ) → Local end_of 11 (λ s at. address_size_from s lock (step.Byte b at))
  local_sized b =
      local_cond end_of 11 (eqb b 0x67) _ _ (local_rep lock Bits32) (local_more end_of 10 11 _ (omega arith) (local_repeated lock Bits64 b))

  local_size : Local end_of 12 (λ s at. address_size_from s lock (byte_at s at))
  local_size =
      local_byte end_of 11 (λ s z. address_size_from s lock z) (λ b s next. address_size_from s lock (step.Byte b next)) (λ s n e. nothing e) (λ s b next. refl)
      local_sized

pub decode_local : Local end_of 13 decode_at
unfolding decode_at
decode_local =
    local_byte end_of 12 lock_from (λ b s next. lock_from s (step.Byte b next)) (λ s n e. nothing e) (λ s b next. refl)
    (λ b. local_cond end_of 12 (eqb b 0xF0) _ _ (local_size true) (local_more end_of 11 12 _ (omega arith) (local_sized false b)))
