-- Every instruction decoded from a string of bytes fits; the block of a use is a register, whatever numbers stand in the string.
-- Assumes nothing.
use mathlib.Core.Path.{◌≡◌, refl, sym, ap, ◌∙◌}
use mathlib.Core.Bool.{Bool, true, false, ◌&&◌, ◌||◌, true≢false}
use mathlib.Core.List.{List}
use Prim.Native.Nat.{ℕ, ◌+◌, ◌/◌, ◌%◌, ◌≤◌, ◌<◌}
use native.Mathlib.Omega.{arith}
use lib.Dec.{eqb, leb, ltb, lit<}
use lib.ListN.{length, get_or}
use borrow.Author.Tests.{ne_eqb, eqb-true, eqb-false, leb-true, leb-false, lt-leb, le-leb, le-ltb}
use Rattle.bits.specs.Bytes.{Bytes}
use Rattle.bits.proofs.Choice.{on_cond}
use Rattle.bits.proofs.Lists.{bytes_at}
use Rattle.isa.specs.Decode.{byte_at, extended, displacement32, displacement_at, placed, index_of, sib_of, sib_from, modrm_of, opcode, allowed, instruction_of, built, modrm_from, opcode_from, map_from, escape_from, rex_of, rex_from, rep_from, address_size_from, lock_from, decode_at}
use Rattle.isa.specs.Fitting.{IndexFits, InMemory, InRegister, Fits}
use Rattle.isa.specs.declared.Base.{Base}
use Rattle.isa.specs.declared.Base.TheVariants as base
use Rattle.isa.specs.declared.Index.{Index}
use Rattle.isa.specs.declared.Index.TheVariants as index
use Rattle.isa.specs.declared.AddressSize.{AddressSize}
use Rattle.isa.specs.declared.AddressSize.TheVariants.{Bits64, Bits32}
use Rattle.isa.specs.declared.Instruction.{Instruction}
use Rattle.isa.specs.declared.Instruction.TheVariants as instruction
use Rattle.isa.specs.declared.Operand.{Operand}
use Rattle.isa.specs.declared.Operand.TheVariants as operand
use Rattle.isa.specs.declared.Displacement.{Displacement}
use Rattle.isa.specs.declared.Displacement.TheVariants as displacement
use Rattle.isa.specs.declared.Operands.{Operands}
use Rattle.isa.specs.declared.Operands.TheVariants as operands
use Rattle.isa.specs.declared.Prefixes.{Prefixes}
use Rattle.isa.specs.declared.Decoded.{Decoded}
use Rattle.isa.specs.declared.Decoded.TheVariants as decoded
use Rattle.isa.specs.declared.Step.{Step}
use Rattle.isa.specs.declared.Step.TheVariants as step

extended_lt : (bit : Bool) (n : ℕ) → extended bit n < 16
extended_lt true n = omega arith
extended_lt false n = omega arith

-- ---- operands

abbrev OnOperands : (Operand → Type 0) → Operands → Type 0
OnOperands P (operands.Found reg rm next) = (reg < 16) × P rm
OnOperands P operands.End = Unit {0}

on_placed : (P : Operand → Type 0) (size : AddressSize) (reg : ℕ) (b : Base) (i : Index) (scale : ℕ) (d : Displacement) → reg < 16
    → ((n : ℕ) → P (operand.Memory (record { base = b; index = i; scale = scale; address_size = size; displacement = n })))
    → OnOperands P (placed size reg b i scale d)
on_placed P size reg b i scale (displacement.Found d next) h f = (h, f d)
on_placed P size reg b i scale displacement.End h f = tt

index_fits : (p : Prefixes) (sib : ℕ) → IndexFits (index_of p sib)
unfolding index_of
index_fits p sib =
    on_cond IndexFits (eqb (extended p.x (sib / 8)) 4) index.None (index.Register (extended p.x (sib / 8))) (λ e. tt) (λ e. extended_lt p.x (sib / 8))

on_sib : (s : List ℕ) (at : ℕ) (p : Prefixes) (mode reg sib : ℕ) → reg < 16 → sib < 256 → OnOperands InMemory (sib_of s at p mode reg sib)
unfolding sib_of
on_sib s at p mode reg sib h l =
    let scale : sib / 64 < 4 = omega arith in
    on_cond (OnOperands InMemory) (eqb mode 0 && eqb (sib % 8) 5) _ _
    (λ e. on_placed InMemory p.address_size reg base.None (index_of p sib) (sib / 64) (displacement32 s at) h (λ n. (tt, index_fits p sib, scale)))
    (λ e.
    on_placed InMemory p.address_size reg (base.Register (extended p.b sib)) (index_of p sib) (sib / 64) (displacement_at s at mode) h
    (λ n. (extended_lt p.b sib, index_fits p sib, scale)))

-- a byte that was read
abbrev IsByte : Step → Type 0
IsByte (step.Byte b next) = b < 256
IsByte step.End = Unit {0}

read_byte : (s : List ℕ) (at : ℕ) → Bytes s → IsByte (byte_at s at)
read_byte s at h = on_cond IsByte (ltb at (length s)) (step.Byte (get_or s at 0) (at + 1)) step.End (λ e. bytes_at s h at) (λ e. tt)

on_sib_from : (s : List ℕ) (p : Prefixes) (mode reg : ℕ) (z : Step) → reg < 16 → IsByte z → OnOperands InMemory (sib_from s p mode reg z)
on_sib_from s p mode reg (step.Byte b next) h l = on_sib s next p mode reg b h l
on_sib_from s p mode reg step.End h l = tt

-- mod 3 is a register, and else a memory place
module _ (s : List ℕ) (bytes : Bytes s) (at : ℕ) (p : Prefixes) (m : ℕ) where
  on_memory : (m / 64 ≡ 3 → ⊥) → OnOperands InMemory (modrm_of s at p m)
  unfolding modrm_of
  on_memory n =
      let reg = extended p.r (m / 8) in
      let h = extended_lt p.r (m / 8) in
      on_cond (OnOperands InMemory) (eqb (m / 64) 3) _ _ (λ e. absurd (n (eqb-true (m / 64) 3 e)))
      (λ e. on_cond (OnOperands InMemory) (eqb (m % 8) 4) _ _ (λ f. on_sib_from s p (m / 64) reg (byte_at s at) h (read_byte s at bytes))
      (λ f. on_cond (OnOperands InMemory) (eqb (m / 64) 0 && eqb (m % 8) 5) _ _
      (λ g. on_placed InMemory p.address_size reg base.Rip index.None 0 (displacement32 s at) h (λ n. (tt, tt, lit< tt)))
      (λ g.
      on_placed InMemory p.address_size reg (base.Register (extended p.b m)) index.None 0 (displacement_at s at (m / 64)) h (λ n. (extended_lt p.b m, tt, lit< tt)))))

  on_register : m / 64 ≡ 3 → OnOperands InRegister (modrm_of s at p m)
  unfolding modrm_of
  on_register n =
      on_cond (OnOperands InRegister) (eqb (m / 64) 3) _ _ (λ e. (extended_lt p.r (m / 8), extended_lt p.b m))
      (λ e. absurd (eqb-false (m / 64) 3 e n))

-- ---- instructions

abbrev pub OnFound : Decoded → Type 0
OnFound (decoded.Found what lock next) = Fits what
OnFound decoded.BadByte = Unit {0}
OnFound decoded.EndOfString = Unit {0}
OnFound decoded.Empty = Unit {0}

module _ (lock : Bool) (op m : ℕ) where
  built_memory : (o : Operands) → leb 0xFA op ≡ false → leb 0xC0 m ≡ false → OnOperands InMemory o → OnFound (built lock op m o)
  unfolding instruction_of
  built_memory (operands.Found reg rm next) e f h =
      on_cond Fits (eqb op 0xD8) _ _ (λ g. h.1)
      (λ g. on_cond Fits (leb 0xFA op) _ _ (λ k. absurd (true≢false (sym k ∙ e)))
      (λ k. on_cond Fits (leb 0xC0 m) _ _ (λ q. absurd (true≢false (sym q ∙ f))) (λ q. h)))
  built_memory operands.End e f h = tt

  built_register : (o : Operands) → eqb op 0xD8 ≡ false → leb 0xC0 m ≡ true → OnOperands InRegister o → OnFound (built lock op m o)
  unfolding instruction_of
  built_register (operands.Found reg rm next) e f h =
      on_cond Fits (eqb op 0xD8) _ _ (λ g. absurd (true≢false (sym g ∙ e)))
      (λ g. on_cond Fits (leb 0xFA op) _ _ (λ k. h) (λ k. on_cond Fits (leb 0xC0 m) _ _ (λ q. h) (λ q. absurd (true≢false (sym f ∙ q)))))
  built_register operands.End e f h = tt

-- which ModRM bytes an opcode has: D8 none with mod 3, FA and FB only those
wide_memory : (op m : ℕ) → allowed op m ≡ true → leb 0xC0 m ≡ true → eqb op 0xD8 ≡ false
wide_memory op m a b = go (eqb op 0xD8) refl where
  go : (c : Bool) → eqb op 0xD8 ≡ c → c ≡ false
  go false e = refl
  go true e =
      let o : op ≡ 0xD8 = eqb-true op 0xD8 e in
      let l : ltb m 0xC0 ≡ false = le-ltb m 0xC0 (leb-true 0xC0 m b) in
      absurd (true≢false (sym a ∙ ap (λ (x : ℕ). allowed x m) o ∙ ap (λ (t : Bool). t && ltb (m / 8 % 8) 4 || false) l))

encode_register : (op m : ℕ) → allowed op m ≡ true → leb 0xC0 m ≡ false → leb 0xFA op ≡ false
encode_register op m a b = go (leb 0xFA op) refl where
  go : (c : Bool) → leb 0xFA op ≡ c → c ≡ false
  go false e = refl
  go true e =
      let o : 0xFA ≤ op = leb-true 0xFA op e in
      let p : eqb op 0xDC ≡ false = ne_eqb op 0xDC (λ z. omega arith) in
      let q : leb op 0xDF ≡ false = lt-leb op 0xDF (omega arith) in
      let r : eqb op 0xD8 ≡ false = ne_eqb op 0xD8 (λ z. omega arith) in
      let d : leb 0xDD op ≡ true = le-leb 0xDD op (omega arith) in
      absurd (true≢false (sym a ∙ (λ j. p j || d j && q j && ltb m 0xC0 || r j && ltb m 0xC0 && ltb (m / 8 % 8) 4 || e j && b j)))

-- ---- byte by byte

-- what holds of the two refusals, and of all that is decoded from ModRM on, holds of every string that has a byte
module _ (s : List ℕ) (P : Decoded → Type 0) (bad : P decoded.BadByte) (ended : P decoded.EndOfString)
    (modrm : (p : Prefixes) (op at : ℕ) → P (modrm_from s p op (byte_at s at))) where
  on_opcode : (p : Prefixes) (z : Step) → P (opcode_from s p z)
  on_opcode p (step.Byte b next) = on_cond P (opcode b) _ _ (λ e. modrm p b next) (λ e. bad)
  on_opcode p step.End = ended

  on_map : (p : Prefixes) (z : Step) → P (map_from s p z)
  on_map p (step.Byte b next) = on_cond P (eqb b 0x38) _ _ (λ e. on_opcode p (byte_at s next)) (λ e. bad)
  on_map p step.End = ended

  on_escape : (p : Prefixes) (z : Step) → P (escape_from s p z)
  on_escape p (step.Byte b next) = on_cond P (eqb b 0x0F) _ _ (λ e. on_map p (byte_at s next)) (λ e. bad)
  on_escape p step.End = ended

  on_rex : (lock : Bool) (size : AddressSize) (z : Step) → P (rex_from s lock size z)
  on_rex lock size (step.Byte b next) =
      on_cond P (eqb (b / 16) 4) _ _ (λ e. on_escape (rex_of lock size b) (byte_at s next)) (λ e. on_escape (rex_of lock size 0) (step.Byte b next))
  on_rex lock size step.End = ended

  on_rep : (lock : Bool) (size : AddressSize) (z : Step) → P (rep_from s lock size z)
  on_rep lock size (step.Byte b next) = on_cond P (eqb b 0xF3) _ _ (λ e. on_rex lock size (byte_at s next)) (λ e. bad)
  on_rep lock size step.End = ended

  on_size : (lock : Bool) (z : Step) → P (address_size_from s lock z)
  on_size lock (step.Byte b next) = on_cond P (eqb b 0x67) _ _ (λ e. on_rep lock Bits32 (byte_at s next)) (λ e. on_rep lock Bits64 (step.Byte b next))
  on_size lock step.End = ended

  pub on_first : (b next : ℕ) → P (lock_from s (step.Byte b next))
  on_first b next = on_cond P (eqb b 0xF0) _ _ (λ e. on_size true (byte_at s next)) (λ e. on_size false (step.Byte b next))

  -- and of every string, if of none at all
  on_string : P decoded.Empty → (at : ℕ) → P (decode_at s at)
  unfolding decode_at
  on_string empty at = go (byte_at s at)
    where
      go : (z : Step) → P (lock_from s z)
      go (step.Byte b next) = on_first b next
      go step.End = empty

-- ---- every string of bytes

module _ (s : List ℕ) (bytes : Bytes s) where
  on_modrm : (p : Prefixes) (op : ℕ) (z : Step) → IsByte z → OnFound (modrm_from s p op z)
  on_modrm p op (step.Byte m next) l = on_cond OnFound (allowed op m) _ _ (λ a. go a (leb 0xC0 m) refl) (λ a. tt) where
    go : allowed op m ≡ true → (c : Bool) → leb 0xC0 m ≡ c → OnFound (built p.lock op m (modrm_of s next p m))
    go a true e =
        let h : 0xC0 ≤ m = leb-true 0xC0 m e in
        let q : m / 64 ≡ 3 = omega arith in
        built_register p.lock op m (modrm_of s next p m) (wide_memory op m a e) e (on_register s bytes next p m q)
    go a false e =
        let h : m < 0xC0 = leb-false 0xC0 m e in
        built_memory p.lock op m (modrm_of s next p m) (encode_register op m a e) e (on_memory s bytes next p m (λ q. omega arith))
  on_modrm p op step.End l = tt

  pub decoded_fits : (at : ℕ) → OnFound (decode_at s at)
  decoded_fits = on_string s OnFound tt tt (λ p op at. on_modrm p op (byte_at s at) (read_byte s at bytes)) tt

-- ---- every list of numbers: the block of a use is a register

abbrev pub OnBlock : Decoded → Type 0
OnBlock (decoded.Found (instruction.Use u) lock next) = u.block < 16
OnBlock (decoded.Found (instruction.WideUse u) lock next) = Unit {0}
OnBlock (decoded.Found (instruction.LoadIwKey l) lock next) = Unit {0}
OnBlock (decoded.Found (instruction.EncodeKey e) lock next) = Unit {0}
OnBlock decoded.BadByte = Unit {0}
OnBlock decoded.EndOfString = Unit {0}
OnBlock decoded.Empty = Unit {0}

abbrev Any : Operand → Type 0
Any o = Unit {0}

module _ (s : List ℕ) where
  reg_sib : (p : Prefixes) (mode reg : ℕ) (z : Step) → reg < 16 → OnOperands Any (sib_from s p mode reg z)
  unfolding sib_of
  reg_sib p mode reg (step.Byte sib at) h =
      on_cond (OnOperands Any) (eqb mode 0 && eqb (sib % 8) 5) _ _
      (λ e. on_placed Any p.address_size reg base.None (index_of p sib) (sib / 64) (displacement32 s at) h (λ n. tt))
      (λ e. on_placed Any p.address_size reg (base.Register (extended p.b sib)) (index_of p sib) (sib / 64) (displacement_at s at mode) h (λ n. tt))
  reg_sib p mode reg step.End h = tt

  reg_modrm : (at : ℕ) (p : Prefixes) (m : ℕ) → OnOperands Any (modrm_of s at p m)
  unfolding modrm_of
  reg_modrm at p m =
      let reg = extended p.r (m / 8) in
      let h = extended_lt p.r (m / 8) in
      on_cond (OnOperands Any) (eqb (m / 64) 3) _ _ (λ e. (h, tt))
      (λ e. on_cond (OnOperands Any) (eqb (m % 8) 4) _ _ (λ f. reg_sib p (m / 64) reg (byte_at s at) h)
      (λ f. on_cond (OnOperands Any) (eqb (m / 64) 0 && eqb (m % 8) 5) _ _
      (λ g. on_placed Any p.address_size reg base.Rip index.None 0 (displacement32 s at) h (λ n. tt))
      (λ g. on_placed Any p.address_size reg (base.Register (extended p.b m)) index.None 0 (displacement_at s at (m / 64)) h (λ n. tt))))

  block_built : (lock : Bool) (op m : ℕ) (o : Operands) → OnOperands Any o → OnBlock (built lock op m o)
  unfolding instruction_of
  block_built lock op m (operands.Found reg rm next) h =
      let P : Instruction → Type 0 = λ i. OnBlock (decoded.Found i lock next) in
      on_cond P (eqb op 0xD8) _ _ (λ e. tt) (λ e. on_cond P (leb 0xFA op) _ _ (λ f. tt) (λ f. on_cond P (leb 0xC0 m) _ _ (λ g. tt) (λ g. h.0)))
  block_built lock op m operands.End h = tt

  block_modrm : (p : Prefixes) (op : ℕ) (z : Step) → OnBlock (modrm_from s p op z)
  block_modrm p op (step.Byte m next) =
      on_cond OnBlock (allowed op m) _ _ (λ a. block_built p.lock op m (modrm_of s next p m) (reg_modrm next p m)) (λ a. tt)
  block_modrm p op step.End = tt

  pub block_fits : (at : ℕ) → OnBlock (decode_at s at)
  block_fits = on_string s OnBlock tt tt (λ p op at. block_modrm p op (byte_at s at)) tt
