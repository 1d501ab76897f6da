-- Instruction strings (the scope, "Instruction strings", and change requests (ii) and (vi); Intel 343965-001US chapter 3; SDM volume 2, 2.1.1, 2.1.5 and
-- 2.2.1): optional F0, optional 67, then F3, at most one REX byte, 0F 38, opcode, ModRM, SIB and displacement, read left to right; or no byte at all.
-- Assumes nothing.
use Rattle.std.specs.Prelude.{Bool, true, false, cond, ◌&&◌, ◌||◌, List, [], ◌∷◌, ℕ, ◌+◌, ◌/◌, ◌%◌, eqb, leb, ltb, length, get_or}
use Rattle.bits.specs.Words.{le_value}
use Rattle.fips197.specs.declared.Direction.{Direction}
use Rattle.fips197.specs.declared.Direction.TheVariants.{Encrypt, Decrypt}
use Rattle.fips197.specs.declared.KeySize.{KeySize}
use Rattle.fips197.specs.declared.KeySize.TheVariants.{Aes128, Aes256}
use Rattle.isa.specs.declared.Base.{Base}
use Rattle.isa.specs.declared.Base.TheVariants as base
use Rattle.isa.specs.declared.Index.{Index}
use Rattle.isa.specs.declared.Index.TheVariants as index
use Rattle.isa.specs.declared.AddressSize.{AddressSize}
use Rattle.isa.specs.declared.AddressSize.TheVariants.{Bits64, Bits32}
use Rattle.isa.specs.declared.Operand.{Operand}
use Rattle.isa.specs.declared.Operand.TheVariants as operand
use Rattle.isa.specs.declared.Instruction.{Instruction}
use Rattle.isa.specs.declared.Instruction.TheVariants as instruction
use Rattle.isa.specs.declared.Step.{Step}
use Rattle.isa.specs.declared.Step.TheVariants as step
use Rattle.isa.specs.declared.Displacement.{Displacement}
use Rattle.isa.specs.declared.Displacement.TheVariants as displacement
use Rattle.isa.specs.declared.Prefixes.{Prefixes}
use Rattle.isa.specs.declared.Operands.{Operands}
use Rattle.isa.specs.declared.Operands.TheVariants as operands
use Rattle.isa.specs.declared.Decoded.{Decoded}
use Rattle.isa.specs.declared.Decoded.TheVariants as decoded

-- the scope, "Instruction strings": the byte at a position, if there is one
abbrev pub byte_at : List ℕ → ℕ → Step
byte_at s at = cond (ltb at (length s)) (step.Byte (get_or s at 0) (at + 1)) step.End

-- ---- ModRM, SIB and displacement

-- SDM volume 2, 2.2.1.2: a register number of three bits, extended by a bit of REX
abbrev pub extended : Bool → ℕ → ℕ
extended bit n = cond bit (n % 8 + 8) (n % 8)

-- SDM volume 2, 2.2.1.3: displacements are sign-extended to 64 bits
abbrev pub signed8 : ℕ → ℕ
signed8 b = cond (ltb b 0x80) b (b + 0xFFFF_FFFF_FFFF_FF00)

abbrev pub signed32 : ℕ → ℕ
signed32 w = cond (ltb w 0x8000_0000) w (w + 0xFFFF_FFFF_0000_0000)

-- one byte, sign-extended
abbrev pub displacement8 : List ℕ → ℕ → Displacement
displacement8 s at = cond (ltb at (length s)) (displacement.Found (signed8 (get_or s at 0)) (at + 1)) displacement.End

-- the number of four bytes
abbrev pub word32 : ℕ → ℕ → ℕ → ℕ → ℕ
word32 a b c d = le_value (a ∷ b ∷ c ∷ d ∷ [])

-- four bytes, sign-extended
unfoldable pub displacement32 : List ℕ → ℕ → Displacement
displacement32 s at =
    cond (leb (at + 4) (length s))
    (displacement.Found (signed32 (word32 (get_or s at 0) (get_or s (at + 1) 0) (get_or s (at + 2) 0) (get_or s (at + 3) 0))) (at + 4))
    displacement.End

-- SDM volume 2, table 2-2: as mod says: one byte at 1, four at 2, else none
unfoldable pub displacement_at : List ℕ → ℕ → ℕ → Displacement
displacement_at s at mode = cond (eqb mode 1) (displacement8 s at) (cond (eqb mode 2) (displacement32 s at) (displacement.Found 0 at))

-- a memory place of this address size, once its displacement is read
abbrev pub placed : AddressSize → ℕ → Base → Index → ℕ → Displacement → Operands
placed size reg b i scale (displacement.Found d next) =
    operands.Found reg (operand.Memory (record { base = b; index = i; scale = scale; address_size = size; displacement = d })) next
placed size reg b i scale displacement.End = operands.End

-- SDM volume 2, table 2-3 and 2.2.1.2: SIB index 4 is none, but with REX.X it is R12
unfoldable pub index_of : Prefixes → ℕ → Index
index_of p sib = cond (eqb (extended p.x (sib / 8)) 4) index.None (index.Register (extended p.x (sib / 8)))

-- SDM volume 2, table 2-3: SIB base 5 with mod 0 is none, with a displacement of four bytes, whatever REX.B
unfoldable pub sib_of : List ℕ → ℕ → Prefixes → ℕ → ℕ → ℕ → Operands
sib_of s at p mode reg sib =
    cond (eqb mode 0 && eqb (sib % 8) 5)
    (placed p.address_size reg base.None (index_of p sib) (sib / 64) (displacement32 s at))
    (placed p.address_size reg (base.Register (extended p.b sib)) (index_of p sib) (sib / 64) (displacement_at s at mode))

abbrev pub sib_from : List ℕ → Prefixes → ℕ → ℕ → Step → Operands
sib_from s p mode reg (step.Byte sib next) = sib_of s next p mode reg sib
sib_from s p mode reg step.End = operands.End

-- SDM volume 2, table 2-2 and 2.2.1.6: mod 3 is a register; r/m 4 has a SIB byte; mod 0 with r/m 5 is relative to RIP, whatever REX.B
unfoldable pub modrm_of : List ℕ → ℕ → Prefixes → ℕ → Operands
modrm_of s at p m =
    cond (eqb (m / 64) 3) (operands.Found (extended p.r (m / 8)) (operand.Register (extended p.b m)) at)
    (cond (eqb (m % 8) 4) (sib_from s p (m / 64) (extended p.r (m / 8)) (byte_at s at))
    (cond (eqb (m / 64) 0 && eqb (m % 8) 5)
    (placed p.address_size (extended p.r (m / 8)) base.Rip index.None 0 (displacement32 s at))
    (placed p.address_size (extended p.r (m / 8)) (base.Register (extended p.b m)) index.None 0 (displacement_at s at (m / 64)))))

-- ---- the instructions

-- the scope, "Instruction strings": the opcodes DC to DF, D8, FA and FB
abbrev pub opcode : ℕ → Bool
opcode op = leb 0xDC op && leb op 0xDF || eqb op 0xD8 || eqb op 0xFA || eqb op 0xFB

-- the scope, "Instruction strings": the ModRM bytes that each has: DC any; DD to DF with mod not 3; D8 with mod not 3 and reg 0 to 3; FA and FB with mod 3
abbrev pub allowed : ℕ → ℕ → Bool
allowed op m = eqb op 0xDC || leb 0xDD op && leb op 0xDF && ltb m 0xC0 || eqb op 0xD8 && ltb m 0xC0 && ltb (m / 8 % 8) 4 || leb 0xFA op && leb 0xC0 m

-- bit 0 is the direction and bit 1 the key size, of DC to DF and of the reg field of D8
abbrev pub direction_of : ℕ → Direction
direction_of n = cond (eqb (n % 2) 0) Encrypt Decrypt

abbrev pub size_of : ℕ → KeySize
size_of n = cond (eqb (n % 2) 0) Aes128 Aes256

-- the scope, "Instruction strings": an instruction carries the operands that its kind has
unfoldable pub instruction_of : ℕ → ℕ → ℕ → Operand → Instruction
instruction_of op m reg rm =
    cond (eqb op 0xD8) (instruction.WideUse (record { direction = direction_of (m / 8); size = size_of (m / 16); handle = rm }))
    (cond (leb 0xFA op) (instruction.EncodeKey (record { size = size_of op; destination = reg; source = rm }))
    (cond (leb 0xC0 m) (instruction.LoadIwKey (record { src1 = reg; src2 = rm }))
    (instruction.Use (record { direction = direction_of op; size = size_of (op / 2); block = reg; handle = rm }))))

abbrev pub built : Bool → ℕ → ℕ → Operands → Decoded
built lock op m (operands.Found reg rm next) = decoded.Found (instruction_of op m reg rm) lock next
built lock op m operands.End = decoded.EndOfString

-- ---- byte by byte

-- from ModRM on
abbrev pub modrm_from : List ℕ → Prefixes → ℕ → Step → Decoded
modrm_from s p op (step.Byte m next) = cond (allowed op m) (built p.lock op m (modrm_of s next p m)) decoded.BadByte
modrm_from s p op step.End = decoded.EndOfString

-- from the opcode on
abbrev pub opcode_from : List ℕ → Prefixes → Step → Decoded
opcode_from s p (step.Byte b next) = cond (opcode b) (modrm_from s p b (byte_at s next)) decoded.BadByte
opcode_from s p step.End = decoded.EndOfString

-- from 38 on
abbrev pub map_from : List ℕ → Prefixes → Step → Decoded
map_from s p (step.Byte b next) = cond (eqb b 0x38) (opcode_from s p (byte_at s next)) decoded.BadByte
map_from s p step.End = decoded.EndOfString

-- from 0F on
abbrev pub escape_from : List ℕ → Prefixes → Step → Decoded
escape_from s p (step.Byte b next) = cond (eqb b 0x0F) (map_from s p (byte_at s next)) decoded.BadByte
escape_from s p step.End = decoded.EndOfString

-- SDM volume 2, 2.2.1.2: the bits of a REX byte, 0100WRXB, beside what was read before it
abbrev pub rex_of : Bool → AddressSize → ℕ → Prefixes
rex_of lock size b = record { lock = lock; address_size = size; r = eqb (b / 4 % 2) 1; x = eqb (b / 2 % 2) 1; b = eqb (b % 2) 1 }

-- from REX, or what stands in its place, on
abbrev pub rex_from : List ℕ → Bool → AddressSize → Step → Decoded
rex_from s lock size (step.Byte b next) =
    cond (eqb (b / 16) 4) (escape_from s (rex_of lock size b) (byte_at s next)) (escape_from s (rex_of lock size 0) (step.Byte b next))
rex_from s lock size step.End = decoded.EndOfString

-- from F3 on
abbrev pub rep_from : List ℕ → Bool → AddressSize → Step → Decoded
rep_from s lock size (step.Byte b next) = cond (eqb b 0xF3) (rex_from s lock size (byte_at s next)) decoded.BadByte
rep_from s lock size step.End = decoded.EndOfString

-- from 67, or what stands in its place, on; change request (ii): "One byte 67 may stand after LOCK and before F3" (SDM volume 2, 2.1.1). Without it the address
-- size is 64 bits (SDM volume 1, table 3-4)
abbrev pub address_size_from : List ℕ → Bool → Step → Decoded
address_size_from s lock (step.Byte b next) = cond (eqb b 0x67) (rep_from s lock Bits32 (byte_at s next)) (rep_from s lock Bits64 (step.Byte b next))
address_size_from s lock step.End = decoded.EndOfString

-- from F0, or what stands in its place, on; change request (vi): an idle tick has no string, and so no byte here
abbrev pub lock_from : List ℕ → Step → Decoded
lock_from s (step.Byte b next) = cond (eqb b 0xF0) (address_size_from s true (byte_at s next)) (address_size_from s false (step.Byte b next))
lock_from s step.End = decoded.Empty

-- the instruction at a position of a string
unfoldable pub decode_at : List ℕ → ℕ → Decoded
decode_at s at = lock_from s (byte_at s at)

-- the instruction that a string begins with: its length is the position behind it
abbrev pub decode : List ℕ → Decoded
decode s = decode_at s 0
