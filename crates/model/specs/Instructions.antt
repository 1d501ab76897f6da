-- The scope, "What each instruction does" (Intel 343965-001US chapter 3): over one IWKey and the CPU record.
-- Assumes nothing.
use Rattle.std.specs.Prelude.{Bool, cond, not, ◌&&◌, ◌||◌, List, ◌++◌, ℕ, ◌+◌, ◌*◌, eqb, ltb, replicate}
use Rattle.std.proofs.Math.Option.{Option, none, some}
use Rattle.std.proofs.lemmas.List.Edits.{sets}
use Rattle.bits.specs.Bytes.{xor_bytes}
use Rattle.fips197.specs.Aes.{encrypt, decrypt}
use Rattle.handle.specs.Format.{aad, aad_of, key_type, restrictions, reserved_bit_set}
use Rattle.handle.specs.Wrap.{wrap_key, unwrap_key}
use Rattle.fips197.specs.Sizes.{nk}
use Rattle.fips197.specs.declared.Direction.{Direction}
use Rattle.fips197.specs.declared.Direction.TheVariants.{Encrypt, Decrypt}
use Rattle.fips197.specs.declared.KeySize.{KeySize}
use Rattle.fips197.specs.declared.KeySize.TheVariants.{Aes128, Aes256}
use Rattle.isa.specs.Address.{next_rip}
use Rattle.isa.specs.Decode.{decode}
use Rattle.isa.specs.declared.Decoded.{Decoded}
use Rattle.isa.specs.declared.Decoded.TheVariants as decoded
use Rattle.isa.specs.declared.EncodeKey.{EncodeKey}
use Rattle.isa.specs.declared.Instruction.{Instruction}
use Rattle.isa.specs.declared.Instruction.TheVariants as instruction
use Rattle.isa.specs.declared.LoadIwKey.{LoadIwKey}
use Rattle.model.specs.Numbers.{bit, part}
use Rattle.model.specs.Cpu.{xmm_at, xmm, register, rip, cpl, with_register, with_rip, with_zf, map_xmm}
use Rattle.model.specs.Forms.{Form, single, wide, register_of, handle_read, no_backup_bit, key_source, not_ready}
use Rattle.model.specs.Calls.{StepCall}
use Rattle.model.specs.declared.IwKey.{IwKey}

-- an IWKey and a CPU record after an instruction
pub record Executed : Type 0 where
  pub key : IwKey
  pub cpu : List ℕ

-- the scope, "AES and wrapping": "key type, 0 for AES-128, 1 for AES-256"
abbrev pub type_of : KeySize → ℕ
type_of Aes128 = 0
type_of Aes256 = 1

-- ---- ENCODEKEY (3.10, 3.11)

-- "key from XMM0 (then XMM1)"
abbrev pub key_from : KeySize → List ℕ → List ℕ
key_from size cpu = part (4 * nk size) (xmm_at 0) cpu

-- "AAD bits 2:0 from the source"
abbrev pub encoded_handle : EncodeKey → IwKey → List ℕ → List ℕ
encoded_handle e k cpu =
    wrap_key k.integrity k.encryption (aad (type_of e.size) (register (register_of e.source) cpu)) (key_from e.size cpu)

-- "handle to XMM0 to 2 or 0 to 3; XMM4 to 6 zero; destination = NoBackup + 2 × key source, zero-extended; six flags 0"
unfoldable pub encoded : EncodeKey → IwKey → List ℕ → List ℕ
encoded e k cpu =
    with_zf 0
    (with_register e.destination (k.no_backup + 2 * k.source)
    (sets (sets cpu (xmm_at 0) (encoded_handle e k cpu)) (xmm_at 4) (replicate (3 * 16) 0)))

-- ---- the uses (3.2 to 3.9)

-- the AAD forbids a direction: bit 1 encryption, bit 2 decryption
abbrev pub forbids : Direction → ℕ → Bool
forbids Encrypt r = bit 1 r
forbids Decrypt r = bit 2 r

-- "a handle with reserved AAD bits, the wrong type, CPL 0 only at CPL above 0, or the direction forbidden is illegal"
abbrev pub illegal : ℕ → KeySize → Direction → List ℕ → Bool
illegal cpl size direction a =
    reserved_bit_set a || not (eqb (key_type a) (type_of size)) || bit 0 (restrictions a) && ltb 0 cpl || forbids direction (restrictions a)

-- "and isn't unwrapped": the key that a handle gives, if any
unfoldable pub opened_for : IwKey → ℕ → KeySize → Direction → List ℕ → Option (List ℕ)
opened_for k cpl size direction h = cond (illegal cpl size direction (aad_of h)) none (unwrap_key k.integrity k.encryption h)

-- FIPS 197 in a direction
abbrev pub aes : Direction → KeySize → List ℕ → List ℕ → List ℕ
aes Encrypt size key b = encrypt (nk size) key b
aes Decrypt size key b = decrypt (nk size) key b

-- "Only where unwrapping hands out a key is a block touched. Then ZF is 0, otherwise ZF is 1 and XMM stays; the other five flags are 0."
abbrev pub ciphered : Direction → KeySize → List ℕ → Option (List ℕ) → List ℕ → List ℕ
ciphered direction size blocks none cpu = with_zf 1 cpu
ciphered direction size blocks (some key) cpu = with_zf 0 (map_xmm (aes direction size key) blocks cpu)

unfoldable pub used : List ℕ → ℕ → Form → IwKey → List ℕ → List ℕ
used memory bytes f k cpu =
    ciphered f.direction f.size f.blocks (opened_for k (cpl cpu) f.size f.direction (handle_read memory cpu bytes f)) cpu

-- ---- LOADIWKEY (3.12)

-- "Encryption key low half SRC2, high half SRC1; integrity key XMM0"
abbrev pub plain_key : LoadIwKey → List ℕ → IwKey
plain_key l cpu =
    record {
      integrity = xmm 0 cpu;
      encryption = xmm (register_of l.src2) cpu ++ xmm l.src1 cpu;
      source = key_source cpu;
      no_backup = no_backup_bit cpu;
    }

-- "with key source 1, XORed with random bytes 0 to 15, 16 to 31, 32 to 47 in that order"
abbrev pub mixed_with : List ℕ → IwKey → IwKey
mixed_with random k =
    record {
      integrity = xor_bytes k.integrity (part 16 32 random);
      encryption = xor_bytes k.encryption (part 32 0 random);
      source = k.source;
      no_backup = k.no_backup;
    }

unfoldable pub loaded_key : LoadIwKey → List ℕ → List ℕ → IwKey
loaded_key l random cpu = cond (eqb (key_source cpu) 1) (mixed_with random (plain_key l cpu)) (plain_key l cpu)

-- "Not ready at source 1: ZF 1, key kept. Else ZF 0. Other five flags 0."
abbrev pub load : LoadIwKey → List ℕ → IwKey → List ℕ → Executed
load l random k cpu =
    cond (not_ready random cpu) (record { key = k; cpu = with_zf 1 cpu }) (record { key = loaded_key l random cpu; cpu = with_zf 0 cpu })

-- ---- all

abbrev pub execute : List ℕ → List ℕ → Instruction → ℕ → IwKey → List ℕ → Executed
execute memory random (instruction.Use u) bytes k cpu = record { key = k; cpu = used memory bytes (single u) k cpu }
execute memory random (instruction.WideUse u) bytes k cpu = record { key = k; cpu = used memory bytes (wide u) k cpu }
execute memory random (instruction.LoadIwKey l) bytes k cpu = load l random k cpu
execute memory random (instruction.EncodeKey e) bytes k cpu = record { key = k; cpu = encoded e k cpu }

-- "RIP moves past every instruction not refused, modulo 2^64."
abbrev pub advanced : ℕ → List ℕ → List ℕ
advanced bytes cpu = with_rip (next_rip (rip cpu) bytes) cpu

-- the instruction of a string; a string that holds none does nothing, so the empty one "changes nothing, RIP included" (change request (vi))
abbrev pub stepped : StepCall → IwKey → Decoded → Executed
stepped s k (decoded.Found what lock bytes) =
    record {
      key = (execute s.memory s.random what bytes k s.cpu).key;
      cpu = advanced bytes (execute s.memory s.random what bytes k s.cpu).cpu;
    }
stepped s k decoded.BadByte = record { key = k; cpu = s.cpu }
stepped s k decoded.EndOfString = record { key = k; cpu = s.cpu }
stepped s k decoded.Empty = record { key = k; cpu = s.cpu }

unfoldable pub executed : StepCall → IwKey → Executed
executed s k = stepped s k (decode s.string)
