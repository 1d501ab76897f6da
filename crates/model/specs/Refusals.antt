-- The scope, "Turned back, in checking order": refusals 2 to 14 as one list of numbered tests, with those of change requests at their places. A test is false
-- for a call that lacks its operand.
-- Assumes nothing.
use Rattle.std.specs.Prelude.{Bool, true, false, cond, not, ◌&&◌, ◌||◌, List, [], ◌∷◌, ℕ, ◌^◌, ◌/◌, ◌%◌, eqb, leb, ltb, length}
use Rattle.std.proofs.Math.Option.{Option, none, some}
use Rattle.isa.specs.Decode.{decode}
use Rattle.isa.specs.Ranges.{handle_length, some_not_canonical, some_outside}
use Rattle.fips197.specs.declared.KeySize.{KeySize}
use Rattle.fips197.specs.declared.KeySize.TheVariants.{Aes128, Aes256}
use Rattle.isa.specs.declared.Address.{Address}
use Rattle.isa.specs.declared.Decoded.{Decoded}
use Rattle.isa.specs.declared.Decoded.TheVariants as decoded
use Rattle.isa.specs.declared.Instruction.{Instruction}
use Rattle.isa.specs.declared.Instruction.TheVariants as instruction
use Rattle.isa.specs.declared.Segment.{Segment}
use Rattle.isa.specs.declared.Segment.TheVariants.{Data, Stack}
use Rattle.model.specs.Records.{key_locker, firmware_enabled, wide_forms, backup_registers, no_backup_supported, random_source}
use Rattle.model.specs.Cpu.{cpu_size, register, eax, cpl, control, cr4_kl, cr4_osfxsr, cr0_em, cr0_ts, zero_field_set}
use Rattle.model.specs.Forms.{form_of, register_of, handle_address, key_source, no_backup_bit}
use Rattle.model.specs.Calls.{StepCall, CounterCall, ReadCall, WriteCall, Call, step, counter, read, write, settle, sleep, reset, taken}

-- all that a refusal other than 1 depends on, besides the call
pub record View : Type 0 where
  pub count : ℕ
  pub features : ℕ

pub record Test : Type 0 where
  pub number : ℕ
  pub holds : Bool

abbrev pub test : ℕ → Bool → Test
test n b = record { number = n; holds = b }

-- the number of the first test that holds, 0 where none does
abbrev pub first : List Test → ℕ
first [] = 0
first (t ∷ l) = cond t.holds t.number (first l)

-- the tests numbered a to b
abbrev pub between : ℕ → ℕ → List Test → List Test
between a b [] = []
between a b (t ∷ l) = cond (leb a t.number && leb t.number b) (t ∷ between a b l) (between a b l)

-- ---- what the tests look at

-- in a step: of guest memory and random data the lengths, of the string what it holds
pub record Asked : Type 0 where
  pub processor : ℕ
  pub cpu : List ℕ
  pub memory : ℕ
  pub random : ℕ
  pub decoded : Decoded

-- in a call: where it lacks an operand, `none`, a code that is known, or a register that is never at fault
pub record Operands : Type 0 where
  pub unknown_code : Bool
  pub processor : Option ℕ
  pub cpl : Option ℕ
  pub cpu : Option (List ℕ)
  pub step : Option Asked
  pub counter : Option CounterCall
  pub register_fault : ℕ → Bool

-- a test of what a call may lack
abbrev pub of : {A : Type 0} → (A → Bool) → Option A → Bool
of f none = false
of f (some a) = f a

-- a test of the instruction that a string holds: of the instruction, whether it has LOCK, and its length
abbrev pub of_decoded : (Instruction → Bool → ℕ → Bool) → Decoded → Bool
of_decoded f (decoded.Found what lock bytes) = f what lock bytes
of_decoded f decoded.BadByte = false
of_decoded f decoded.EndOfString = false
of_decoded f decoded.Empty = false

abbrev pub of_instruction : (Asked → Instruction → Bool → ℕ → Bool) → Operands → Bool
of_instruction f o = of (λ a. of_decoded (f a) a.decoded) o.step

-- ---- 18

-- "18 a buffer above 65,536 bytes, another handle size or a counter block not of 16 bytes, checked directly after 5"
abbrev pub buffer_limit : ℕ
buffer_limit = 65536

abbrev pub bad_size : CounterCall → Bool
bad_size c =
    ltb buffer_limit (length c.buffer)
    || not (eqb (length c.handle) (handle_length Aes128) || eqb (length c.handle) (handle_length Aes256))
    || not (eqb (length c.counter) 16)

-- ---- 6 to 9

-- "Guest memory is at most 1,048,576 bytes"
abbrev pub memory_limit : ℕ
memory_limit = 1048576

-- "Random data neither 0 nor 48 bytes."
abbrev pub random_length : ℕ → Bool
random_length n = eqb n 0 || eqb n 48

-- "A byte, read left to right, that no instruction above has there."
abbrev pub bad_byte : Decoded → Bool
bad_byte (decoded.Found what lock bytes) = false
bad_byte decoded.BadByte = true
bad_byte decoded.EndOfString = false
bad_byte decoded.Empty = false

-- "The string ends inside an instruction." An empty one does not: change request (vi)
abbrev pub ended : Decoded → Bool
ended (decoded.Found what lock bytes) = false
ended decoded.BadByte = false
ended decoded.EndOfString = true
ended decoded.Empty = false

-- ---- 10 and 11, over the features and the control bits

-- "firmware bit off (not for LOADIWKEY; 001 section 3.12.5 decides)"
abbrev pub needs_firmware : Instruction → Bool
needs_firmware (instruction.Use u) = true
needs_firmware (instruction.WideUse u) = true
needs_firmware (instruction.LoadIwKey l) = false
needs_firmware (instruction.EncodeKey e) = true

-- "wide bit off for wide forms"
abbrev pub needs_wide : Instruction → Bool
needs_wide (instruction.Use u) = false
needs_wide (instruction.WideUse u) = true
needs_wide (instruction.LoadIwKey l) = false
needs_wide (instruction.EncodeKey e) = false

-- "#UD: LOCK, KL feature or CR4.KL off, EM on, OSFXSR off, firmware bit off .., wide bit off"
abbrev pub invalid_opcode : ℕ → ℕ → Bool → Bool → Bool → Bool
invalid_opcode features control lock firmware wide =
    lock || not (key_locker features) || not (cr4_kl control) || cr0_em control || not (cr4_osfxsr control)
    || firmware && not (firmware_enabled features)
    || wide && not (wide_forms features)

-- "#NM: TS on."
abbrev pub no_math : ℕ → Bool
no_math control = cr0_ts control

-- ---- 12 to 14

-- "LOADIWKEY at CPL above 0, key source above 1, EAX bits 31:5 set, NoBackup or source 1 unsupported"
abbrev pub load_fault : ℕ → List ℕ → Bool
load_fault features cpu =
    ltb 0 (cpl cpu) || ltb 1 (key_source cpu) || not (eqb (eax cpu / 2 ^ 5) 0)
    || eqb (no_backup_bit cpu) 1 && not (no_backup_supported features)
    || eqb (key_source cpu) 1 && not (random_source features)

-- "encode source bits 31:3 set"
abbrev pub encode_fault : ℕ → Bool
encode_fault source = not (eqb (source % 2 ^ 32 / 2 ^ 3) 0)

-- "a handle byte not canonical", in the segment asked for
abbrev pub in_segment : Bool → Segment → Bool
in_segment stack Data = not stack
in_segment stack Stack = stack

abbrev pub canonical_fault : Bool → Address → KeySize → Bool
canonical_fault stack a size = in_segment stack a.segment && some_not_canonical a.linear (handle_length size)

-- "a handle byte outside memory"
abbrev pub outside : ℕ → Address → KeySize → Bool
outside memory a size = some_outside memory a.linear (handle_length size)

-- a test of the handle that an instruction of so many bytes uses, if it is a use: of its address and key size
abbrev pub of_handle : (Address → KeySize → Bool) → List ℕ → ℕ → Instruction → Bool
of_handle f cpu bytes i = of (λ u. f (handle_address cpu bytes u.handle) u.size) (form_of i)

-- what an instruction has of 12
abbrev pub instruction_fault : ℕ → List ℕ → Instruction → ℕ → Bool
instruction_fault features cpu (instruction.Use u) bytes = of_handle (canonical_fault false) cpu bytes (instruction.Use u)
instruction_fault features cpu (instruction.WideUse u) bytes = of_handle (canonical_fault false) cpu bytes (instruction.WideUse u)
instruction_fault features cpu (instruction.LoadIwKey l) bytes = load_fault features cpu
instruction_fault features cpu (instruction.EncodeKey e) bytes = encode_fault (register (register_of e.source) cpu)

-- "a backup register at CPL above 0, without KL or backup feature, unknown address, wrong direction, bits 63:1 written"
abbrev pub no_registers : ℕ → ℕ → Bool
no_registers features cpl = ltb 0 cpl || not (key_locker features) || not (backup_registers features)

abbrev pub read_fault : ReadCall → ℕ → Bool
read_fault r features = no_registers features r.cpl || not (eqb r.address 0x990 || eqb r.address 0x991)

abbrev pub write_fault : WriteCall → ℕ → Bool
write_fault w features = no_registers features w.cpl || not (eqb w.address 0xD91 || eqb w.address 0xD92) || ltb 1 w.value

-- ---- the list

-- change request (vii), of a counter call: "10 and 11 follow as for the single form", which has no LOCK, needs firmware, and does not need the wide bit
unfoldable pub tests : View → Operands → List Test
tests v o =
    test 2 o.unknown_code
    ∷ test 3 (of (leb v.count) o.processor)
    ∷ test 4 (of (λ cpu. not (eqb (length cpu) cpu_size)) o.cpu)
    ∷ test 5 (of (ltb 3) o.cpl || of zero_field_set o.cpu)
    ∷ test 18 (of bad_size o.counter)
    ∷ test 6 (of (λ a. ltb memory_limit a.memory) o.step)
    ∷ test 7 (of (λ a. not (random_length a.random)) o.step)
    ∷ test 8 (of (λ a. bad_byte a.decoded) o.step)
    ∷ test 9 (of (λ a. ended a.decoded) o.step)
    ∷ test 10
    (of (λ c. invalid_opcode v.features (control c.cpu) false true false) o.counter
    || of_instruction (λ a i lock bytes. invalid_opcode v.features (control a.cpu) lock (needs_firmware i) (needs_wide i)) o)
    ∷ test 11 (of (λ c. no_math (control c.cpu)) o.counter || of_instruction (λ a i lock bytes. no_math (control a.cpu)) o)
    ∷ test 12 (of_instruction (λ a i lock bytes. instruction_fault v.features a.cpu i bytes) o || o.register_fault v.features)
    ∷ test 13 (of_instruction (λ a i lock bytes. of_handle (canonical_fault true) a.cpu bytes i) o)
    ∷ test 14 (of_instruction (λ a i lock bytes. of_handle (outside a.memory) a.cpu bytes i) o)
    ∷ []

-- ---- the calls

-- what is looked at in a step
abbrev pub asked : StepCall → Asked
asked s =
    record {
      processor = s.processor;
      cpu = s.cpu;
      memory = length s.memory;
      random = length s.random;
      decoded = decode s.string;
    }

-- the CPL of a step or counter call stands in its CPU record
abbrev pub of_cpu : ℕ → List ℕ → Option Asked → Option CounterCall → Operands
of_cpu p cpu s c =
    record {
      unknown_code = false;
      processor = some p;
      cpl = some (cpl cpu);
      cpu = some cpu;
      step = s;
      counter = c;
      register_fault = λ features. false;
    }

abbrev pub of_step : Asked → Operands
of_step a = of_cpu a.processor a.cpu (some a) none

abbrev pub of_counter : CounterCall → Operands
of_counter c = of_cpu c.processor c.cpu none (some c)

-- "A register call takes a processor number, a CPL, an address and, to write, 64 bits"
abbrev pub of_register : ℕ → ℕ → (ℕ → Bool) → Operands
of_register processor cpl fault =
    record { unknown_code = false; processor = some processor; cpl = some cpl; cpu = none; step = none; counter = none; register_fault = fault }

-- a call that has a code at the most
abbrev pub of_code : Bool → Operands
of_code unknown =
    record { unknown_code = unknown; processor = none; cpl = none; cpu = none; step = none; counter = none; register_fault = λ features. false }

-- settle knows the codes 0 and 1, wake 0 to 2 (2, "Settle or wake code unknown")
abbrev pub operands : Call → Operands
operands (step s) = of_step (asked s)
operands (counter c) = of_counter c
operands (read r) = of_register r.processor r.cpl (read_fault r)
operands (write w) = of_register w.processor w.cpl (write_fault w)
operands (settle s) = of_code (leb 2 s.code)
operands (sleep s) = of_code (leb 3 s.code)
operands reset = of_code false
operands taken = of_code false

-- the refusal of a step that passes 1, by what is looked at in it, or 0
abbrev pub step_refusal : View → Asked → ℕ
step_refusal v a = first (tests v (of_step a))

-- the refusal of a call that passes 1, or 0
unfoldable pub refusal : View → Call → ℕ
refusal v c = first (tests v (operands c))
