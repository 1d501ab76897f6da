-- The scope, "Twelve settled examples": K1 to K12 as one list, with more behind them that no other theorem stands for, and what it is for an example to hold;
-- four more lists, for change requests (ii), (v), (vi) and (vii).
-- Assumes nothing.
use Rattle.std.specs.Prelude.{◌≡◌, List, [], ◌∷◌, ◌++◌, ℕ, take, replicate}
use Rattle.std.proofs.Math.Option.{Option, none, some, map}
use Rattle.std.proofs.lemmas.List.Edits.{sets}
use Rattle.fips197.specs.declared.Direction.{Direction}
use Rattle.fips197.specs.declared.Direction.TheVariants.{Encrypt, Decrypt}
use Rattle.fips197.specs.declared.KeySize.{KeySize}
use Rattle.fips197.specs.declared.KeySize.TheVariants.{Aes128, Aes256}
use Rattle.isa.specs.Decode.{decode}
use Rattle.isa.specs.declared.Decoded.{Decoded}
use Rattle.isa.specs.declared.Decoded.TheVariants as decoded
use Rattle.model.specs.Records.{processor_at}
use Rattle.model.specs.Cpu as Cpu
use Rattle.model.specs.Cpu.{cpu_size, rflags_at, cpl_at, control_at, xmm, register, rflags, with_xmm, with_register, with_rip}
use Rattle.model.specs.Forms.{Form, form_of, handle_address}
use Rattle.model.specs.Calls.{PowerOn, StepCall, Call, step, counter, read, write, settle, sleep, taken, step_of, Outcome}
use Rattle.model.specs.Execution.{power_on, call, run}
use Rattle.model.specs.declared.IwKey.{IwKey}

-- ---- what an example is

-- what is to be seen of a call, besides its number
pub data Sight : Type 0 where
  nothing : Sight
  -- it is a use with this direction and key size, on these XMM registers, with a handle from this address
  uses : Direction → KeySize → List ℕ → ℕ → Sight
  -- afterwards: processor 0's IWKey
  key_is : IwKey → Sight
  -- the first 16 bytes of the handle in XMM0 and on
  aad_is : List ℕ → Sight
  -- a register, and its number
  register_is : ℕ → ℕ → Sight
  -- an XMM register
  xmm_is : ℕ → List ℕ → Sight
  -- RIP
  rip_is : ℕ → Sight
  -- RFLAGS
  rflags_is : ℕ → Sight
  -- the whole CPU record
  cpu_is : List ℕ → Sight
  -- the lent buffer
  buffer_is : List ℕ → Sight
  -- the value read
  value_is : ℕ → Sight

-- a power-on, the calls before, the call that the example is about, its number (0 where it is not refused), and what is to be seen
pub record Example : Type 0 where
  pub power : PowerOn
  pub before : List Call
  pub last : Call
  pub number : ℕ
  pub sight : Sight

-- ---- what it is for one to hold

-- what the call gives
abbrev pub outcome : Example → Outcome
outcome e = call (run (power_on e.power).machine e.before).machine e.last

-- the use in a step, if it is one
abbrev pub use_seen : StepCall → ℕ → Form → Sight
use_seen s bytes f = uses f.direction f.size f.blocks (handle_address s.cpu bytes f.handle).linear

abbrev pub seen_in : StepCall → Decoded → Option Sight
seen_in s (decoded.Found what lock bytes) = map (use_seen s bytes) (form_of what)
seen_in s decoded.BadByte = none
seen_in s decoded.EndOfString = none
seen_in s decoded.Empty = none

abbrev pub seen : Option StepCall → Option Sight
seen none = none
seen (some s) = seen_in s (decode s.string)

abbrev pub Seen : Sight → Call → Outcome → Type 0
Seen nothing c o = Unit {0}
Seen (uses d k b a) c o = seen (step_of c) ≡ some (uses d k b a)
Seen (key_is k) c o = (processor_at o.machine 0).key ≡ k
Seen (aad_is a) c o = take 16 o.answer.cpu ≡ a
Seen (register_is n x) c o = register n o.answer.cpu ≡ x
Seen (xmm_is n b) c o = xmm n o.answer.cpu ≡ b
Seen (rip_is x) c o = Cpu.rip o.answer.cpu ≡ x
Seen (rflags_is x) c o = rflags o.answer.cpu ≡ x
Seen (cpu_is b) c o = o.answer.cpu ≡ b
Seen (buffer_is b) c o = o.answer.buffer ≡ b
Seen (value_is x) c o = o.answer.value ≡ x

abbrev pub Fulfilled : Example → Type 0
Fulfilled e = ((outcome e).answer.number ≡ e.number) × Seen e.sight e.last (outcome e)

-- every example of a list holds
abbrev pub AllFulfilled : List Example → Type 0
AllFulfilled [] = Unit {0}
AllFulfilled (e ∷ l) = Fulfilled e × AllFulfilled l

-- ---- "Control bits 3, all features, CPL 0 unless said."

abbrev pub all_features : PowerOn
all_features = record { count = 1; features = 63 }

abbrev pub sixteen : PowerOn
sixteen = record { count = 16; features = 63 }

abbrev pub no_firmware : PowerOn
no_firmware = record { count = 1; features = 61 }

abbrev pub no_no_backup : PowerOn
no_no_backup = record { count = 1; features = 47 }

abbrev pub no_wide : PowerOn
no_wide = record { count = 1; features = 59 }

abbrev pub no_features : PowerOn
no_features = record { count = 1; features = 0 }

-- the CPU record: control bits 3, all else zero
abbrev pub cpu : List ℕ
cpu = sets (replicate cpu_size 0) control_at (3 ∷ [])

abbrev pub rax : ℕ → List ℕ
rax x = with_register 0 x cpu

abbrev pub rsp : ℕ → List ℕ
rsp x = with_register 4 x cpu

abbrev pub rip : ℕ → List ℕ
rip x = with_rip x cpu

-- a string on a processor, with so many bytes of memory, all zero, and random data
abbrev pub on_processor : ℕ → List ℕ → ℕ → List ℕ → List ℕ → StepCall
on_processor p c memory random string = record { processor = p; cpu = c; memory = replicate memory 0; random = random; string = string }

-- on the only processor, with no random data
abbrev pub on : List ℕ → ℕ → List ℕ → StepCall
on c memory string = on_processor 0 c memory [] string

-- after a power-on and calls, a call gives a number, and this is seen
abbrev pub after : PowerOn → List Call → Call → ℕ → Sight → Example
after p before c n x = record { power = p; before = before; last = c; number = n; sight = x }

-- on one processor with all features: the step gives a number
abbrev pub gives : StepCall → ℕ → Example
gives s n = after all_features [] (step s) n nothing

-- the same: the step is not refused, and this is seen
abbrev pub shows : StepCall → Sight → Example
shows s x = after all_features [] (step s) 0 x

-- a backup register of processor 0, at this CPL
abbrev pub writes : ℕ → ℕ → ℕ → Call
writes cpl address value = write (record { processor = 0; cpl = cpl; address = address; value = value })

-- after calls, a status register of processor 0 reads as this
abbrev pub status_reads : ℕ → List Call → ℕ → Example
status_reads address before x = after all_features before (read (record { processor = 0; cpl = 0; address = address })) 0 (value_is x)

-- IA32_IWKEYBACKUP_STATUS
abbrev pub backup_status : List Call → ℕ → Example
backup_status = status_reads 0x991

-- a counter call on a processor: the first bytes of its handle and how many zeros follow, how many zeros its counter block has, and how many bytes its buffer
abbrev pub counts_on : ℕ → List ℕ → List ℕ → ℕ → ℕ → ℕ → Call
counts_on p c handle zeros block bytes =
    counter
    (record { processor = p; cpu = c; handle = handle ++ replicate zeros 0; counter = replicate block 0; buffer = replicate bytes 0x5A })

-- the same on the only processor, with a handle of zeros
abbrev pub counts : List ℕ → ℕ → ℕ → ℕ → Call
counts c = counts_on 0 c []

-- ---- strings

-- AESENC128KL xmm0, [rax]
abbrev pub encrypt : List ℕ
encrypt = 0xF3 ∷ 0x0F ∷ 0x38 ∷ 0xDC ∷ 0x00 ∷ []

-- AESENC256KL xmm8, [rip + 16]
abbrev pub rip_relative : List ℕ
rip_relative = 0xF3 ∷ 0x44 ∷ 0x0F ∷ 0x38 ∷ 0xDE ∷ 0x05 ∷ 0x10 ∷ 0x00 ∷ 0x00 ∷ 0x00 ∷ []

-- LOADIWKEY xmm1, xmm2
abbrev pub load_iw_key : List ℕ
load_iw_key = 0xF3 ∷ 0x0F ∷ 0x38 ∷ 0xDC ∷ 0xCA ∷ []

-- ENCODEKEY128 ecx, eax; ENCODEKEY256 ecx, eax
abbrev pub encode_key128 : List ℕ
encode_key128 = 0xF3 ∷ 0x0F ∷ 0x38 ∷ 0xFA ∷ 0xC8 ∷ []

abbrev pub encode_key256 : List ℕ
encode_key256 = 0xF3 ∷ 0x0F ∷ 0x38 ∷ 0xFB ∷ 0xC8 ∷ []

-- ---- the examples

-- "K10's load with EAX 3 and 48 random bytes", and the IWKey that it makes: XMM0 to XMM2 are zero
abbrev pub random_load : StepCall
random_load = on_processor 0 (rax 3) 0 (replicate 16 0x5A ++ replicate 16 0x3C ++ replicate 16 0xC3) load_iw_key

abbrev pub random_key : IwKey
random_key =
    record { integrity = replicate 16 0xC3; encryption = replicate 16 0x5A ++ replicate 16 0x3C; source = 1; no_backup = 1 }

-- SRC1 holds sixteen 1s and SRC2 sixteen 2s: the CPU record before a load, and the IWKey that it makes
abbrev pub halves_cpu : List ℕ
halves_cpu = with_xmm 1 (replicate 16 1) (with_xmm 2 (replicate 16 2) cpu)

abbrev pub halves_key : IwKey
halves_key = record { integrity = replicate 16 0; encryption = replicate 16 2 ++ replicate 16 1; source = 0; no_backup = 0 }

-- all bits of XMM, general registers, RIP and RFLAGS are set; with control bits
abbrev pub ones_cpu : ℕ → List ℕ
ones_cpu bits = sets (replicate cpl_at 0xFF ++ replicate 8 0) control_at (bits ∷ [])

abbrev pub xmm3_cpu : List ℕ
xmm3_cpu = with_xmm 3 (replicate 16 0x33) cpu

abbrev pub examples : List Example
examples =
    -- K1 F3 0F 38 DC 00, RAX 0: memory 48 loads; 47 gives 14.
    gives (on (rax 0) 48 encrypt) 0
    ∷ gives (on (rax 0) 47 encrypt) 14
    -- K2 RAX 0x7FFFFFFFFFD0 gives 14; 0x7FFFFFFFFFD1 gives 12.
    ∷ gives (on (rax 0x7FFFFFFFFFD0) 48 encrypt) 14
    ∷ gives (on (rax 0x7FFFFFFFFFD1) 48 encrypt) 12
    -- K3 the latter in RSP (F3 0F 38 DC 04 24) gives 13.
    ∷ gives (on (rsp 0x7FFFFFFFFFD1) 48 (0xF3 ∷ 0x0F ∷ 0x38 ∷ 0xDC ∷ 0x04 ∷ 0x24 ∷ [])) 13
    -- K4 F3 0F 38 D8 20 gives 8; D8 18 is wide dec 256.
    ∷ gives (on cpu 64 (0xF3 ∷ 0x0F ∷ 0x38 ∷ 0xD8 ∷ 0x20 ∷ [])) 8
    ∷ shows (on cpu 64 (0xF3 ∷ 0x0F ∷ 0x38 ∷ 0xD8 ∷ 0x18 ∷ [])) (uses Decrypt Aes256 (0 ∷ 1 ∷ 2 ∷ 3 ∷ 4 ∷ 5 ∷ 6 ∷ 7 ∷ []) 0)
    -- K5 F3 0F 38 DD C0 gives 8.
    ∷ gives (on cpu 48 (0xF3 ∷ 0x0F ∷ 0x38 ∷ 0xDD ∷ 0xC0 ∷ [])) 8
    -- K6 F3 44 0F 38 DE 05 10 00 00 00, RIP 0: XMM8, address 26. The last of 64 bytes is at 89.
    ∷ shows (on (rip 0) 90 rip_relative) (uses Encrypt Aes256 (8 ∷ []) 26)
    ∷ gives (on (rip 0) 89 rip_relative) 14
    -- K7 as change request (vi) amends it: the empty string "changes nothing, RIP included".
    ∷ shows (on (ones_cpu 3) 0 []) (cpu_is (ones_cpu 3))
    -- K8 ENCODEKEY128 source 7: AAD 07, then 15 zeros; 8 gives 12.
    ∷ shows (on (rax 7) 0 encode_key128) (aad_is (0x07 ∷ replicate 15 0))
    ∷ gives (on (rax 8) 0 encode_key128) 12
    -- K9 ENCODEKEY256 source 1: AAD 01 00 00 01, then 12 zeros.
    ∷ shows (on (rax 1) 0 encode_key256) (aad_is (0x01 ∷ 0x00 ∷ 0x00 ∷ 0x01 ∷ replicate 12 0))
    -- K10 EAX 4 gives 12; 3 means random with NoBackup.
    ∷ gives (on (rax 4) 0 load_iw_key) 12
    ∷ shows random_load (key_is random_key)
    -- K11 after K10's load with EAX 3 and 48 random bytes an encode's destination is 3.
    ∷ after all_features (step random_load ∷ []) (step (on cpu 0 encode_key128)) 0 (register_is 1 3)
    -- K12 processor 15 of 16 exists; 16 gives 3.
    ∷ after sixteen [] (step (on_processor 15 cpu 48 [] encrypt)) 0 nothing
    ∷ after sixteen [] (step (on_processor 16 cpu 48 [] encrypt)) 3 nothing
    -- beside the twelve: refusal 10, "firmware bit off (not for LOADIWKEY ..)"; features 61 are all but this bit
    ∷ after no_firmware [] (step (on cpu 0 load_iw_key)) 0 nothing
    ∷ after no_firmware [] (step (on cpu 0 encode_key128)) 10 nothing
    -- "#UD: LOCK"; "#NM: TS on", bit 3 of the control bits
    ∷ gives (on (rax 0) 48 (0xF0 ∷ encrypt)) 10
    ∷ gives (on (sets (rax 0) control_at (0x0B ∷ [])) 48 encrypt) 11
    -- a CPL 0 handle is encoded at CPL 3 too
    ∷ gives (on (sets (rax 1) cpl_at (3 ∷ [])) 0 encode_key128) 0
    -- "Encryption key low half SRC2, high half SRC1"
    ∷ shows (on halves_cpu 0 load_iw_key) (key_is halves_key)
    -- ENCODEKEY128's handle goes "to XMM0 to 2", "XMM4 to 6 zero": XMM3 is kept
    ∷ shows (on xmm3_cpu 0 encode_key128) (xmm_is 3 (replicate 16 0x33))
    -- what comes first of two: 3 of 4, 10 of 11, 11 of 12
    ∷ after sixteen [] (step (on_processor 16 [] 48 [] encrypt)) 3 nothing
    ∷ gives (on (sets (rax 0) control_at (0x0B ∷ [])) 48 (0xF0 ∷ encrypt)) 10
    ∷ gives (on (sets (rax 8) control_at (0x0B ∷ [])) 0 encode_key128) 11
    -- "others zero", of the control bits
    ∷ gives (on (sets (rax 0) control_at (0x13 ∷ [])) 48 encrypt) 5
    -- "EAX bits 31:5 set", "NoBackup .. unsupported" (features 47 are all but this one), "a backup register at CPL above 0"
    ∷ gives (on (rax 0x20) 0 load_iw_key) 12
    ∷ after no_no_backup [] (step (on (rax 1) 0 load_iw_key)) 12 nothing
    ∷ after all_features [] (writes 1 0xD91 1) 12 nothing
    -- RFLAGS all ones before a load: "CF bit 0, PF 2, AF 4, ZF 6, SF 7, OF 11" are 0 after it, the others kept
    ∷ shows (on (sets cpu rflags_at (replicate 8 0xFF)) 0 load_iw_key) (rflags_is 0xFFFF_FFFF_FFFF_F72A)
    -- K6's instruction has ten bytes
    ∷ shows (on (rip 0) 90 rip_relative) (rip_is 10)
    -- "valid in bit 0, error 2, consumed 3": a bad settle, and a sleep that leaves junk
    ∷ backup_status (writes 0 0xD91 1 ∷ settle (record { code = 1 }) ∷ []) 12
    ∷ backup_status (sleep (record { code = 2 }) ∷ []) 4
    ∷ []

-- change request (ii): the prefix 67
abbrev pub address_size_examples : List Example
address_size_examples =
    -- RAX 0x100000000: memory 48 loads, and gives 14 without 67.
    gives (on (rax 0x1_0000_0000) 48 (0x67 ∷ encrypt)) 0
    ∷ gives (on (rax 0x1_0000_0000) 48 encrypt) 14
    -- RAX 0x8000000000000000: loads, and gives 12 without 67.
    ∷ gives (on (rax 0x8000_0000_0000_0000) 48 (0x67 ∷ encrypt)) 0
    ∷ gives (on (rax 0x8000_0000_0000_0000) 48 encrypt) 12
    -- AESENC128KL xmm0, [eax + 0x10], RAX 0xFFFFFFF0: address 0. With -0x10 and RAX 0 it is 0xFFFFFFF0, and the last bytes do not come back to 0: 14.
    ∷ shows (on (rax 0xFFFF_FFF0) 48 (0x67 ∷ 0xF3 ∷ 0x0F ∷ 0x38 ∷ 0xDC ∷ 0x40 ∷ 0x10 ∷ [])) (uses Encrypt Aes128 (0 ∷ []) 0)
    ∷ gives (on (rax 0) 48 (0x67 ∷ 0xF3 ∷ 0x0F ∷ 0x38 ∷ 0xDC ∷ 0x40 ∷ 0xF0 ∷ [])) 14
    -- K2 and K3 with 67: 14, not 12 and 13.
    ∷ gives (on (rax 0x7FFF_FFFF_FFD1) 48 (0x67 ∷ encrypt)) 14
    ∷ gives (on (rsp 0x7FFF_FFFF_FFD1) 48 (0x67 ∷ 0xF3 ∷ 0x0F ∷ 0x38 ∷ 0xDC ∷ 0x04 ∷ 0x24 ∷ [])) 14
    -- K6 with 67 has eleven bytes: address 27, and 0 where RIP 0xFFFFFFE5 comes to 2^32.
    ∷ shows (on (rip 0) 91 (0x67 ∷ rip_relative)) (uses Encrypt Aes256 (8 ∷ []) 27)
    ∷ shows (on (rip 0xFFFF_FFE5) 64 (0x67 ∷ rip_relative)) (uses Encrypt Aes256 (8 ∷ []) 0)
    -- 67 before registers counts in the length alone.
    ∷ shows (on halves_cpu 0 (0x67 ∷ load_iw_key)) (rip_is 6)
    ∷ shows (on halves_cpu 0 (0x67 ∷ load_iw_key)) (key_is halves_key)
    ∷ gives (on cpu 0 (0x67 ∷ encode_key128)) 0
    -- "after LOCK": F0 67 gives 10, 67 F0 gives 8.
    ∷ gives (on (rax 0) 48 (0xF0 ∷ 0x67 ∷ encrypt)) 10
    ∷ gives (on (rax 0) 48 (0x67 ∷ 0xF0 ∷ encrypt)) 8
    -- "One byte 67": 67 67 gives 8.
    ∷ gives (on (rax 0) 48 (0x67 ∷ 0x67 ∷ encrypt)) 8
    -- "before F3": F3 67, and 67 behind REX, give 8.
    ∷ gives (on (rax 0) 48 (0xF3 ∷ 0x67 ∷ 0x0F ∷ 0x38 ∷ 0xDC ∷ 0x00 ∷ [])) 8
    ∷ gives (on (rax 0) 48 (0xF3 ∷ 0x48 ∷ 0x67 ∷ 0x0F ∷ 0x38 ∷ 0xDC ∷ 0x00 ∷ [])) 8
    -- 67 and F0 67 alone give 9.
    ∷ gives (on (rax 0) 48 (0x67 ∷ [])) 9
    ∷ gives (on (rax 0) 48 (0xF0 ∷ 0x67 ∷ [])) 9
    ∷ []

-- change request (v): taken
abbrev pub taken_examples : List Example
taken_examples =
    let out = writes 0 0xD91 1 in
    let good = settle (record { code = 0 }) in
    let bad = settle (record { code = 1 }) in
    let new = sleep (record { code = 1 }) in
    -- "sets consumed when pending is 1": 8, and then 9 or 12 as without it
    backup_status (out ∷ []) 0
    ∷ backup_status (out ∷ taken ∷ []) 8
    ∷ backup_status (out ∷ taken ∷ good ∷ []) 9
    ∷ backup_status (out ∷ taken ∷ bad ∷ []) 12
    -- "and otherwise does nothing": before any copy out, and after a wake
    ∷ backup_status (taken ∷ []) 0
    ∷ backup_status (out ∷ new ∷ taken ∷ []) 1
    -- "0xD91 act[s] as before": consumed does not free it, and one that fails clears nothing; once settled, one clears consumed
    ∷ status_reads 0x990 (out ∷ taken ∷ out ∷ []) 0
    ∷ backup_status (out ∷ taken ∷ out ∷ []) 8
    ∷ status_reads 0x990 (out ∷ taken ∷ good ∷ out ∷ []) 1
    ∷ backup_status (out ∷ taken ∷ good ∷ out ∷ []) 0
    -- sleep: as without it
    ∷ backup_status (out ∷ taken ∷ new ∷ []) 1
    ∷ []

-- change request (vi): the idle step
abbrev pub idle_examples : List Example
idle_examples =
    -- no control bit, all of them, CPL 3, no feature
    shows (on (ones_cpu 0) 0 []) (cpu_is (ones_cpu 0))
    ∷ shows (on (ones_cpu 0x0F) 0 []) (cpu_is (ones_cpu 0x0F))
    ∷ shows (on (sets (ones_cpu 0) cpl_at (3 ∷ [])) 0 []) (cpu_is (sets (ones_cpu 0) cpl_at (3 ∷ [])))
    ∷ after no_features [] (step (on (ones_cpu 0) 0 [])) 0 (cpu_is (ones_cpu 0))
    -- the IWKey is kept
    ∷ after all_features (step (on halves_cpu 0 load_iw_key) ∷ []) (step (on (ones_cpu 3) 0 [])) 0 (key_is halves_key)
    -- "Refusals 1 to 7 still come first."
    ∷ gives (on_processor 1 cpu 0 [] []) 3
    ∷ gives (on [] 0 []) 4
    ∷ gives (on (sets cpu cpl_at (4 ∷ [])) 0 []) 5
    ∷ gives (on_processor 0 cpu 0 (0 ∷ []) []) 7
    -- F0 and F3 alone are not empty: 9, as 67 is above
    ∷ gives (on cpu 0 (0xF0 ∷ [])) 9
    ∷ gives (on cpu 0 (0xF3 ∷ [])) 9
    ∷ []

-- change request (vii): counter calls
abbrev pub counter_examples : List Example
counter_examples =
    let gives : Call → ℕ → Example = λ c n. after all_features [] c n nothing in
    let control : ℕ → List ℕ = λ bits. sets cpu control_at (bits ∷ []) in
    -- "handle with its size (48 or 64), a 16-byte counter block"; 65,536 bytes are not above the limit
    gives (counts cpu 48 16 3) 0
    ∷ gives (counts cpu 64 16 0) 0
    ∷ gives (counts cpu 48 16 65536) 0
    -- "18 a buffer above 65,536 bytes, another handle size or a counter block not of 16 bytes"
    ∷ gives (counts cpu 48 16 65537) 18
    ∷ gives (counts cpu 47 16 3) 18
    ∷ gives (counts cpu 63 16 3) 18
    ∷ gives (counts cpu 65 16 3) 18
    ∷ gives (counts cpu 48 15 3) 18
    ∷ gives (counts cpu 48 17 3) 18
    -- "checked directly after 5": 3, 4 and 5 come first of two
    ∷ gives (counts_on 1 cpu [] 47 16 3) 3
    ∷ gives (counts [] 47 16 3) 4
    ∷ gives (counts (sets cpu cpl_at (4 ∷ [])) 47 16 3) 5
    ∷ gives (counts (control 0x13) 47 16 3) 5
    -- and 10 and 11 behind it
    ∷ gives (counts (control 2) 47 16 3) 18
    ∷ gives (counts (control 0x0B) 47 16 3) 18
    -- "10 and 11 follow as for the single form": CR4.KL, CR4.OSFXSR, CR0.EM, features, firmware, CR0.TS; 10 of both
    ∷ gives (counts (control 2) 48 16 3) 10
    ∷ gives (counts (control 1) 48 16 3) 10
    ∷ gives (counts (control 7) 48 16 3) 10
    ∷ after no_features [] (counts cpu 48 16 3) 10 nothing
    ∷ after no_firmware [] (counts cpu 48 16 3) 10 nothing
    ∷ gives (counts (control 0x0B) 48 16 3) 11
    ∷ gives (counts (control 0x0A) 48 16 3) 10
    -- "on every machine the result equals the single form throughout": the wide bit is not asked
    ∷ after no_wide [] (counts cpu 48 16 3) 0 nothing
    -- "An empty buffer still has its handle opened.": reserved AAD bits, ZF 1
    ∷ after all_features [] (counts_on 0 cpu (0x08 ∷ []) 47 16 0) 0 (rflags_is 0x40)
    -- "A handle that the encrypting use would fail leaves the buffer unchanged": the wrong type, CPL 0 only at CPL 3, no encryption
    ∷ after all_features [] (counts_on 0 cpu (0 ∷ 0 ∷ 0 ∷ 1 ∷ []) 44 16 3) 0 (buffer_is (replicate 3 0x5A))
    ∷ after all_features [] (counts_on 0 (sets cpu cpl_at (3 ∷ [])) (0x01 ∷ []) 47 16 3) 0 (rflags_is 0x40)
    ∷ after all_features [] (counts_on 0 cpu (0x02 ∷ []) 47 16 3) 0 (rflags_is 0x40)
    -- "as a refusal does"
    ∷ after all_features [] (counts (control 2) 48 16 3) 10 (buffer_is (replicate 3 0x5A))
    -- "The CPU record changes in its flags only"
    ∷ after all_features [] (counts_on 0 (ones_cpu 3) (0x02 ∷ []) 47 16 3) 0
    (cpu_is (sets (ones_cpu 3) rflags_at (0x6A ∷ 0xF7 ∷ replicate 6 0xFF)))
    ∷ []
