-- The scope, "Records": the CPU record, a list of 408 bytes, and what stands where in it. Numbers are little-endian.
-- Assumes nothing.
use Rattle.std.specs.Prelude.{Bool, not, ◌||◌, List, [], ◌∷◌, ℕ, ◌+◌, ◌*◌, ◌^◌, ◌/◌, ◌%◌, leb, ltb, get_or}
use Rattle.std.proofs.lemmas.List.Edits.{sets}
use Rattle.bits.specs.Words.{le_bytes, le_value}
use Rattle.model.specs.Numbers.{bit, clear_bit, part, all_zero}

-- ---- where each field begins

-- "XMM0 to XMM15 (16 each)"; a register number has four bits
abbrev pub xmm_at : ℕ → ℕ
xmm_at n = 16 * (n % 16)

-- "from 256 the registers RAX, RCX, RDX, RBX, RSP, RBP, RSI, RDI, R8 to R15 (8 each)"
abbrev pub register_at : ℕ → ℕ
register_at n = 16 * 16 + 8 * (n % 16)

-- "at 384 RIP"
abbrev pub rip_at : ℕ
rip_at = 16 * 16 + 8 * 16

-- "at 392 RFLAGS"
abbrev pub rflags_at : ℕ
rflags_at = rip_at + 8

-- "at 400 CPL, 0 to 3"
abbrev pub cpl_at : ℕ
cpl_at = rflags_at + 8

-- "at 401 control bits"
abbrev pub control_at : ℕ
control_at = cpl_at + 1

-- "402 to 407 zero"
abbrev pub zeros_at : ℕ
zeros_at = control_at + 1

-- "The CPU record has 408 bytes"
abbrev pub cpu_size : ℕ
cpu_size = zeros_at + 6

-- ---- reading

abbrev pub xmm : ℕ → List ℕ → List ℕ
xmm n cpu = part 16 (xmm_at n) cpu

abbrev pub register : ℕ → List ℕ → ℕ
register n cpu = le_value (part 8 (register_at n) cpu)

-- EAX is RAX modulo 2^32
abbrev pub eax : List ℕ → ℕ
eax cpu = register 0 cpu % 2 ^ 32

abbrev pub rip : List ℕ → ℕ
rip cpu = le_value (part 8 rip_at cpu)

abbrev pub rflags : List ℕ → ℕ
rflags cpu = le_value (part 8 rflags_at cpu)

abbrev pub cpl : List ℕ → ℕ
cpl cpu = get_or cpu cpl_at 0

abbrev pub control : List ℕ → ℕ
control cpu = get_or cpu control_at 0

-- "(0 CR4.KL, 1 CR4.OSFXSR, 2 CR0.EM, 3 CR0.TS, others zero)"
abbrev pub cr4_kl : ℕ → Bool
cr4_kl control = bit 0 control

abbrev pub cr4_osfxsr : ℕ → Bool
cr4_osfxsr control = bit 1 control

abbrev pub cr0_em : ℕ → Bool
cr0_em control = bit 2 control

abbrev pub cr0_ts : ℕ → Bool
cr0_ts control = bit 3 control

-- "a zero field of the CPU record not zero": control bits 4 to 7, or a byte from 402 on
abbrev pub zero_field_set : List ℕ → Bool
zero_field_set cpu = leb 16 (control cpu) || not (all_zero (part 6 zeros_at cpu))

-- the scope, "Turned back" 5, of a record: "CPL above 3, or a zero field of the CPU record not zero."
abbrev pub bad_record : List ℕ → Bool
bad_record cpu = ltb 3 (cpl cpu) || zero_field_set cpu

-- "ZF 6": the flag as 0 or 1
abbrev pub zf : List ℕ → ℕ
zf cpu = rflags cpu / 2 ^ 6 % 2

-- ---- writing

abbrev pub with_xmm : ℕ → List ℕ → List ℕ → List ℕ
with_xmm n b cpu = sets cpu (xmm_at n) b

-- the 64 bits of a register
abbrev pub with_register : ℕ → ℕ → List ℕ → List ℕ
with_register n x cpu = sets cpu (register_at n) (le_bytes 8 x)

abbrev pub with_rip : ℕ → List ℕ → List ℕ
with_rip x cpu = sets cpu rip_at (le_bytes 8 x)

-- "CF bit 0, PF 2, AF 4, ZF 6, SF 7, OF 11": ZF as told, the other five 0, all other bits of RFLAGS kept
abbrev pub six_cleared : ℕ → ℕ
six_cleared x = clear_bit 0 (clear_bit 2 (clear_bit 4 (clear_bit 6 (clear_bit 7 (clear_bit 11 x)))))

abbrev pub flags : ℕ → ℕ → ℕ
flags z x = six_cleared x + z * 2 ^ 6

abbrev pub with_zf : ℕ → List ℕ → List ℕ
with_zf z cpu = sets cpu rflags_at (le_bytes 8 (flags z (rflags cpu)))

-- f at each XMM register of a list, one after another
abbrev pub map_xmm : (List ℕ → List ℕ) → List ℕ → List ℕ → List ℕ
map_xmm f [] cpu = cpu
map_xmm f (n ∷ l) cpu = map_xmm f l (with_xmm n (f (xmm n cpu)) cpu)
