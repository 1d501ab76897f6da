-- Demand 3 says something of uses: seven lists that meet its hypotheses, one with XMM15, one with a wide form and one with the prefix 67 among them, and what
-- it gives for each.
-- Assumes nothing.
use mathlib.Core.Path.{◌≡◌, ◌∙◌, refl, sym, ap, subst}
use mathlib.Core.List.{List, [], ◌∷◌, ◌++◌, append_assoc}
use mathlib.Core.Option.{some}
use Prim.Native.Nat.{ℕ, zero, suc, ◌+◌, ◌≤◌}
use native.Mathlib.Nat.{not-suc-le-zero, le_of_suc-le-suc}
use native.Mathlib.Omega.{arith}
use lib.ListN.{length, get_or, take, replicate, get_or-map}
use lib.Seq.{sets, length-sets, take-nil, length-take-le, get_or-append_seam}
use Rattle.fips197.specs.declared.Direction.TheVariants.{Encrypt}
use Rattle.fips197.specs.declared.KeySize.{KeySize}
use Rattle.fips197.specs.declared.KeySize.TheVariants.{Aes128, Aes256}
use Rattle.isa.specs.Address.{effective_address}
use Rattle.isa.specs.Decode.{decode_at, displacement32, displacement_at, index_of, sib_of, modrm_of, instruction_of}
use Rattle.isa.specs.Ranges.{handle_length, some_not_canonical, some_outside}
use Rattle.isa.specs.declared.AddressSize.{AddressSize}
use Rattle.isa.specs.declared.AddressSize.TheVariants.{Bits64, Bits32}
use Rattle.isa.specs.declared.Base.TheVariants as base
use Rattle.isa.specs.declared.EncodeKey.{EncodeKey}
use Rattle.isa.specs.declared.Index.TheVariants as index
use Rattle.isa.specs.declared.Operand.{Operand}
use Rattle.isa.specs.declared.Operand.TheVariants as operand
use Rattle.model.specs.Records.{processor_at}
use Rattle.model.specs.Cpu.{cpu_size, cpl_at, xmm, zf, with_xmm}
use Rattle.model.specs.Calls.{StepCall, Call, step, reset, taken, Answer}
use Rattle.model.specs.Refusals.{tests, refusal}
use Rattle.model.specs.Instructions.{encoded, aes, advanced, executed}
use Rattle.model.specs.Execution.{perform, call, run, power_on}
use Rattle.model.specs.History.{view_given, name_at, copied_out, settled_names, moved, history}
use Rattle.model.specs.Demand3.{Encode, UseMade, encode_of, use_of, Agree, Works, answer_at}
use Rattle.model.specs.Examples.{rax, on, encrypt, encode_key128}
use Rattle.model.specs.declared.IwKey.{IwKey}
use Rattle.model.specs.declared.Machine.{Machine}
use Rattle.model.proofs.Frames.{by_number}
use Rattle.model.proofs.Demand3.{answer_at_lem, demand_3}
use Rattle.model.proofs.Computed.{two, load, idle, out, into, settling, sleeping}
use Rattle.model.proofs.Examples.{spelled, spelled-eq}

-- ---- lists that end in a use of a handle encoded in them

-- the calls before the encode, its source, the calls between; the use's processor, CPL, RAX and string, the key size, blocks and address size that the string
-- has, and the memory behind the handle
pub record Case : Type 0 where
  pub before : List Call
  pub source : ℕ
  pub between : List Call
  pub processor : ℕ
  pub cpl : ℕ
  pub address : ℕ
  pub string : List ℕ
  pub size : KeySize
  pub blocks : List ℕ
  pub address_size : AddressSize
  pub tail : List ℕ

abbrev pub machine : Machine
machine = (power_on two).machine

-- the encoded key
abbrev pub key : List ℕ
key = replicate 16 0x33

-- what stands in each XMM register before the use, and all of them
abbrev block : ℕ → List ℕ
block i = replicate 16 (0x40 + i)

abbrev blocks_up_to : ℕ → List ℕ
blocks_up_to zero = []
blocks_up_to (suc n) = blocks_up_to n ++ block n

-- [rax], [eax]
abbrev at_rax : AddressSize → Operand
at_rax size = operand.Memory (record { base = base.Register 0; index = index.None; scale = 0; address_size = size; displacement = 0 })

module _ (c : Case) where
  -- ENCODEKEY128 on processor 0
  abbrev pub encode : StepCall
  encode = on (with_xmm 0 key (rax c.source)) 0 encode_key128

  -- the 48 bytes that it gives
  abbrev pub handle : List ℕ
  handle = take 48 (call (run machine c.before).machine (step encode)).answer.cpu

  abbrev use_cpu : List ℕ
  use_cpu = sets (sets (rax c.address) 0 (blocks_up_to 16)) cpl_at (c.cpl ∷ [])

  -- the use, over a memory
  abbrev use_over : List ℕ → StepCall
  use_over memory = record { processor = c.processor; cpu = use_cpu; memory = memory; random = []; string = c.string }

  abbrev pub up_to : List Call
  up_to = c.before ++ step encode ∷ c.between

  abbrev last : Call
  last = step (use_over (handle ++ c.tail))

  abbrev calls : List Call
  calls = c.before ++ step encode ∷ (c.between ++ last ∷ [])

  -- what the encode and the use are
  abbrev pub encode_seen : Encode
  encode_seen = record { processor = 0; size = Aes128; source = c.source; key = key }

  abbrev use_seen : List ℕ → UseMade
  use_seen memory =
      record {
        processor = c.processor;
        cpu = use_cpu;
        form = record { direction = Encrypt; size = c.size; blocks = c.blocks; handle = at_rax c.address_size };
        bytes_read = take (handle_length c.size) memory;
      }

  -- the CPU record after the use
  abbrev after : List ℕ
  after = (answer_at (run machine calls) (length up_to)).cpu

-- ---- the theorem on such a list

-- what is computed of a list, with any 48 bytes for the handle
record Meets (c : Case) : Type 0 where
  encodes : encode_of (step (encode c)) ≡ some (encode_seen c)
  encode_accepted : refusal (view_given two) (step (encode c)) ≡ 0
  uses : (memory : List ℕ) → use_of (step (use_over c memory)) ≡ some (use_seen c memory)
  use_accepted : (h : List ℕ) → refusal (view_given two) (step (use_over c (spelled 48 h ++ c.tail))) ≡ 0
  encode_name : name_at 0 (history two c.before) ≡ 1
  use_name : name_at c.processor (history two (up_to c)) ≡ 1

-- bytes in front of a memory agree with what is read from its front
pub agree_front : (h tail : List ℕ) (n : ℕ) → length h ≤ n → Agree (take n (h ++ tail)) h
agree_front [] tail n b = sym (take-nil (length (take n tail)))
agree_front (x ∷ h) tail zero b = absurd (not-suc-le-zero b)
agree_front (x ∷ h) tail (suc n) b = ap (λ (l : List ℕ). x ∷ l) (agree_front h tail n (le_of_suc-le-suc b))

pub length_least : (size : KeySize) → 48 ≤ handle_length size
length_least Aes128 = omega arith
length_least Aes256 = omega arith

encoded-length : (e : EncodeKey) (k : IwKey) (cpu : List ℕ) (bytes : ℕ) → length (advanced bytes (encoded e k cpu)) ≡ length cpu
unfolding encoded
encoded-length e k cpu bytes = simp length-sets

answer_length : (m : Machine) (c : Case) → length (call m (step (encode c))).answer.cpu ≡ cpu_size
unfolding perform executed decode_at modrm_of instruction_of
answer_length m c =
    by_number m (step (encode c)) (λ o. length o.answer.cpu ≡ cpu_size)
    (λ e. encoded-length (record { size = Aes128; destination = 1; source = operand.Register 0 }) (processor_at m 0).key (encode c).cpu 5) (λ e. refl)

pub handle_length_lem : (c : Case) → length (handle c) ≡ 48
handle_length_lem c =
    let m = (run machine c.before).machine in
    length-take-le 48 (call m (step (encode c))).answer.cpu (omega (arith, answer_length m c))

-- the number of an answer is the history machine's
pub number_at : (calls xs : List Call) (d : Call) (ys : List Call) → calls ≡ xs ++ d ∷ ys → refusal (view_given two) d ≡ 0
    → (answer_at (run machine calls) (length xs)).number ≡ 0
unfolding refusal tests
number_at calls xs d ys split a =
    let i = length xs in
    let none : Answer = record { number = 0; cpu = []; buffer = []; value = 0 } in
    sym (get_or-map (λ (x : Answer). x.number) (run machine calls).answers i none)
    ∙ ap (λ (l : List ℕ). get_or l i 0) (demand_3 two refl calls).numbers
    ∙ get_or-map (refusal (view_given two)) calls i reset
    ∙ ap (λ (l : List Call). refusal (view_given two) (get_or l i reset)) split
    ∙ ap (refusal (view_given two)) (get_or-append_seam xs d ys reset)
    ∙ a

module _ (c : Case) (m : Meets c) where
  works : Works (encode_seen c) (use_seen c (handle c ++ c.tail)) (after c)
  works =
      let memory = handle c ++ c.tail in
      (demand_3 two refl (calls c)).uses c.before (step (encode c)) c.between (last c) [] refl (encode_seen c) m.encodes
      (number_at (calls c) c.before (step (encode c)) (c.between ++ last c ∷ []) refl m.encode_accepted)
      (use_seen c memory) (m.uses memory)
      (number_at (calls c) (up_to c) (last c) [] (sym (append_assoc c.before (step (encode c) ∷ c.between) (last c ∷ [])))
      (ap (λ (h : List ℕ). refusal (view_given two) (step (use_over c (h ++ c.tail)))) (spelled-eq 48 (handle c) (handle_length_lem c))
      ∙ m.use_accepted (handle c)))
      (m.encode_name ∙ sym m.use_name)
      (subst (λ (a : Answer). Agree (use_seen c memory).bytes_read (take 48 a.cpu))
      (sym (answer_at_lem machine c.before (step (encode c)) (c.between ++ last c ∷ [])))
      (agree_front (handle c) c.tail (handle_length c.size) (omega (arith, handle_length_lem c, length_least c.size))))

-- ---- the seven

-- the calls before: a load on processor 0
abbrev loaded : List Call
loaded = load 0 0 [] 0x11 ∷ []

-- after a load, a use at CPL 0
abbrev by : List ℕ → KeySize → List ℕ → ℕ → List Call → ℕ → Case
by string size blocks source between processor =
    record {
      before = loaded;
      source = source;
      between = between;
      processor = processor;
      cpl = 0;
      address = 0;
      string = string;
      size = size;
      blocks = blocks;
      address_size = Bits64;
      tail = replicate 16 0;
    }

-- AESENC128KL xmm0, [rax]
abbrev plainly : ℕ → List Call → ℕ → Case
plainly = by encrypt Aes128 (0 ∷ [])

abbrev pub other_processor : Case
other_processor = plainly 0 (out 0 ∷ into 1 ∷ []) 1

-- AESENC128KL xmm15, [rax]
abbrev old_store : Case
old_store = by (0xF3 ∷ 0x44 ∷ 0x0F ∷ 0x38 ∷ 0xDC ∷ 0x38 ∷ []) Aes128 (15 ∷ []) 0 (out 0 ∷ taken ∷ settling 0 ∷ sleeping 0 ∷ into 0 ∷ []) 0

-- AESENCWIDE128KL [rax]
abbrev new_store : Case
new_store =
    by (0xF3 ∷ 0x0F ∷ 0x38 ∷ 0xD8 ∷ 0x00 ∷ []) Aes128 (0 ∷ 1 ∷ 2 ∷ 3 ∷ 4 ∷ 5 ∷ 6 ∷ 7 ∷ []) 0 (out 0 ∷ taken ∷ idle ∷ sleeping 1 ∷ into 0 ∷ []) 0

-- AESENC256KL xmm0, [rax]
abbrev pub other_size : Case
other_size = by (0xF3 ∷ 0x0F ∷ 0x38 ∷ 0xDE ∷ 0x00 ∷ []) Aes256 (0 ∷ []) 0 [] 0

abbrev pub unprivileged : Case
unprivileged =
    record {
      before = loaded;
      source = 1;
      between = [];
      processor = 0;
      cpl = 3;
      address = 0;
      string = encrypt;
      size = Aes128;
      blocks = 0 ∷ [];
      address_size = Bits64;
      tail = [];
    }

abbrev pub other_direction : Case
other_direction = plainly 2 [] 0

-- AESENC128KL xmm0, [eax], where [rax] is not canonical
abbrev low_half : Case
low_half =
    record {
      before = loaded;
      source = 0;
      between = out 0 ∷ into 1 ∷ [];
      processor = 1;
      cpl = 3;
      address = 0x8000_0000_0000_0000;
      string = 0x67 ∷ encrypt;
      size = Aes128;
      blocks = 0 ∷ [];
      address_size = Bits32;
      tail = [];
    }

met : Meets other_processor × Meets old_store × Meets new_store × Meets other_size × Meets unprivileged × Meets other_direction × Meets low_half
unfolding refusal tests moved copied_out settled_names decode_at modrm_of sib_of index_of displacement_at displacement32 instruction_of effective_address
    some_not_canonical some_outside
met = (
  record { encodes = refl; encode_accepted = refl; uses = λ m. refl; use_accepted = λ h. refl; encode_name = refl; use_name = refl },
  record { encodes = refl; encode_accepted = refl; uses = λ m. refl; use_accepted = λ h. refl; encode_name = refl; use_name = refl },
  record { encodes = refl; encode_accepted = refl; uses = λ m. refl; use_accepted = λ h. refl; encode_name = refl; use_name = refl },
  record { encodes = refl; encode_accepted = refl; uses = λ m. refl; use_accepted = λ h. refl; encode_name = refl; use_name = refl },
  record { encodes = refl; encode_accepted = refl; uses = λ m. refl; use_accepted = λ h. refl; encode_name = refl; use_name = refl },
  record { encodes = refl; encode_accepted = refl; uses = λ m. refl; use_accepted = λ h. refl; encode_name = refl; use_name = refl },
  record { encodes = refl; encode_accepted = refl; uses = λ m. refl; use_accepted = λ h. refl; encode_name = refl; use_name = refl },
)

-- ZF is 0, register i holds AES of its block, and register j, which is none of the use's, keeps its own
abbrev Allowed : Case → ℕ → ℕ → Type 0
Allowed c i j = (zf (after c) ≡ 0) × (xmm i (after c) ≡ aes Encrypt Aes128 key (block i)) × (xmm j (after c) ≡ block j)

-- ZF is 1, and register i keeps its block
abbrev Forbidden : Case → ℕ → Type 0
Forbidden c i = (zf (after c) ≡ 1) × (xmm i (after c) ≡ block i)

pub seven_uses : Allowed other_processor 0 1 × Allowed old_store 15 7 × Allowed new_store 7 8 × Forbidden other_size 0 × Forbidden unprivileged 0
    × Forbidden other_direction 0 × Allowed low_half 0 1
seven_uses =
    let a = works other_processor met.0 in
    let b = works old_store met.1 in
    let c = works new_store met.2 in
    let d = works other_size met.3 in
    let e = works unprivileged met.4 in
    let f = works other_direction met.5 in
    let g = works low_half met.6 in (
      (a.0, a.1 0 (omega arith), a.1 1 (omega arith)),
      (b.0, b.1 15 (omega arith), b.1 7 (omega arith)),
      (c.0, c.1 7 (omega arith), c.1 8 (omega arith)),
      (d.0, d.1 0 (omega arith)),
      (e.0, e.1 0 (omega arith)),
      (f.0, f.1 0 (omega arith)),
      (g.0, g.1 0 (omega arith), g.1 1 (omega arith)),
    )
