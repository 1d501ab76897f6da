-- Change request (vii), one counter call: what refuses it, what it leaves, twice, in two parts, and by the single and the wide form.
-- Assumes nothing.
use mathlib.Core.Path.{◌≡◌, ◌∙◌, refl, sym, ap, ap₂}
use mathlib.Core.Bool.{Bool, true, false, cond, not, ◌&&◌, ◌||◌, or-false}
use mathlib.Core.List.{List, [], ◌∷◌, ◌++◌}
use mathlib.Core.Option.{Option, none, some}
use Prim.Native.Nat.{ℕ, zero, suc, ◌+◌, ◌*◌, ◌%◌, ◌≤◌, ◌<◌}
use native.Mathlib.Omega.{arith}
use lib.Dec.{T, eqb, leb, ltb, lt→ltb}
use lib.ListN.{length, take, drop}
use lib.Seq.{length-sets}
use borrow.Author.Tests.{eqb-false, eq-eqb}
use Rattle.bits.specs.Bytes.{xor_bytes}
use Rattle.bits.specs.Words.{le_bytes}
use Rattle.bits.proofs.Choice.{cond_on, cond_of, and_both}
use Rattle.fips197.specs.declared.Direction.TheVariants.{Encrypt}
use Rattle.fips197.specs.declared.KeySize.{KeySize}
use Rattle.fips197.specs.declared.KeySize.TheVariants.{Aes128, Aes256}
use Rattle.isa.specs.Ranges.{handle_length}
use Rattle.isa.specs.declared.Operand.{Operand}
use Rattle.sp800_38a.specs.Counter.{counter_at, output_blocks, ctr}
use Rattle.sp800_38a.proofs.Ctr.{ctr-length, ctr_twice, ctr-append, ctr-at}
use Rattle.sp800_38a.proofs.Groups.{output_joined, ctr_group}
use Rattle.model.specs.Records.{processor_at}
use Rattle.model.specs.Cpu.{cpu_size, rflags_at, xmm, rflags, cpl, control, bad_record, zf, flags, with_zf, map_xmm}
use Rattle.model.specs.Forms.{Form, handle_read}
use Rattle.model.specs.Calls.{PowerOn, CounterCall, Call, counter, Outcome}
use Rattle.model.specs.Refusals.{View, Test, test, first, buffer_limit, bad_size, invalid_opcode, no_math, tests, refusal}
use Rattle.model.specs.Instructions.{opened_for, aes, ciphered, used}
use Rattle.model.specs.Counter.{Counted, size_of, counted_by, counted}
use Rattle.model.specs.Execution.{done, view_of, perform, number_of, call}
use Rattle.model.specs.History.{History, moved}
use Rattle.model.specs.Layout.{machine_at}
use Rattle.model.specs.Lent.{call_lent}
use Rattle.model.specs.Demand3.{Encode, UseMade, loads_key, encode_of, use_of, member}
use Rattle.model.specs.declared.IwKey.{IwKey}
use Rattle.model.specs.declared.Machine.{Machine}
use Rattle.model.proofs.Refusals.{record_length}
use Rattle.model.proofs.Cpu.{zf_written, zf_again, cpl-zf, control-zf, zeros_zf, xmm-zf, registers, mapped_length, xmm_mapped}
use Rattle.model.proofs.Uses.{aes-length}
use Rattle.model.proofs.Frames.{by_number, call_performed, accepted_parts}
use Rattle.model.proofs.Validities.{valid_number}
use Rattle.model.proofs.Lent.{kept_lent}

-- ---- what refuses it

-- "checked directly after 5; 10 and 11 follow as for the single form"
abbrev pub counter_tests : View → CounterCall → List Test
counter_tests v c =
    test 3 (leb v.count c.processor)
    ∷ test 4 (not (eqb (length c.cpu) cpu_size))
    ∷ test 5 (bad_record c.cpu)
    ∷ test 18 (bad_size c)
    ∷ test 10 (invalid_opcode v.features (control c.cpu) false true false)
    ∷ test 11 (no_math (control c.cpu))
    ∷ []

-- past 1
pub counter-refusal : (v : View) (c : CounterCall) → refusal v (counter c) ≡ first (counter_tests v c)
unfolding refusal tests
counter-refusal v c = simp or-false

-- ---- what it moves

-- no name, and it is no load, encode or use
pub counter_moves : (p : PowerOn) (past : List Call) (c : CounterCall) (h : History)
    → (moved p past (counter c) h ≡ h) × (loads_key (counter c) ≡ false) × (◌≡◌ {A = Option Encode} (encode_of (counter c)) none)
    × (◌≡◌ {A = Option UseMade} (use_of (counter c)) none)
unfolding moved
counter_moves p past c h = (refl, refl, refl, refl)

-- ---- by the key that its handle gives

-- ZF of a handle that gives a key, or none
abbrev pub zf_of : Option (List ℕ) → ℕ
zf_of none = 1
zf_of (some key) = 0

zf_small : (o : Option (List ℕ)) → zf_of o < 2
zf_small none = omega arith
zf_small (some key) = omega arith

module _ (c : CounterCall) (size : KeySize) where
  by_cpu : (o : Option (List ℕ)) → (counted_by size o c).cpu ≡ with_zf (zf_of o) c.cpu
  by_cpu none = refl
  by_cpu (some key) = refl

  by_length : (o : Option (List ℕ)) → length (counted_by size o c).buffer ≡ length c.buffer
  by_length none = refl
  by_length (some key) = ctr-length (aes Encrypt size key) (aes-length Encrypt size key) c.counter c.buffer

-- the same call on another CPU record and buffer
abbrev pub again : CounterCall → List ℕ → List ℕ → CounterCall
again c cpu buffer = record { processor = c.processor; cpu = cpu; handle = c.handle; counter = c.counter; buffer = buffer }

-- with another counter block and buffer
abbrev pub over : CounterCall → List ℕ → List ℕ → CounterCall
over c at buffer = record { processor = c.processor; cpu = c.cpu; handle = c.handle; counter = at; buffer = buffer }

module _ (c : CounterCall) (k : IwKey) where
  abbrev opened : Option (List ℕ)
  opened = opened_for k (cpl c.cpu) (size_of c.handle) Encrypt c.handle

  pub counted_cpu : (counted c k).cpu ≡ with_zf (zf_of opened) c.cpu
  unfolding counted
  counted_cpu = by_cpu c (size_of c.handle) opened

  pub counted-length : length (counted c k).buffer ≡ length c.buffer
  unfolding counted
  counted-length = by_length c (size_of c.handle) opened

  -- twice gives the buffer back
  pub counted_twice : length c.cpu ≡ cpu_size
      → counted (again c (counted c k).cpu (counted c k).buffer) k ≡ record { cpu = (counted c k).cpu; buffer = c.buffer }
  unfolding counted
  counted_twice l =
      ap (λ (p : ℕ). counted_by size (opened_for k p size Encrypt c.handle) (again c (counted c k).cpu (counted c k).buffer))
      (ap cpl counted_cpu ∙ cpl-zf (zf_of opened) c.cpu)
      ∙ by opened
    where
      size : KeySize
      size = size_of c.handle

      by : (o : Option (List ℕ))
          → counted_by size o (again c (counted_by size o c).cpu (counted_by size o c).buffer) ≡ record { cpu = (counted_by size o c).cpu; buffer = c.buffer }
      by none = λ j. record { cpu = zf_again 1 c.cpu (omega arith) l j; buffer = c.buffer }
      by (some key) =
          λ j.
          record {
            cpu = zf_again 0 c.cpu (omega arith) l j;
            buffer = ctr_twice (aes Encrypt size key) (aes-length Encrypt size key) c.counter c.buffer j;
          }

-- cut behind n blocks, with the counter block moved on for the second part
pub counter_cut : (c : CounterCall) (k : IwKey) (n : ℕ) (s t : List ℕ) → length s ≡ 16 * n
    → let all = counted (over c c.counter (s ++ t)) k in
    let front = counted (over c c.counter s) k in
    let back = counted (over c (counter_at c.counter n) t) k in
    (all.buffer ≡ front.buffer ++ back.buffer) × (all.cpu ≡ front.cpu) × (all.cpu ≡ back.cpu)
unfolding counted
counter_cut c k n s t h = by (opened c k)
  where
    size : KeySize
    size = size_of c.handle

    by : (o : Option (List ℕ))
        → let all = counted_by size o (over c c.counter (s ++ t)) in
        let front = counted_by size o (over c c.counter s) in
        let back = counted_by size o (over c (counter_at c.counter n) t) in
        (all.buffer ≡ front.buffer ++ back.buffer) × (all.cpu ≡ front.cpu) × (all.cpu ≡ back.cpu)
    by none = (refl, refl, refl)
    by (some key) = (ctr-append (aes Encrypt size key) (aes-length Encrypt size key) c.counter n s t h, refl, refl)

-- ---- on a machine

module _ (m : Machine) (c : CounterCall) where
  abbrev k : IwKey
  k = (processor_at m c.processor).key

  -- refused or not, the machine stays, and the CPU record but for its six flags
  pub counter_kept : ((call m (counter c)).machine ≡ m)
      × ((call m (counter c)).answer.cpu ≡ cond (eqb (number_of m (counter c)) 0) (with_zf (zf_of (opened c k)) c.cpu) c.cpu)
  unfolding call perform
  counter_kept = (
    by_number m (counter c) (λ o. o.machine ≡ m) (λ e. refl) (λ e. refl),
    cond_of (λ (o : Outcome). o.answer.cpu) (eqb (number_of m (counter c)) 0) _ _ _ _ (counted_cpu c k) refl,
  )

  -- what it leaves is refused as little
  again-refusal : (v : View) → refusal v (counter (again c (counted c k).cpu (counted c k).buffer)) ≡ refusal v (counter c)
  again-refusal v =
      counter-refusal v (again c (counted c k).cpu (counted c k).buffer)
      ∙ ap (λ (cpu : List ℕ). first (counter_tests v (again c cpu (counted c k).buffer))) (counted_cpu c k)
      ∙ (λ j.
      first
      (test 3 (leb v.count c.processor)
      ∷ test 4 (not (eqb (length-sets c.cpu rflags_at flagged j) cpu_size))
      ∷ test 5 (ltb 3 (cpl-zf z c.cpu j) || zeros_zf z c.cpu j)
      ∷ test 18 (bad_sizes (counted-length c k j) (length c.handle) (length c.counter))
      ∷ test 10 (invalid_opcode v.features (control-zf z c.cpu j) false true false)
      ∷ test 11 (no_math (control-zf z c.cpu j))
      ∷ []))
      ∙ sym (counter-refusal v c)
    where
      z : ℕ
      z = zf_of (opened c k)

      flagged : List ℕ
      flagged = le_bytes 8 (flags z (rflags c.cpu))

      bad_sizes : ℕ → ℕ → ℕ → Bool
      bad_sizes b h n = ltb buffer_limit b || not (eqb h (handle_length Aes128) || eqb h (handle_length Aes256)) || not (eqb n 16)

  -- the same call again, on what it left: answered 0, with the first buffer, and the flags as after the first
  pub counter_twice : number_of m (counter c) ≡ 0
      → let o = call m (counter c) in
      call o.machine (counter (again c o.answer.cpu o.answer.buffer)) ≡ done m o.answer.cpu c.buffer 0
  unfolding perform
  counter_twice e =
      let done_once = call_performed m (counter c) e in
      let parts = accepted_parts m (counter c) e in
      let second = again c (counted c k).cpu (counted c k).buffer in
      let sized = record_length (view_of m) (counter c) c.cpu parts.1 refl in
      ap (λ (o : Outcome). call o.machine (counter (again c o.answer.cpu o.answer.buffer))) done_once
      ∙ call_performed m (counter second) (valid_number m (counter second) parts.0 ∙ again-refusal (view_of m) ∙ parts.1)
      ∙ ap (λ (x : Counted). done m x.cpu x.buffer 0) (counted_twice c k sized)
      ∙ ap (λ (o : Outcome). done m o.answer.cpu c.buffer 0) (sym done_once)

-- so does a lent block, whatever it holds
pub counter_lent : (block : List ℕ) (c : CounterCall) → (call_lent block (counter c)).block ≡ block
counter_lent block c = kept_lent block (counter c) (counter_kept (machine_at block) c).0

-- ---- by the single and the wide form

-- n numbers from k on
abbrev from : ℕ → ℕ → List ℕ
from k zero = []
from k (suc n) = k ∷ from (k + 1) n

among : (n k j : ℕ) → k ≤ j → j < k + n → member j (from k n) ≡ true
among zero k j h g = absurd (omega arith)
among (suc n) k j h g = go (eqb j k) (λ q. let r = eqb-false j k q in among n (k + 1) j (omega (arith, r)) (omega arith))
  where
    go : (t : Bool) → (t ≡ false → member j (from (k + 1) n) ≡ true) → (t || member j (from (k + 1) n)) ≡ true
    go true r = refl
    go false r = r refl

module _ (size : KeySize) (key cpu : List ℕ) (l : length cpu ≡ cpu_size) where
  abbrev f : List ℕ → List ℕ
  f = aes Encrypt size key

  block_ciphered : (blocks : List ℕ) → T (registers blocks) → (i : ℕ) → i < 16 → member i blocks ≡ true
      → xmm i (ciphered Encrypt size blocks (some key) cpu) ≡ f (xmm i cpu)
  block_ciphered blocks fits i h here =
      xmm-zf i 0 (map_xmm f blocks cpu)
      ∙ xmm_mapped f (aes-length Encrypt size key) blocks fits cpu l i h
      ∙ cond_on here (f (xmm i cpu)) (xmm i cpu)

  -- XMM0 to XMM7 hold eight counter blocks, from the one i blocks behind c on: the wide form makes their output blocks of them, and these are what the data's
  -- eight blocks are XORed with
  pub group_wide : (c : List ℕ) (i : ℕ) → ((j : ℕ) → j < 8 → xmm j cpu ≡ counter_at c (i + j))
      → let after = ciphered Encrypt size (0 ∷ 1 ∷ 2 ∷ 3 ∷ 4 ∷ 5 ∷ 6 ∷ 7 ∷ []) (some key) cpu in
      (take 128 after ≡ output_blocks f c i 8)
      × ((s : List ℕ) → 16 * i + 128 ≤ length s → take 128 (drop (16 * i) (ctr f c s)) ≡ xor_bytes (take 128 (drop (16 * i) s)) (take 128 after))
  group_wide c i h =
      let after = ciphered Encrypt size (0 ∷ 1 ∷ 2 ∷ 3 ∷ 4 ∷ 5 ∷ 6 ∷ 7 ∷ []) (some key) cpu in
      let at : (j : ℕ) → j < 8 → j % 16 ≡ j = λ j k. omega arith in
      let joined : take 128 after ≡ output_blocks f c i 8 =
      output_joined f c after i 8
      (λ j k.
      ap (λ (n : ℕ). take 16 (drop (16 * n) after)) (sym (at j k))
      ∙ block_ciphered (from 0 8) tt j (omega arith) (among 8 0 j (omega arith) (omega arith)) ∙ ap f (h j k)) in
      (joined, λ s k. ctr_group f c (aes-length Encrypt size key) s i 8 k ∙ ap (xor_bytes (take 128 (drop (16 * i) s))) (sym joined))

-- AESENC128KL or AESENC256KL, by the handle's size
abbrev pub single_form : CounterCall → ℕ → Operand → Form
single_form c n handle = record { direction = Encrypt; size = size_of c.handle; blocks = n ∷ []; handle = handle }

-- it reads the same handle, at the same CPL
module _ (c : CounterCall) (k : IwKey) (memory : List ℕ) (bytes : ℕ) (handle : Operand) (n : ℕ) (cpu : List ℕ) (l : length cpu ≡ cpu_size)
    (level : cpl cpu ≡ cpl c.cpu) (read : handle_read memory cpu bytes (single_form c n handle) ≡ c.handle) where
  abbrev size : KeySize
  size = size_of c.handle

  abbrev after : List ℕ
  after = used memory bytes (single_form c n handle) k cpu

  used-opened : after ≡ ciphered Encrypt size (n ∷ []) (opened c k) cpu
  unfolding used
  used-opened =
      ap₂ (λ (p : ℕ) (b : List ℕ). ciphered Encrypt size (n ∷ []) (opened_for k p size Encrypt b) cpu) level read

  -- "The CPU record changes in its flags only, set as by a use."
  pub counter-zf : length c.cpu ≡ cpu_size → zf (counted c k).cpu ≡ zf after
  counter-zf m =
      ap zf (counted_cpu c k) ∙ zf_written (zf_of (opened c k)) c.cpu (zf_small (opened c k)) m
      ∙ sym (ap zf used-opened ∙ by (opened c k))
    where
      by : (o : Option (List ℕ)) → zf (ciphered Encrypt size (n ∷ []) o cpu) ≡ zf_of o
      by none = zf_written 1 cpu (omega arith) l
      by (some key) =
          let g = aes Encrypt size key in zf_written 0 (map_xmm g (n ∷ []) cpu) (omega arith) (mapped_length g (n ∷ []) cpu ∙ l)

  -- a handle that gives a key: block i of the buffer is XORed with what it makes of counter block i in an XMM register
  pub counter_single : (key : List ℕ) → ◌≡◌ {A = Option (List ℕ)} (opened c k) (some key) → n < 16
      → (i : ℕ) → xmm n cpu ≡ counter_at c.counter i → 16 * i ≤ length c.buffer
      → take 16 (drop (16 * i) (counted c k).buffer) ≡ xor_bytes (take 16 (drop (16 * i) c.buffer)) (xmm n after)
  unfolding counted
  counter_single key e h i block some' =
      let g = aes Encrypt size key in
      let fits = and_both (ltb n 16 && true) true (and_both (ltb n 16) true (lt→ltb n 16 h) tt) tt in
      let here : (eqb n n || false) ≡ true = ap (λ (b : Bool). b || false) (eq-eqb n n refl) in
      let made : xmm n after ≡ g (counter_at c.counter i) =
      ap (xmm n) used-opened ∙ ap (λ (o : Option (List ℕ)). xmm n (ciphered Encrypt size (n ∷ []) o cpu)) e
      ∙ block_ciphered size key cpu l (n ∷ []) fits n h here ∙ ap g block in
      ap (λ (o : Option (List ℕ)). take 16 (drop (16 * i) (counted_by size o c).buffer)) e
      ∙ ctr-at g (aes-length Encrypt size key) c.counter c.buffer i some'
      ∙ ap (xor_bytes (take 16 (drop (16 * i) c.buffer))) (sym made)
