-- The numbered tests: a call that none refuses fails them all; no refusal of the list is 1.
-- Assumes nothing.
use mathlib.Core.Path.{◌≡◌, ◌∙◌, refl, sym, ap, subst}
use mathlib.Core.Bool.{Bool, true, false, cond, not, ◌&&◌, ◌||◌, or-false}
use mathlib.Core.List.{List, [], ◌∷◌}
use mathlib.Core.Option.{Option, none, some}
use Prim.Native.Nat.{ℕ, zero, suc, ◌<◌, ◌≤◌}
use lib.Dec.{T, eqb, leb, ltb}
use lib.ListN.{length, take, drop}
use borrow.Author.Tests.{leb-false, ltb-false, eqb-true, not-false}
use Rattle.bits.proofs.Choice.{and_left, and_right, or_left, or_right, on_cond}
use Rattle.fips197.specs.declared.KeySize.TheVariants.{Aes128, Aes256}
use Rattle.isa.specs.Decode.{decode}
use Rattle.isa.specs.Ranges.{handle_length}
use Rattle.isa.specs.declared.Decoded.TheVariants as decoded
use Rattle.isa.specs.declared.Instruction.{Instruction}
use Rattle.model.specs.Cpu.{cpu_size}
use Rattle.model.specs.Forms.{Form, form_of, handle_address}
use Rattle.model.specs.Calls.{StepCall, CounterCall, Call, step, counter, taken}
use Rattle.model.specs.Counter.{size_of}
use Rattle.model.specs.Refusals.{View, Test, Asked, first, of, of_decoded, of_instruction, of_handle, memory_limit, buffer_limit, bad_size, random_length, instruction_fault, outside, tests, asked, operands, step_refusal, refusal}

-- none of the tests holds
abbrev pub Clear : List Test → Type 0
Clear [] = Unit {0}
Clear (t ∷ l) = (t.holds ≡ false) × Clear l

-- every number of the list whose test holds passes a test
abbrev pub Holding : (ℕ → Bool) → List Test → Type 0
Holding f [] = Unit {0}
Holding f (t ∷ l) = (t.holds ≡ true → T (f t.number)) × Holding f l

-- so does the first
pub first_holding : (f : ℕ → Bool) (l : List Test) → T (f 0) → Holding f l → T (f (first l))
first_holding f [] z h = z
first_holding f (t ∷ l) z h = on_cond (λ n. T (f n)) t.holds t.number (first l) h.0 (λ e. first_holding f l z h.1)

-- every number of the list passes a test
abbrev numbers_are : (ℕ → Bool) → List Test → Bool
numbers_are f [] = true
numbers_are f (t ∷ l) = f t.number && numbers_are f l

-- where the first k do, the others decide
pub holding_from : (f : ℕ → Bool) (k : ℕ) (l : List Test) → T (numbers_are f (take k l)) → Holding f (drop k l) → Holding f l
holding_from f zero l h r = r
holding_from f (suc k) [] h r = tt
holding_from f (suc k) (t ∷ l) h r =
    (λ e. and_left (f t.number) (numbers_are f (take k l)) h, holding_from f k l (and_right (f t.number) (numbers_are f (take k l)) h) r)

first_clear : (l : List Test) → T (numbers_are (λ n. not (eqb n 0)) l) → first l ≡ 0 → Clear l
first_clear [] h e = tt
first_clear (t ∷ l) h e =
    let r = off t.holds t.number (first l) (and_left (not (eqb t.number 0)) (numbers_are (λ n. not (eqb n 0)) l) h) e in
    (r.0, first_clear l (and_right (not (eqb t.number 0)) (numbers_are (λ n. not (eqb n 0)) l) h) r.1)
  where
    off : (b : Bool) (n r : ℕ) → T (not (eqb n 0)) → cond b n r ≡ 0 → (b ≡ false) × (r ≡ 0)
    off true n r h e = absurd (subst (λ (k : ℕ). T (not (eqb k 0))) e h)
    off false n r h e = (refl, e)

pub passes : (v : View) (c : Call) → refusal v c ≡ 0 → Clear (tests v (operands c))
unfolding refusal tests
passes v c e = first_clear (tests v (operands c)) tt e

pub never_1 : (v : View) (c : Call) → T (not (eqb (refusal v c) 1))
unfolding refusal tests
never_1 v c = first_holding (λ n. not (eqb n 1)) (tests v (operands c)) tt (holding_from (λ n. not (eqb n 1)) 14 (tests v (operands c)) tt tt)

-- that of a step is that of what is looked at in it
pub step-asked : (v : View) (s : StepCall) → step_refusal v (asked s) ≡ refusal v (step s)
unfolding refusal
step-asked v s = refl

-- `taken` has no operand but the machine
pub taken-refusal : (v : View) → refusal v taken ≡ 0
unfolding refusal tests
taken-refusal v = refl

-- ---- what a call that is not refused tells

pub processor_below : (v : View) (c : Call) (p : ℕ) → refusal v c ≡ 0 → (operands c).processor ≡ some p → p < v.count
unfolding tests
processor_below v c p e q =
    leb-false v.count p (sym (ap (of (leb v.count)) q) ∙ (passes v c e).1.0)

pub code_known : (v : View) (c : Call) → refusal v c ≡ 0 → (operands c).unknown_code ≡ false
unfolding tests
code_known v c e = (passes v c e).0

-- refusal 12 of a register call
pub no_register_fault : (v : View) (c : Call) → refusal v c ≡ 0 → (operands c).step ≡ none → (operands c).register_fault v.features ≡ false
unfolding tests
no_register_fault v c e q =
    sym (ap (λ (o : Option Asked). of (λ a. of_decoded (λ i lock bytes. instruction_fault v.features a.cpu i bytes) a.decoded) o || (operands c).register_fault v.features) q)
    ∙ (passes v c e).1.1.1.1.1.1.1.1.1.1.1.0

-- refusal 4
pub record_length : (v : View) (c : Call) (cpu : List ℕ) → refusal v c ≡ 0 → (operands c).cpu ≡ some cpu → length cpu ≡ cpu_size
unfolding tests
record_length v c cpu e q =
    eqb-true (length cpu) cpu_size
    (not-false (eqb (length cpu) cpu_size) (sym (ap (of (λ (r : List ℕ). not (eqb (length r) cpu_size))) q) ∙ (passes v c e).1.1.0))

module _ (v : View) (s : StepCall) (accepted : refusal v (step s) ≡ 0) where
  pub cpu_length : length s.cpu ≡ cpu_size
  cpu_length = record_length v (step s) s.cpu accepted refl

  pub memory_length : length s.memory ≤ memory_limit
  unfolding tests
  memory_length = ltb-false memory_limit (length s.memory) (passes v (step s) accepted).1.1.1.1.1.0

  pub random_length_lem : random_length (length s.random) ≡ true
  unfolding tests
  random_length_lem = not-false (random_length (length s.random)) (passes v (step s) accepted).1.1.1.1.1.1.0

  -- refusal 12
  pub no_fault : (what : Instruction) (lock : Bool) (bytes : ℕ) → decode s.string ≡ decoded.Found what lock bytes
      → instruction_fault v.features s.cpu what bytes ≡ false
  unfolding tests
  no_fault what lock bytes q =
      sym (ap (of_decoded (λ i lock bytes. instruction_fault v.features s.cpu i bytes)) q)
      ∙ sym (or-false (of_instruction (λ a i lock bytes. instruction_fault v.features a.cpu i bytes) (operands (step s))))
      ∙ (passes v (step s) accepted).1.1.1.1.1.1.1.1.1.1.1.0

  -- refusal 14
  pub handle_inside : (what : Instruction) (lock : Bool) (bytes : ℕ) (f : Form) → decode s.string ≡ decoded.Found what lock bytes → form_of what ≡ some f
      → outside (length s.memory) (handle_address s.cpu bytes f.handle) f.size ≡ false
  unfolding tests
  handle_inside what lock bytes f q r =
      sym (ap (of (λ u. outside (length s.memory) (handle_address s.cpu bytes u.handle) u.size)) r)
      ∙ sym (ap (of_decoded (λ i lock bytes. of_handle (outside (length s.memory)) s.cpu bytes i)) q)
      ∙ (passes v (step s) accepted).1.1.1.1.1.1.1.1.1.1.1.1.1.0

-- refusal 18
module _ (v : View) (c : CounterCall) (accepted : refusal v (counter c) ≡ 0) where
  abbrev known : Bool
  known = eqb (length c.handle) (handle_length Aes128) || eqb (length c.handle) (handle_length Aes256)

  sizes : bad_size c ≡ false
  unfolding tests
  sizes = (passes v (counter c) accepted).1.1.1.1.0

  small_and-known : (ltb buffer_limit (length c.buffer) || not known) ≡ false
  small_and-known = or_left (ltb buffer_limit (length c.buffer) || not known) (not (eqb (length c.counter) 16)) sizes

  pub counter_block : length c.counter ≡ 16
  counter_block =
      eqb-true (length c.counter) 16
      (not-false (eqb (length c.counter) 16) (or_right (ltb buffer_limit (length c.buffer) || not known) (not (eqb (length c.counter) 16)) sizes))

  pub handle_sized : length c.handle ≡ handle_length (size_of c.handle)
  handle_sized =
      go (eqb (length c.handle) (handle_length Aes128)) refl
      (not-false known (or_right (ltb buffer_limit (length c.buffer)) (not known) small_and-known))
    where
      go : (t : Bool) → eqb (length c.handle) (handle_length Aes128) ≡ t → (t || eqb (length c.handle) (handle_length Aes256)) ≡ true
          → length c.handle ≡ handle_length (cond t Aes128 Aes256)
      go true e k = eqb-true (length c.handle) (handle_length Aes128) e
      go false e k = eqb-true (length c.handle) (handle_length Aes256) k
