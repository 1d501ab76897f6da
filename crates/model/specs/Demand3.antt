-- Demand 3, over a list of calls and what a run of it gives. Neither wrapping nor its parts are in the statement.
-- Assumes nothing.
use Rattle.std.specs.Prelude.{◌≡◌, Bool, true, false, cond, not, ◌&&◌, ◌||◌, List, [], ◌∷◌, ◌++◌, map, ℕ, zero, suc, ◌*◌, ◌<◌, eqb, ltb, length, get_or, take}
use Rattle.std.proofs.Math.Option
use Rattle.std.proofs.Math.Option.{Option, none, some}
use Rattle.fips197.specs.Aes.{encrypt}
use Rattle.fips197.specs.Sizes.{nk}
use Rattle.fips197.specs.declared.Direction.{Direction}
use Rattle.fips197.specs.declared.Direction.TheVariants.{Encrypt, Decrypt}
use Rattle.fips197.specs.declared.KeySize.{KeySize}
use Rattle.isa.specs.Decode.{decode}
use Rattle.isa.specs.Ranges.{handle_length}
use Rattle.isa.specs.declared.Decoded.{Decoded}
use Rattle.isa.specs.declared.Decoded.TheVariants as decoded
use Rattle.isa.specs.declared.EncodeKey.{EncodeKey}
use Rattle.isa.specs.declared.Instruction.TheVariants as instruction
use Rattle.sp800_38a.specs.Counter.{ctr}
use Rattle.model.specs.Numbers.{bit}
use Rattle.model.specs.Cpu.{xmm, register, cpl, zf, with_zf}
use Rattle.model.specs.Forms.{Form, form_of, register_of, handle_read}
use Rattle.model.specs.Calls.{PowerOn, StepCall, CounterCall, Call, counter, on_step, Answer}
use Rattle.model.specs.Instructions.{aes}
use Rattle.model.specs.Counter.{size_of}
use Rattle.model.specs.Execution.{Run}
use Rattle.model.specs.History.{History, key_of, name_at, call_at, loads, history, refusals}
use Rattle.model.specs.declared.IwKey.{IwKey}
use Rattle.model.specs.declared.Slot.{Slot}
use Rattle.model.specs.declared.Machine.{Machine}

-- ---- the keys

-- what is compared: "each processor's IWKey ..; backup and store ..; pending"
pub record Holding : Type 0 where
  pub processors : List IwKey
  pub backup : Option IwKey
  pub store : Option IwKey
  pub pending : ℕ

-- the IWKey in a slot, or none
abbrev pub slot_key : Slot → Option IwKey
slot_key s = cond (eqb s.present 1) (some s.key) none

-- what a machine holds, processors below the count
abbrev pub held : Machine → Holding
held m =
    record {
      processors = map (λ e. e.key) (take m.count m.processors);
      backup = slot_key m.platform.backup;
      store = slot_key m.platform.store;
      pending = m.platform.pending;
    }

-- what a history names, its names being those of calls in the list
abbrev pub named : List Call → History → Holding
named calls h =
    record {
      processors = map (key_of calls) h.names;
      backup = Option.map (key_of calls) h.backup;
      store = Option.map (key_of calls) h.store;
      pending = h.pending;
    }

-- ---- the names

-- a name is 0, or the number of a call that is a LOADIWKEY, that no refusal stops and that was not "not ready"
abbrev pub loads_key : Call → Bool
loads_key = on_step loads false

abbrev pub given : PowerOn → List Call → ℕ → Bool
given p calls zero = true
given p calls (suc i) = ltb i (length calls) && (loads_key (call_at calls i) && eqb (get_or (refusals p calls) i 0) 0)

-- every name of a history passes a test
abbrev pub all_of : (ℕ → Bool) → List ℕ → Bool
all_of f [] = true
all_of f (n ∷ l) = f n && all_of f l

abbrev pub or_none : (ℕ → Bool) → Option ℕ → Bool
or_none f none = true
or_none f (some n) = f n

abbrev pub every_name : (ℕ → Bool) → History → Bool
every_name f h = all_of f h.names && (or_none f h.backup && or_none f h.store)

-- ---- encodes and uses

-- an encode: its processor, key size, source register, and the key
pub record Encode : Type 0 where
  pub processor : ℕ
  pub size : KeySize
  pub source : ℕ
  pub key : List ℕ

-- "The encoded key is XMM0 (then XMM1) before the encode": the first 16 or 32 bytes of the CPU record
abbrev pub encode_made : StepCall → EncodeKey → Encode
encode_made s e =
    record {
      processor = s.processor;
      size = e.size;
      source = register (register_of e.source) s.cpu;
      key = take (4 * nk e.size) s.cpu;
    }

abbrev pub encode_in : StepCall → Decoded → Option Encode
encode_in s (decoded.Found (instruction.Use u) lock bytes) = none
encode_in s (decoded.Found (instruction.WideUse u) lock bytes) = none
encode_in s (decoded.Found (instruction.LoadIwKey l) lock bytes) = none
encode_in s (decoded.Found (instruction.EncodeKey e) lock bytes) = some (encode_made s e)
encode_in s decoded.BadByte = none
encode_in s decoded.EndOfString = none
encode_in s decoded.Empty = none

-- "A use is one of the eight forms with a handle in memory": its processor, CPU record and form, and the bytes that it reads
pub record UseMade : Type 0 where
  pub processor : ℕ
  pub cpu : List ℕ
  pub form : Form
  pub bytes_read : List ℕ

abbrev pub use_made : StepCall → ℕ → Form → UseMade
use_made s bytes f = record { processor = s.processor; cpu = s.cpu; form = f; bytes_read = handle_read s.memory s.cpu bytes f }

abbrev pub use_in : StepCall → Decoded → Option UseMade
use_in s (decoded.Found what lock bytes) = Option.map (use_made s bytes) (form_of what)
use_in s decoded.BadByte = none
use_in s decoded.EndOfString = none
use_in s decoded.Empty = none

-- of a call
abbrev pub encode_of : Call → Option Encode
encode_of = on_step (λ s. encode_in s (decode s.string)) none

abbrev pub use_of : Call → Option UseMade
use_of = on_step (λ s. use_in s (decode s.string)) none

-- "the bytes that it reads agree with those the encode gave, as far as the shorter goes"
abbrev pub Agree : List ℕ → List ℕ → Type 0
Agree l m = take (length m) l ≡ take (length l) m

-- "Key size allows it where both are 128 or both 256; privilege where bit 0 of the encode's source is 0 or the use has CPL 0; direction where bit 1, for
-- encryption, or bit 2, for decryption, is 0."
abbrev pub direction_allows : Direction → ℕ → Bool
direction_allows Encrypt source = not (bit 1 source)
direction_allows Decrypt source = not (bit 2 source)

-- what an encode lets be done at a CPL, with a handle read as one of a size, in a direction
abbrev pub permits : Encode → ℕ → KeySize → Direction → Bool
permits e cpl size direction =
    eqb (nk e.size) (nk size) && (not (bit 0 e.source) || eqb cpl 0) && direction_allows direction e.source

abbrev pub allows : Encode → UseMade → Bool
allows e u = permits e (cpl u.cpu) u.form.size u.form.direction

abbrev pub member : ℕ → List ℕ → Bool
member i [] = false
member i (n ∷ l) = eqb i n || member i l

-- the CPU record after the use: "ZF is 0 exactly when key size, privilege and direction allow it. Then each of its blocks becomes what AES makes of it
-- under the encoded key. Otherwise ZF is 1 and all blocks are unchanged."
abbrev pub Works : Encode → UseMade → List ℕ → Type 0
Works e u after =
    (zf after ≡ cond (allows e u) 0 1)
    × ((i : ℕ) → i < 16
    → xmm i after ≡ cond (allows e u && member i u.form.blocks) (aes u.form.direction e.size e.key (xmm i u.cpu)) (xmm i u.cpu))

-- answer i of a run
abbrev pub answer_at : Run → ℕ → Answer
answer_at r i = get_or r.answers i (record { number = 0; cpu = []; buffer = []; value = 0 })

-- ---- the demand

-- after a power-on p that was not refused, the calls were made and gave r
pub record Demand3 (p : PowerOn) (calls : List Call) (r : Run) : Type 0 where
  -- call by call the number is the history machine's, and it is never 1
  pub numbers : map (λ a. a.number) r.answers ≡ refusals p calls
  pub never1 : all_of (λ n. not (eqb n 1)) (refusals p calls) ≡ true
  -- "every processor, the backup and the store hold exactly the wrapping keys that the plain history machine .. names, or none where it names none"
  pub keys : held r.machine ≡ named calls (history p calls)
  pub names : every_name (given p calls) (history p calls) ≡ true
  -- "any use in the list that no refusal stops, of a handle that an earlier call of the list encoded under a key of the same name"
  pub uses : (xs : List Call) (e : Call) (ys : List Call) (u : Call) (zs : List Call) → calls ≡ xs ++ e ∷ (ys ++ u ∷ zs)
      → (encode : Encode) → encode_of e ≡ some encode → (answer_at r (length xs)).number ≡ 0
      → (made : UseMade) → use_of u ≡ some made → (answer_at r (length (xs ++ e ∷ ys))).number ≡ 0
      → name_at encode.processor (history p xs) ≡ name_at made.processor (history p (xs ++ e ∷ ys))
      → Agree made.bytes_read (take (handle_length encode.size) (answer_at r (length xs)).cpu)
      → Works encode made (answer_at r (length (xs ++ e ∷ ys))).cpu

-- ---- counter calls

-- change request (vii): the CPU record and the buffer after a counter call, which goes as an encrypting use does. Where key size, privilege and direction allow
-- it, ZF is 0 and the buffer is XORed with the counters, encrypted under the encoded key. Otherwise ZF is 1 and the buffer is unchanged.
abbrev pub Counts : Encode → CounterCall → Answer → Type 0
Counts e c a =
    let ok = permits e (cpl c.cpu) (size_of c.handle) Encrypt in
    (a.cpu ≡ with_zf (cond ok 0 1) c.cpu)
    × (a.buffer ≡ cond ok (ctr (encrypt (nk e.size) e.key) c.counter c.buffer) c.buffer)

-- beside the demand, of the same p, calls and r: what `uses` says of uses
pub record CounterCalls (p : PowerOn) (calls : List Call) (r : Run) : Type 0 where
  pub counts : (xs : List Call) (e : Call) (ys : List Call) (c : CounterCall) (zs : List Call) → calls ≡ xs ++ e ∷ (ys ++ counter c ∷ zs)
      → (encode : Encode) → encode_of e ≡ some encode → (answer_at r (length xs)).number ≡ 0
      → (answer_at r (length (xs ++ e ∷ ys))).number ≡ 0
      → name_at encode.processor (history p xs) ≡ name_at c.processor (history p (xs ++ e ∷ ys))
      → Agree c.handle (take (handle_length encode.size) (answer_at r (length xs)).cpu)
      → Counts encode c (answer_at r (length (xs ++ e ∷ ys)))

-- ---- corollaries

-- no processor, backup or store has the name
abbrev pub nowhere : ℕ → History → Bool
nowhere n h = every_name (λ k. not (eqb k n)) h
