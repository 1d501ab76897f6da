-- What is said of counter calls beside demand 3 says something: four of the lists with a counter call in the place of the use, and what it gives for each.
-- Assumes nothing.
use mathlib.Core.Path.{◌≡◌, ◌∙◌, refl, sym, subst}
use mathlib.Core.List.{List, [], ◌∷◌, ◌++◌, append_assoc}
use mathlib.Core.Option.{some}
use Prim.Native.Nat.{ℕ}
use native.Mathlib.Omega.{arith}
use lib.ListN.{length, take, replicate}
use lib.Seq.{sets}
use Rattle.fips197.specs.Aes.{encrypt}
use Rattle.isa.specs.Decode.{decode_at, modrm_of, instruction_of}
use Rattle.isa.specs.Ranges.{handle_length}
use Rattle.sp800_38a.specs.Counter.{ctr}
use Rattle.model.specs.Cpu.{cpl_at, with_zf}
use Rattle.model.specs.Calls.{CounterCall, Call, step, counter, Answer}
use Rattle.model.specs.Refusals.{tests, refusal}
use Rattle.model.specs.Execution.{run}
use Rattle.model.specs.History.{view_given, name_at, copied_out, moved, history}
use Rattle.model.specs.Demand3.{encode_of, Agree, answer_at, Counts}
use Rattle.model.specs.Examples.{rax}
use Rattle.model.proofs.Demand3.{answer_at_lem, counter_calls}
use Rattle.model.proofs.Computed.{two}
use Rattle.model.proofs.Examples.{spelled, spelled-eq}
use Rattle.demand3_examples.proofs.Inhabited.{Case, machine, key, encode, handle, up_to, encode_seen, agree_front, length_least, handle_length_lem, number_at, other_processor, other_size, unprivileged, other_direction}

-- the counter block and the buffer: the counter wraps behind the first block, and the second is short
abbrev block : List ℕ
block = replicate 16 0xFF

abbrev buffer : List ℕ
buffer = replicate 20 0x5A

module _ (c : Case) where
  abbrev cpu : List ℕ
  cpu = sets (rax 0) cpl_at (c.cpl ∷ [])

  -- over a handle of 48 bytes, with what follows it where the size asks for more
  abbrev counter_over : List ℕ → CounterCall
  counter_over h =
      record {
        processor = c.processor;
        cpu = cpu;
        handle = take (handle_length c.size) (spelled 48 h ++ c.tail);
        counter = block;
        buffer = buffer;
      }

  abbrev last : CounterCall
  last = counter_over (handle c)

  abbrev calls : List Call
  calls = c.before ++ step (encode c) ∷ (c.between ++ counter last ∷ [])

  abbrev after : Answer
  after = answer_at (run machine calls) (length (up_to c))

-- what is computed of a list, with any 48 bytes for the handle
record Meets (c : Case) : Type 0 where
  encodes : encode_of (step (encode c)) ≡ some (encode_seen c)
  encode_accepted : refusal (view_given two) (step (encode c)) ≡ 0
  counter_accepted : (h : List ℕ) → refusal (view_given two) (counter (counter_over c h)) ≡ 0
  encode_name : name_at 0 (history two c.before) ≡ 1
  counter_name : name_at c.processor (history two (up_to c)) ≡ 1

counts : (c : Case) → Meets c → Counts (encode_seen c) (last c) (after c)
counts c m =
    (counter_calls two refl (calls c)).counts c.before (step (encode c)) c.between (last c) [] refl (encode_seen c) m.encodes
    (number_at (calls c) c.before (step (encode c)) (c.between ++ counter (last c) ∷ []) refl m.encode_accepted)
    (number_at (calls c) (up_to c) (counter (last c)) [] (sym (append_assoc c.before (step (encode c) ∷ c.between) (counter (last c) ∷ [])))
    (m.counter_accepted (handle c)))
    (m.encode_name ∙ sym m.counter_name)
    (subst (λ (a : Answer). Agree (last c).handle (take 48 a.cpu))
    (sym (answer_at_lem machine c.before (step (encode c)) (c.between ++ counter (last c) ∷ [])))
    (subst (λ (h : List ℕ). Agree (take (handle_length c.size) (h ++ c.tail)) (handle c)) (spelled-eq 48 (handle c) (handle_length_lem c))
    (agree_front (handle c) c.tail (handle_length c.size) (omega (arith, handle_length_lem c, length_least c.size)))))

met : Meets other_processor × Meets other_size × Meets unprivileged × Meets other_direction
unfolding refusal tests moved copied_out decode_at modrm_of instruction_of
met = (
  record { encodes = refl; encode_accepted = refl; counter_accepted = λ h. refl; encode_name = refl; counter_name = refl },
  record { encodes = refl; encode_accepted = refl; counter_accepted = λ h. refl; encode_name = refl; counter_name = refl },
  record { encodes = refl; encode_accepted = refl; counter_accepted = λ h. refl; encode_name = refl; counter_name = refl },
  record { encodes = refl; encode_accepted = refl; counter_accepted = λ h. refl; encode_name = refl; counter_name = refl },
)

-- ZF is 0, and the buffer is XORed with the counters, encrypted under the encoded key
abbrev Allowed : Case → Type 0
Allowed c = ((after c).cpu ≡ with_zf 0 (cpu c)) × ((after c).buffer ≡ ctr (encrypt 4 key) block buffer)

-- ZF is 1, and the buffer is as it was
abbrev Forbidden : Case → Type 0
Forbidden c = ((after c).cpu ≡ with_zf 1 (cpu c)) × ((after c).buffer ≡ buffer)

pub four_counter-calls : Allowed other_processor × Forbidden other_size × Forbidden unprivileged × Forbidden other_direction
four_counter-calls =
    (counts other_processor met.0, counts other_size met.1, counts unprivileged met.2, counts other_direction met.3)
