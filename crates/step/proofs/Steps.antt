-- A step, by its tests in turn.
-- Assumes nothing.
use Rattle.std.proofs.Common.{◌≡◌, ◌≢◌, ◌∙◌, ℕ, ◌+◌, ◌%◌, ◌≤◌, Bool, true, false, cond, not, List, [], length, get_or, eqb, ltb, leb, refl, sym, ap, ap₂, subst, arith}
use Rattle.std.specs.Prelude.{Option, Some, None, MatchOption}
use Rattle.std.proofs.lemmas.List.{nil_from_length}
use denote.Ref.{Bor}
use Rattle.std.specs.Array.{IsWholeChunk}
use Rattle.loadiwkey.specs.Meaning.{random_data}
use Rattle.bits.proofs.Choice.{cond_on, cond_off, true-T}
use Rattle.decoder.specs.Read.{turned_back}
use borrow.Author.Tests.{not-false}
use Rattle.instructions.specs.Meaning.{Within}
use Rattle.isa.specs.Decode.{decode}
use Rattle.isa.specs.Ranges.{handle_length}
use Rattle.isa.specs.declared.Decoded.{Decoded}
use Rattle.isa.specs.declared.Instruction.{Instruction}
use Rattle.isa.specs.declared.Decoded.TheVariants as decoded
use Rattle.modrm.specs.Read.{refusal_of}
use Rattle.modrm.specs.declared.Malformed.{Malformed}
use Rattle.modrm.specs.declared.Malformed.TheVariants as malformed
use Rattle.model.specs.Calls.{StepCall, step}
use Rattle.model.specs.Cpu.{cpu_size, bad_record}
use Rattle.model.specs.Execution as execution
use Rattle.model.specs.Execution.{view_of, perform, call}
use Rattle.model.specs.Forms.{form_of, handle_address}
use Rattle.model.specs.Instructions.{Executed, stepped, executed}
use Rattle.model.specs.Records.{no_processor, with_key, with_processor}
use Rattle.model.specs.Refusals.{asked, first, memory_limit, random_length, refusal}
use Rattle.model.specs.Validity.{valid}
use Rattle.model.specs.declared.Machine.{Machine}
use Rattle.model.proofs.Demand3.{handle_fits}
use Rattle.model.proofs.Frames.{call_performed, call_stopped, accepted_parts}
use Rattle.model.proofs.Refusals.{processor_below, random_length_lem, step-asked}
use Rattle.model.proofs.Validities.{count_few}
use Rattle.refusal.specs.Numbers.{number_of}
use Rattle.refusal.specs.declared.Refusal.{Refusal}
use Rattle.refusal.specs.declared.Refusal.TheVariants as refusals
use Rattle.refusals.specs.Parts.{lent_tests, instruction_tests, string_tests, loaded_from}
use Rattle.refusals.proofs.Parts.{in_parts}
use Rattle.step.specs.Meaning.{left, left_of}

-- a refusal's number is not 0
positive : (e : Refusal) → eqb (number_of e) 0 ≡ false
positive e = grind arith

-- the first tests decide, or let the others
split : (a b c d e : Bool) (x : ℕ)
    → cond a 3 (cond b 4 (cond c 5 (cond d 6 (cond e 7 x)))) ≡ cond (eqb (cond a 3 (cond b 4 (cond c 5 (cond d 6 (cond e 7 0))))) 0) x (cond a 3 (cond b 4 (cond c 5 (cond d 6 (cond e 7 0)))))
split true b c d e x = refl
split false true c d e x = refl
split false false true d e x = refl
split false false false true e x = refl
split false false false false true x = refl
split false false false false false x = refl

decided : (e : Refusal) (n x : ℕ) → number_of e ≡ n → cond (eqb n 0) x n ≡ number_of e
decided e n x h = rw (← h, positive e) refl

passed : (n x : ℕ) → ◌≡◌ {A = ℕ} 0 n → cond (eqb n 0) x n ≡ x
passed n x h = rw (← h) refl

-- random data, lent as 48 bytes or none
given : (o : Option (Bor (List ℕ))) (r : List ℕ) → random_length (length r) ≡ true → MatchOption o (length r ≢ 48) (λ y. IsWholeChunk r y.now 48) → random_data o ≡ r
given None r t n = sym (nil_from_length r (grind arith))
given (Some y) r t h = h.same

module _ (m : Machine) (s : StepCall) where
  abbrev lent : ℕ
  lent = first (lent_tests m.count s.processor s.cpu (length s.memory) (length s.random))

  abbrev held : Decoded → ℕ
  held d = first (string_tests m.features s.cpu (length s.memory) d)

  -- a call that is refused leaves machine and CPU record as they were
  refused : (e : Refusal) → execution.number_of m (step s) ≡ number_of e → left (number_of e) m s.cpu ≡ left_of (call m (step s))
  refused e h =
      ap (λ (n : ℕ). left n m s.cpu) (sym h)
      ∙ ap left_of (sym (call_stopped m (step s) (λ z. absurd (true-false (sym (ap (λ (n : ℕ). eqb n 0) (sym h ∙ z)) ∙ positive e)))))
    where
      true-false : true ≡ false → ⊥
      true-false q = grind arith

  pub not_valid : (e : Refusal) → e ≡ refusals.Machine → valid m ≡ false → left (number_of e) m s.cpu ≡ left_of (call m (step s))
  not_valid e q v = refused e (cond_off v (refusal (view_of m) (step s)) 1 ∙ ap number_of (sym q))

  module _ {b : Bool} (q : b ≡ valid m) (v : not b ≡ false) where
    is_valid : valid m ≡ true
    is_valid = sym q ∙ not-false b v

    told : execution.number_of m (step s) ≡ cond (eqb lent 0) (held (decode s.string)) lent
    told =
        cond_on is_valid (refusal (view_of m) (step s)) 1
        ∙ sym (step-asked (view_of m) s)
        ∙ in_parts (view_of m) (asked s)
        ∙ split (leb m.count s.processor) (not (eqb (length s.cpu) cpu_size)) (bad_record s.cpu) (ltb memory_limit (length s.memory))
        (not (random_length (length s.random))) (held (decode s.string))

    pub not_lent : (e : Refusal) → number_of e ≡ lent → left (number_of e) m s.cpu ≡ left_of (call m (step s))
    not_lent e h = refused e (told ∙ decided e lent (held (decode s.string)) h)

    module _ (z : ◌≡◌ {A = ℕ} 0 lent) where
      behind : (d : Decoded) → d ≡ decode s.string → execution.number_of m (step s) ≡ held d
      behind d h = told ∙ passed lent (held (decode s.string)) z ∙ ap held (sym h)

      pub not_decoded : (e : Malformed) → turned_back e ≡ decode s.string → left (number_of (refusal_of e)) m s.cpu ≡ left_of (call m (step s))
      not_decoded malformed.BadByte h = refused refusals.BadByte (behind decoded.BadByte h)
      not_decoded malformed.EndOfString h = refused refusals.EndOfString (behind decoded.EndOfString h)

      -- a step that nothing turns back, with the entry that it gives in its place
      performed : execution.number_of m (step s) ≡ 0 → (x : Executed) → x ≡ executed s (get_or m.processors (s.processor % 16) no_processor).key
          → left 0 (with_processor (s.processor % 16) (with_key x.key (get_or m.processors (s.processor % 16) no_processor)) m) x.cpu
          ≡ left_of (call m (step s))
      unfolding perform
      performed h x y =
          let few = count_few m (true-T (valid m) is_valid) in
          let below = processor_below (view_of m) (step s) s.processor (accepted_parts m (step s) h).1 refl in
          let p : s.processor % 16 ≡ s.processor = omega arith in
          rw (y, p, call_performed m (step s) h) refl

      pub idle : decoded.Empty ≡ decode s.string
          → left 0 (with_processor (s.processor % 16) (get_or m.processors (s.processor % 16) no_processor) m) s.cpu ≡ left_of (call m (step s))
      unfolding executed
      idle h = performed (behind decoded.Empty h) _ (ap (stepped s (get_or m.processors (s.processor % 16) no_processor).key) h)

      module _ (what : Instruction) (lock : Bool) (bytes : ℕ) (d : decoded.Found what lock bytes ≡ decode s.string) (cpu : List ℕ) (same : cpu ≡ s.cpu) where
        pub not_executed : (e : Refusal) → number_of e ≡ first (instruction_tests m.features cpu (length s.memory) what lock bytes)
            → left (number_of e) m cpu ≡ left_of (call m (step s))
        not_executed e h =
            ap (left (number_of e) m) same
            ∙ refused e (behind (decoded.Found what lock bytes) d ∙ sym (h ∙ ap (λ (c : List ℕ). first (instruction_tests m.features c (length s.memory) what lock bytes)) same))

        module _ (t : ◌≡◌ {A = ℕ} 0 (first (instruction_tests m.features cpu (length s.memory) what lock bytes))) where
          accepted : execution.number_of m (step s) ≡ 0
          accepted = behind (decoded.Found what lock bytes) d ∙ sym (t ∙ ap (λ (c : List ℕ). first (instruction_tests m.features c (length s.memory) what lock bytes)) same)

          pub within : (at : ℕ) → at ≡ loaded_from cpu bytes (form_of what) → Within at (length s.memory) what
          within at h f r =
              let e : at ≡ (handle_address s.cpu bytes f.handle).linear = h ∙ ap (loaded_from cpu bytes) r ∙ ap (λ (c : List ℕ). (handle_address c bytes f.handle).linear) same in
              subst (λ (n : ℕ). n + handle_length f.size ≤ length s.memory) (sym e)
              (handle_fits (view_of m) s (accepted_parts m (step s) accepted).1 what lock bytes f (sym d) r)

          pub done : (random : Option (Bor (List ℕ))) → MatchOption random (length s.random ≢ 48) (λ y. IsWholeChunk s.random y.now 48)
              → (x : Executed)
              → x ≡ stepped (record { processor = 0; cpu = cpu; memory = s.memory; random = random_data random; string = [] }) (get_or m.processors (s.processor % 16) no_processor).key (decoded.Found what lock bytes)
              → left 0 (with_processor (s.processor % 16) (with_key x.key (get_or m.processors (s.processor % 16) no_processor)) m) x.cpu ≡ left_of (call m (step s))
          unfolding executed
          done random r x y =
              let bytes_lent = given random s.random (random_length_lem (view_of m) s (accepted_parts m (step s) accepted).1) r in
              performed accepted x
              (y
              ∙ ap₂ (λ (c l : List ℕ). stepped (record { processor = 0; cpu = c; memory = s.memory; random = l; string = [] }) (get_or m.processors (s.processor % 16) no_processor).key (decoded.Found what lock bytes)) same bytes_lent
              ∙ ap (stepped s (get_or m.processors (s.processor % 16) no_processor).key) d)
