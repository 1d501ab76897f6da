-- What `taken` changes for the calls behind it: consumed and bit 3 of 0x991 while a backup is pending, and nothing else.
-- Assumes nothing.
use mathlib.Core.Path.{◌≡◌, ◌∙◌, refl, sym, ap, subst}
use mathlib.Core.Bool.{Bool, true, false, cond, not, ◌||◌, or-true, true≢false}
use mathlib.Core.List.{List, [], ◌∷◌, ◌++◌}
use mathlib.Core.Logic.{◌⊎◌, inl, inr}
use Prim.Native.Nat.{ℕ, ◌+◌, ◌*◌, ◌%◌, ◌<◌}
use native.Mathlib.Omega.{arith}
use lib.Dec.{T, eqb}
use lib.ListN.{length}
use borrow.Author.Tests.{eqb-true, eq-eqb, not-false}
use Rattle.bits.proofs.Choice.{cond_on, cond_off, or_right, T_true, true-T, on_cond}
use Rattle.model.specs.Numbers.{bit}
use Rattle.model.specs.Records.{absent, processor_at, with_key, with_copy_status, with_store, with_pending, with_valid, with_error, with_consumed, with_processor, with_platform}
use Rattle.model.specs.Calls.{PowerOn, ReadCall, Call, step, counter, read, write, settle, sleep, reset, taken, Answer, Outcome}
use Rattle.model.specs.Validity.{valid}
use Rattle.model.specs.Refusals.{no_registers, refusal}
use Rattle.model.specs.Backup.{Copied, copy_out, copy_in, written, register_read, settled, with_taken, woken}
use Rattle.model.specs.Execution.{power_on, view_of, refused, perform, number_of, call, run}
use Rattle.model.specs.Demand3.{answer_at}
use Rattle.model.specs.Struck.{struck}
use Rattle.model.specs.Taken.{is_taken, Alike, AnsweredAlike, TakenUnseen}
use Rattle.model.specs.declared.Processor.{Processor}
use Rattle.model.specs.declared.Platform.{Platform}
use Rattle.model.specs.declared.Machine.{Machine}
use Rattle.model.proofs.Refusals.{taken-refusal, no_register_fault}
use Rattle.model.proofs.Frames.{call_performed, call_stopped, by_number, accepted_parts}
use Rattle.model.proofs.Validities.{status_flags, valid_number, call-valid}
use Rattle.model.proofs.Demand3.{holds, power_on_holds}
use Rattle.model.proofs.Struck.{struck_answers, struck-run}

-- ---- while a backup is pending no call but a read asks consumed

out_fails : (e : Processor) (f : Platform) → eqb f.pending 1 ≡ true → copy_out e f ≡ record { processor = with_copy_status 0 e; platform = f }
unfolding copy_out
out_fails e f pends =
    cond_on (ap (λ (b : Bool). eqb e.key.no_backup 1 || b) pends ∙ or-true (eqb e.key.no_backup 1)) _ _

module _ (f : Platform) (pends : eqb f.pending 1 ≡ true) (n : ℕ) where
  abbrev other : Platform
  other = with_consumed n f

  settled-other : (code : ℕ) → settled code other ≡ settled code f
  unfolding settled
  settled-other code = cond_on pends _ _ ∙ go (eqb code 0) ∙ sym (cond_on pends _ _)
    where
      took : Bool → Platform → Platform
      took o g =
          with_pending 0 (with_consumed 1 (cond o (with_store g.backup (with_valid 1 (with_error 0 g))) (with_store absent (with_valid 0 (with_error 1 g)))))

      go : (o : Bool) → took o other ≡ took o f
      go true = refl
      go false = refl

  -- a write leaves the platform
  written-other : (address value : ℕ) (e : Processor)
      → written address value e other ≡ record { processor = (written address value e f).processor; platform = other }
  unfolding copy_in
  written-other address value e = go (bit 0 value) (eqb address 0xD91)
    where
      did : Bool → Bool → Platform → Copied
      did t o g = cond t (cond o (copy_out e g) (copy_in e g)) (record { processor = e; platform = g })

      had : Bool → Platform → Copied
      had t g =
          cond t (record { processor = with_copy_status 1 (with_key g.backup.key e); platform = g }) (record { processor = with_copy_status 0 e; platform = g })

      in_other : (t : Bool) → had t other ≡ record { processor = (had t f).processor; platform = other }
      in_other true = refl
      in_other false = refl

      go : (t o : Bool) → did t o other ≡ record { processor = (did t o f).processor; platform = other }
      go true true = out_fails e other pends ∙ (λ j. record { processor = (sym (out_fails e f pends) j).processor; platform = other })
      go true false = in_other (eqb f.backup.present 1)
      go false o = refl

-- ---- the platform after `taken`

module _ (f : Platform) where
  abbrev pends : Bool
  pends = eqb f.pending 1

  -- settle
  pub taken-settled : (code : ℕ) → settled code (with_taken f) ≡ settled code f
  unfolding with_taken
  taken-settled code =
      on_cond (λ g. settled code g ≡ settled code f) pends (with_consumed 1 f) f (λ e. settled-other f e 1 code) (λ e. refl)

  -- sleep and wake
  pub taken-woken : (code : ℕ) → woken code (with_taken f) ≡ woken code f
  unfolding with_taken woken
  taken-woken code = on_cond (λ g. woken code g ≡ woken code f) pends (with_consumed 1 f) f (λ e. refl) (λ e. refl)

  -- a copy out, with consumed kept as it is where it fails because a backup is pending
  pub taken_copied : (e : Processor)
      → copy_out e (with_taken f) ≡ record { processor = (copy_out e f).processor; platform = cond pends (with_consumed 1 f) (copy_out e f).platform }
  unfolding with_taken
  taken_copied e = go pends refl
    where
      go : (t : Bool) → pends ≡ t
          → copy_out e (cond t (with_consumed 1 f) f)
          ≡ record { processor = (copy_out e f).processor; platform = cond t (with_consumed 1 f) (copy_out e f).platform }
      go true q = out_fails e (with_consumed 1 f) q ∙ (λ j. record { processor = (sym (out_fails e f q) j).processor; platform = with_consumed 1 f })
      go false q = refl

  -- a read of 0x991: bit 3 is set while a backup is pending
  pub taken-read : (e : Processor) → register_read 0x991 e (with_taken f) ≡ cond pends (f.valid + 4 * f.error + 8) (register_read 0x991 e f)
  unfolding with_taken
  taken-read e = go pends
    where
      go : (t : Bool) → register_read 0x991 e (cond t (with_consumed 1 f) f) ≡ cond t (f.valid + 4 * f.error + 8) (register_read 0x991 e f)
      go true = refl
      go false = refl

-- ---- the machine after `taken`

abbrev marked : Machine → Machine
marked n = with_platform (with_consumed 1 n.platform) n

-- a property of it: by the machine itself, and by consumed 1 while a backup is pending
by_taken : (n : Machine) (P : Machine → Type 0) → P n → (T (valid n) → eqb n.platform.pending 1 ≡ true → P (marked n)) → P (call n taken).machine
unfolding perform with_taken
by_taken n P a b =
    by_number n taken (λ o. P o.machine)
    (λ e.
    on_cond (λ (f : Platform). P (with_platform f n)) (eqb n.platform.pending 1) (with_consumed 1 n.platform) n.platform
    (b (accepted_parts n taken e).0) (λ q. a))
    (λ e. a)

marked_alike : (n : Machine) → T (valid n) → eqb n.platform.pending 1 ≡ true → Alike (marked n) n
marked_alike n v q = inr (T_true (valid n) v, eqb-true n.platform.pending 1 q, refl)

module _ (n : Machine) (v : T (valid n)) (q : eqb n.platform.pending 1 ≡ true) where
  abbrev f : Platform
  f = n.platform

  marked-valid : T (valid (marked n))
  unfolding perform with_taken
  marked-valid =
      subst (λ (m : Machine). T (valid m))
      (ap (λ (o : Outcome). o.machine) (call_performed n taken (valid_number n taken v ∙ taken-refusal (view_of n)))
      ∙ ap (λ (g : Platform). with_platform g n) (cond_on q (with_consumed 1 f) f))
      (call-valid n taken v)

  same_number : (c : Call) → number_of (marked n) c ≡ number_of n c
  same_number c = valid_number (marked n) c marked-valid ∙ sym (valid_number n c v)

  -- a call that is performed leaves no trace of the mark, or the platform with its mark
  performed_marked : (c : Call)
      → ((perform (marked n) c).machine ≡ (perform n c).machine)
      ⊎ (((perform (marked n) c).machine ≡ with_platform (with_consumed 1 f) (perform n c).machine) × ((perform n c).machine.platform ≡ f))
  unfolding perform with_taken woken
  performed_marked (step s) = inr (refl, refl)
  performed_marked (counter c) = inr (refl, refl)
  performed_marked (read r) = inr (refl, refl)
  performed_marked (write w) =
      let e = processor_at n w.processor in
      let x = written-other f q f.consumed w.address w.value e in
      let y = written-other f q 1 w.address w.value e in
      inr (
        ap (λ (c : Copied). with_platform c.platform (with_processor w.processor c.processor n)) y,
        ap (λ (c : Copied). c.platform) x,
      )
  performed_marked (settle s) = inl (ap (λ (g : Platform). with_platform g n) (settled-other f q 1 s.code))
  performed_marked (sleep s) = inl refl
  performed_marked reset = inl refl
  performed_marked taken =
      inl (ap (λ (g : Platform). with_platform g n) (cond_on q (with_consumed 1 f) (with_consumed 1 f) ∙ sym (cond_on q (with_consumed 1 f) f)))

  performed_alike : (c : Call) → number_of n c ≡ 0 → Alike (perform (marked n) c).machine (perform n c).machine
  performed_alike c z = go (performed_marked c)
    where
      after : Machine
      after = (perform n c).machine

      still : T (valid after)
      still = subst (λ (o : Outcome). T (valid o.machine)) (call_performed n c z) (call-valid n c v)

      go : ((perform (marked n) c).machine ≡ after) ⊎ (((perform (marked n) c).machine ≡ with_platform (with_consumed 1 f) after) × (after.platform ≡ f))
          → Alike (perform (marked n) c).machine after
      go (inl e) = inl e
      go (inr (e, g)) =
          subst (λ (m : Machine). Alike m after) (sym (e ∙ ap (λ (x : Platform). with_platform (with_consumed 1 x) after) (sym g)))
          (marked_alike after still (ap (λ (x : Platform). eqb x.pending 1) g ∙ q))

  called_alike : (c : Call) → Alike (call (marked n) c).machine (call n c).machine
  called_alike c =
      by_number n c (λ o. Alike (call (marked n) c).machine o.machine)
      (λ e.
      subst (λ (o : Outcome). Alike o.machine (perform n c).machine) (sym (call_performed (marked n) c (same_number c ∙ e))) (performed_alike c e))
      (λ e.
      subst (λ (o : Outcome). Alike o.machine n) (sym (call_stopped (marked n) c (λ z. e (sym (same_number c) ∙ z)))) (marked_alike n v q))

  read_answered : (r : ReadCall) → refusal (view_of n) (read r) ≡ 0
      → AnsweredAlike (read r) f.pending (perform (marked n) (read r)).answer (perform n (read r)).answer
  unfolding perform
  read_answered r a = go (eqb r.address 0x990) (eqb r.address 0x991) refl refl known
    where
      e : Processor
      e = processor_at n r.processor

      known : (eqb r.address 0x990 || eqb r.address 0x991) ≡ true
      known =
          not-false (eqb r.address 0x990 || eqb r.address 0x991)
          (or_right (no_registers n.features r.cpl) (not (eqb r.address 0x990 || eqb r.address 0x991)) (no_register_fault (view_of n) (read r) a refl))

      value : ℕ → Answer
      value x = record { number = 0; cpu = []; buffer = []; value = x }

      go : (t u : Bool) → eqb r.address 0x990 ≡ t → eqb r.address 0x991 ≡ u → (t || u) ≡ true
          → AnsweredAlike (read r) f.pending (value (register_read r.address e (with_consumed 1 f))) (value (register_read r.address e f))
      go true u s w k = inl (ap value (cond_on s _ _ ∙ sym (cond_on s _ _)))
      go false u s w k =
          let small = status_flags n v in
          inr (
            w ∙ k,
            eqb-true f.pending 1 q,
            ap value (cond_off s _ _ ∙ bits f.valid f.error f.consumed small.0 small.1)
                ∙ ap (λ (x : ℕ). value (x % 8 + 8)) (sym (cond_off s _ _)),
          )
        where
          bits : (valid error consumed : ℕ) → valid < 2 → error < 2 → valid + 4 * error + 8 ≡ (valid + 4 * error + 8 * consumed) % 8 + 8
          bits valid error consumed a b = omega arith

  performed_answered : (c : Call) → refusal (view_of n) c ≡ 0 → AnsweredAlike c f.pending (perform (marked n) c).answer (perform n c).answer
  unfolding perform
  performed_answered (step s) a = inl refl
  performed_answered (counter c) a = inl refl
  performed_answered (read r) a = read_answered r a
  performed_answered (write w) a = inl refl
  performed_answered (settle s) a = inl refl
  performed_answered (sleep s) a = inl refl
  performed_answered reset a = inl refl
  performed_answered taken a = inl refl

  marked_answered : (c : Call) → AnsweredAlike c f.pending (call (marked n) c).answer (call n c).answer
  marked_answered c =
      by_number n c (λ o. AnsweredAlike c f.pending (call (marked n) c).answer o.answer)
      (λ e.
      subst (λ (o : Outcome). AnsweredAlike c f.pending o.answer (perform n c).answer) (sym (call_performed (marked n) c (same_number c ∙ e)))
      (performed_answered c (accepted_parts n c e).1))
      (λ e.
      inl (ap (λ (o : Outcome). o.answer) (call_stopped (marked n) c (λ z. e (sym (same_number c) ∙ z))) ∙ ap (λ (k : ℕ). (refused k n c).answer) (same_number c)))

-- ---- the relation is kept by every call, and every answer is alike

module _ (m n : Machine) where
  by_alike : Alike m n → (P : Machine → Type 0) → P n → (T (valid n) → eqb n.platform.pending 1 ≡ true → P (marked n)) → P m
  by_alike (inl e) P a b = subst P (sym e) a
  by_alike (inr (v, q, e)) P a b = subst P (sym e) (b (true-T (valid n) v) (eq-eqb n.platform.pending 1 q))

  pub call_alike : Alike m n → (c : Call) → Alike (call m c).machine (call n c).machine
  call_alike h c = by_alike h (λ x. Alike (call x c).machine (call n c).machine) (inl refl) (λ v q. called_alike n v q c)

  pub answered_alike : Alike m n → (c : Call) → AnsweredAlike c m.platform.pending (call m c).answer (call n c).answer
  answered_alike h c =
      by_alike h (λ x. AnsweredAlike c x.platform.pending (call x c).answer (call n c).answer) (inl refl) (λ v q. marked_answered n v q c)

  -- and by one `taken` more
  taken_alike : Alike m n → Alike (call m taken).machine n
  taken_alike h =
      by_alike h (λ x. Alike (call x taken).machine n) (by_taken n (λ x. Alike x n) (inl refl) (marked_alike n))
      (λ v q. by_taken (marked n) (λ x. Alike x n) (marked_alike n v q) (λ w r. marked_alike n v q))

-- ---- lists

struck_alike : (m n : Machine) → Alike m n → (c : Call) → is_taken c ≡ true → Alike (call m c).machine n
struck_alike m n h (step s) e = absurd (true≢false (sym e))
struck_alike m n h (counter c) e = absurd (true≢false (sym e))
struck_alike m n h (read r) e = absurd (true≢false (sym e))
struck_alike m n h (write w) e = absurd (true≢false (sym e))
struck_alike m n h (settle s) e = absurd (true≢false (sym e))
struck_alike m n h (sleep s) e = absurd (true≢false (sym e))
struck_alike m n h reset e = absurd (true≢false (sym e))
struck_alike m n h taken e = taken_alike m n h

-- from any machine
module _ (m : Machine) where
  pub machine_unseen : (calls : List Call) → Alike (run m calls).machine (run m (struck is_taken calls)).machine
  machine_unseen = struck-run is_taken Alike call_alike struck_alike m m (inl refl)

  pub answers_unseen : (calls xs : List Call) (c : Call) (ys : List Call) → calls ≡ xs ++ c ∷ ys → is_taken c ≡ false
      → AnsweredAlike c (run m xs).machine.platform.pending (answer_at (run m calls) (length xs))
      (answer_at (run m (struck is_taken calls)) (length (struck is_taken xs)))
  answers_unseen calls xs c ys split e =
      struck_answers is_taken (AnsweredAlike c (run m xs).machine.platform.pending) m calls xs c ys split e
      (answered_alike (run m xs).machine (run m (struck is_taken xs)).machine (machine_unseen xs) c)

-- from a power-on
pub taken_unseen : (p : PowerOn) → (power_on p).answer.number ≡ 0 → (calls : List Call)
    → TakenUnseen p calls (run (power_on p).machine calls) (run (power_on p).machine (struck is_taken calls))
taken_unseen p ok calls =
    let m = (power_on p).machine in
    record {
      machine = machine_unseen m calls;
      answers =
          λ xs c ys split e.
          subst
          (λ (n : ℕ). AnsweredAlike c n (answer_at (run m calls) (length xs)) (answer_at (run m (struck is_taken calls)) (length (struck is_taken xs))))
          (λ j. ((holds p m (power_on_holds p ok) xs).keys j).pending) (answers_unseen m calls xs c ys split e);
    }
