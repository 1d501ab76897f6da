-- The status registers along every list of calls: copy status, valid and consumed of the machine are those that the names tell, and reads give them.
-- Assumes nothing.
use mathlib.Core.Path.{◌≡◌, ◌∙◌, refl, sym, ap, subst}
use mathlib.Core.Bool.{Bool, true, false, cond, not, ◌&&◌, ◌||◌, and-true, and-false, or-true}
use mathlib.Core.List.{List, [], ◌∷◌, ◌++◌}
use mathlib.Core.Option.{Option, none, some, map}
use Prim.Native.Nat.{ℕ, suc, ◌+◌, ◌*◌, ◌^◌, ◌/◌, ◌%◌, ◌<◌}
use native.Mathlib.Omega.{arith}
use lib.Dec.{T, eqb}
use lib.ListN.{length, get_or, set, get_or-replicate}
use lib.Seq.{get_or-set_same, get_or-set_other}
use borrow.Author.Tests.{eq-eqb, ne_eqb, eqb-true, eqb-false}
use Rattle.bits.proofs.Choice.{cond_on, cond_off, cond_of, T_true, true-T, on_cond}
use Rattle.model.specs.Numbers.{bit}
use Rattle.model.specs.Records.{processor_limit, zero_processor, no_processor, processor_at, absent, holding, with_key, with_copy_status, with_backup, with_store, with_pending, with_valid, with_error, with_consumed}
use Rattle.model.specs.Calls.{PowerOn, ReadCall, WriteCall, Call, step, counter, read, write, settle, sleep, reset, taken, Answer, Outcome}
use Rattle.model.specs.Refusals.{refusal}
use Rattle.model.specs.Backup.{Copied, copy_out, copy_in, written, register_read, settled, with_taken, store_kept, woken}
use Rattle.model.specs.Execution.{fresh, perform, call, run, power_on}
use Rattle.model.specs.History.{History, at_first, view_given, key_of, name_at, renamed, loads, copies_out, sent, copied_out, gets, settled_names, name_kept, moved, next, history_from, history}
use Rattle.model.specs.Demand3.{slot_key, answer_at}
use Rattle.model.specs.Status.{is_name, accepted, copies, told_from, status_moved, status_from, copy_status_of, backed_up, consumed_moved, consumed, StatusRegisters}
use Rattle.model.specs.declared.IwKey.{IwKey}
use Rattle.model.specs.declared.Processor.{Processor}
use Rattle.model.specs.declared.Slot.{Slot}
use Rattle.model.specs.declared.Platform.{Platform}
use Rattle.model.specs.declared.Machine.{Machine}
use Rattle.model.proofs.Frames.{call_performed, by_number, step_status}
use Rattle.model.proofs.Refusals.{processor_below}
use Rattle.model.proofs.Validities.{status_flags, count_few, power_on-valid}
use Rattle.model.proofs.Histories.{Holds, slot_none, slot_some, same_count, fails_told, more_past, performed_moved, number_told, by_refusal, holds_next}
use Rattle.model.proofs.Demand3.{answer_at_lem, holds, not_refused, was_performed, power_on_holds}
use Rattle.model.proofs.Status.{status_in, Backups, next_backups, backups}

-- a slot holds an IWKey where it is a name
named_slot : (calls : List Call) (s : Slot) (o : Option ℕ) → ◌≡◌ {A = Option IwKey} (slot_key s) (map (key_of calls) o)
    → eqb s.present 1 ≡ is_name o
named_slot calls s none e = slot_none s e
named_slot calls s (some n) e = (slot_some s (key_of calls n) e).0

cond-not : {A : Type 0} (t : Bool) (x y : A) → cond (not t) x y ≡ cond t y x
cond-not true x y = refl
cond-not false x y = refl

cond_same : {A : Type 0} (t : Bool) (x : A) → cond t x x ≡ x
cond_same true x = refl
cond_same false x = refl

abbrev status_of : Copied → ℕ
status_of x = x.processor.copy_status

abbrev valid_of : Copied → ℕ
valid_of x = x.platform.valid

abbrev consumed_of : Copied → ℕ
consumed_of x = x.platform.consumed

-- ---- one call

module _ (p : PowerOn) (past : List Call) (m : Machine) (h : History) (inv : Holds p past m h) where
  abbrev platform : Platform
  platform = m.platform

  few : (q : ℕ) → q < p.count → q < processor_limit
  few q b = omega (arith, count_few m inv.is_valid, same_count p past m h inv)

  -- a copy on processor q succeeds where the names say so
  module _ (q : ℕ) (b : q < p.count) where
    abbrev entry : Processor
    entry = processor_at m q

    abbrev failed : Copied
    failed = record { processor = with_copy_status 0 entry; platform = platform }

    abbrev is_out : Copied
    is_out =
        record {
          processor = with_copy_status 1 entry;
          platform = with_backup (holding entry.key) (with_pending 1 (with_valid 0 (with_error 0 (with_consumed 0 platform))));
        }

    abbrev is_in : Copied
    is_in = record { processor = with_copy_status 1 (with_key platform.backup.key entry); platform = platform }

    copy_out_lem : copy_out entry platform ≡ cond (copies_out past q h) is_out failed
    unfolding copy_out
    copy_out_lem =
        ap (λ (t : Bool). cond t failed is_out) (fails_told p past reset m h (more_past p past reset m h inv) q b inv.givens)
        ∙ cond-not (copies_out past q h) failed is_out

    copy_in_lem : copy_in entry platform ≡ cond (is_name h.backup) is_in failed
    unfolding copy_in
    copy_in_lem = ap (λ (t : Bool). cond t is_in failed) (named_slot past platform.backup h.backup (λ j. (inv.keys j).backup))

    copied_status : (address value : ℕ)
        → status_of (written address value entry platform)
        ≡ cond (bit 0 value) (cond (cond (eqb address 0xD91) (copies_out past q h) (is_name h.backup)) 1 0) entry.copy_status
    copied_status address value = go (bit 0 value) (eqb address 0xD91)
      where
        go : (t o : Bool)
            → status_of (cond t (cond o (copy_out entry platform) (copy_in entry platform)) (record { processor = entry; platform = platform }))
            ≡ cond t (cond (cond o (copies_out past q h) (is_name h.backup)) 1 0) entry.copy_status
        go true true = ap status_of copy_out_lem ∙ cond_of status_of (copies_out past q h) is_out failed _ _ refl refl
        go true false = ap status_of copy_in_lem ∙ cond_of status_of (is_name h.backup) is_in failed _ _ refl refl
        go false o = refl

    copied_valid : (address value : ℕ) → platform.valid ≡ cond (backed_up h) 1 0
        → valid_of (written address value entry platform)
        ≡ cond (backed_up (cond (bit 0 value) (cond (eqb address 0xD91) (copied_out past q h) (gets q h.backup h)) h)) 1 0
    unfolding copied_out
    copied_valid address value v = go (bit 0 value) (eqb address 0xD91)
      where
        out : (t : Bool) → cond t 0 platform.valid ≡ cond (backed_up (cond t (sent q h) h)) 1 0
        out true = refl
        out false = v

        got : (o : Option ℕ) → backed_up h ≡ backed_up (gets q o h)
        got none = refl
        got (some n) = refl

        go : (t o : Bool)
            → valid_of (cond t (cond o (copy_out entry platform) (copy_in entry platform)) (record { processor = entry; platform = platform }))
            ≡ cond (backed_up (cond t (cond o (copied_out past q h) (gets q h.backup h)) h)) 1 0
        go true true = ap valid_of copy_out_lem ∙ cond_of valid_of (copies_out past q h) is_out failed _ _ refl refl ∙ out (copies_out past q h)
        go true false =
            ap valid_of copy_in_lem ∙ cond_of valid_of (is_name h.backup) is_in failed _ _ refl refl ∙ cond_same (is_name h.backup) platform.valid ∙ v
            ∙ ap (λ (t : Bool). cond t 1 0) (got h.backup)
        go false o = v

    copied_consumed : (address value : ℕ)
        → consumed_of (written address value entry platform)
        ≡ cond (bit 0 value && (eqb address 0xD91 && copies_out past q h)) 0 platform.consumed
    copied_consumed address value = go (bit 0 value) (eqb address 0xD91)
      where
        go : (t o : Bool)
            → consumed_of (cond t (cond o (copy_out entry platform) (copy_in entry platform)) (record { processor = entry; platform = platform }))
            ≡ cond (t && (o && copies_out past q h)) 0 platform.consumed
        go true true = ap consumed_of copy_out_lem ∙ cond_of consumed_of (copies_out past q h) is_out failed _ _ refl refl
        go true false =
            ap consumed_of copy_in_lem ∙ cond_of consumed_of (is_name h.backup) is_in failed _ _ refl refl
            ∙ cond_same (is_name h.backup) platform.consumed
        go false o = refl

  -- copy status after a write: of its processor, and of another
  module _ (w : WriteCall) (b : w.processor < p.count) where
    abbrev own : Processor
    own = (written w.address w.value (processor_at m w.processor) platform).processor

    abbrev Left : ℕ → Type 0
    Left q =
        (get_or (set m.processors w.processor own) q no_processor).copy_status ≡ status_moved past h q (write w) (processor_at m q).copy_status

    by_processor : (q : ℕ) (t : Bool) → eqb w.processor q ≡ t
        → status_moved past h q (write w) (processor_at m q).copy_status
        ≡ cond (bit 0 w.value && t) (cond (copies past w h) 1 0) (processor_at m q).copy_status
    by_processor q t e = ap (λ (u : Bool). cond (bit 0 w.value && u) (cond (copies past w h) 1 0) (processor_at m q).copy_status) e

    written-own : Left w.processor
    written-own =
        let i = w.processor in
        let there : i < length m.processors = subst (λ (n : ℕ). i < n) (sym inv.entries) (few i b) in
        let old = (processor_at m i).copy_status in
        ap (λ (e : Processor). e.copy_status) (get_or-set_same m.processors i own no_processor there)
        ∙ copied_status i b w.address w.value
        ∙ ap (λ (t : Bool). cond t (cond (copies past w h) 1 0) old) (sym (and-true (bit 0 w.value)))
        ∙ sym (by_processor i true (eq-eqb i i refl))

    written_other : (q : ℕ) → eqb w.processor q ≡ false → Left q
    written_other q e =
        let old = (processor_at m q).copy_status in
        ap (λ (e : Processor). e.copy_status) (get_or-set_other m.processors w.processor q own no_processor (λ r. eqb-false w.processor q e (sym r)))
        ∙ sym (by_processor q false e ∙ cond_off (and-false (bit 0 w.value)) (cond (copies past w h) 1 0) old)

    written_status : (q : ℕ) → Left q
    written_status q = go (eqb w.processor q) refl
      where
        go : (t : Bool) → eqb w.processor q ≡ t → Left q
        go true e = subst Left (eqb-true w.processor q e) written-own
        go false e = written_other q e

  -- a platform that is made while a backup is pending, with consumed 1
  while_pending : (f : Platform) → f.consumed ≡ 1
      → (cond (eqb platform.pending 1) f platform).consumed ≡ cond (eqb h.pending 1) 1 platform.consumed
  while_pending f e =
      cond_of (λ (g : Platform). g.consumed) (eqb platform.pending 1) f platform 1 platform.consumed e refl
      ∙ ap (λ (n : ℕ). cond (eqb n 1) 1 platform.consumed) (λ j. (inv.keys j).pending)

  settled_valid : (code : ℕ) → Backups h → platform.valid ≡ cond (backed_up h) 1 0
      → (settled code platform).valid ≡ cond (backed_up (settled_names code h)) 1 0
  unfolding settled settled_names
  settled_valid code t v =
      ap (λ (n : ℕ). (took (eqb n 1) (eqb code 0)).valid) (λ j. (inv.keys j).pending) ∙ go (eqb h.pending 1) (eqb code 0) t.pends
    where
      took : Bool → Bool → Platform
      took t o =
          cond t
          (with_pending 0 (with_consumed 1
          (cond o (with_store platform.backup (with_valid 1 (with_error 0 platform))) (with_store absent (with_valid 0 (with_error 1 platform))))))
          platform

      go : (t o : Bool) → (t ≡ true → is_name h.backup ≡ true)
          → (took t o).valid ≡ cond (backed_up (cond t (record { names = h.names; backup = h.backup; store = cond o h.backup none; pending = 0 }) h)) 1 0
      go true true n = sym (cond_on (n refl) 1 0)
      go true false n = refl
      go false o n = v

  performed_status : (q : ℕ) → q < p.count → (c : Call) → refusal (view_given p) c ≡ 0
      → (processor_at (perform m c).machine q).copy_status ≡ status_moved past h q c (processor_at m q).copy_status
  unfolding perform
  performed_status q b (step s) a =
      ap (λ (o : Outcome). (processor_at o.machine q).copy_status) (sym (call_performed m (step s) (number_told p past (step s) m h inv ∙ a)))
      ∙ step_status m s q
  performed_status q b (counter c) a = refl
  performed_status q b (read r) a = refl
  performed_status q b (write w) a = written_status w (processor_below (view_given p) (write w) w.processor a refl) q
  performed_status q b (settle s) a = refl
  performed_status q b (sleep s) a = ap (λ (e : Processor). e.copy_status) (get_or-replicate processor_limit q zero_processor no_processor (few q b))
  performed_status q b reset a = ap (λ (e : Processor). e.copy_status) (get_or-replicate processor_limit q zero_processor no_processor (few q b))
  performed_status q b taken a = refl

  performed_valid : Backups h → platform.valid ≡ cond (backed_up h) 1 0 → (c : Call) → refusal (view_given p) c ≡ 0
      → (perform m c).machine.platform.valid ≡ cond (backed_up (moved p past c h)) 1 0
  unfolding perform moved with_taken woken
  performed_valid t v (step s) a =
      on_cond (λ g. platform.valid ≡ cond (backed_up g) 1 0) (loads s) (renamed s.processor (suc (length past)) h) h (λ e. v) (λ e. v)
  performed_valid t v (counter c) a = v
  performed_valid t v (read r) a = v
  performed_valid t v (write w) a =
      copied_valid w.processor (processor_below (view_given p) (write w) w.processor a refl) w.address w.value v
  performed_valid t v (settle s) a = settled_valid s.code t v
  performed_valid t v (sleep s) a =
      ap (λ (t : Bool). cond t 1 0)
      (named_slot (past ++ (sleep s ∷ [])) (store_kept s.code platform) (name_kept s.code h)
      (λ j. ((performed_moved p past (sleep s) m h inv a).keys j).store))
  performed_valid t v reset a = refl
  performed_valid t v taken a =
      on_cond (λ (f : Platform). f.valid ≡ cond (backed_up h) 1 0) (eqb platform.pending 1) (with_consumed 1 platform) platform (λ e. v) (λ e. v)

  performed_consumed : (c : Call) → refusal (view_given p) c ≡ 0 → (perform m c).machine.platform.consumed ≡ consumed_moved past h c platform.consumed
  unfolding perform settled with_taken woken
  performed_consumed (step s) a = refl
  performed_consumed (counter c) a = refl
  performed_consumed (read r) a = refl
  performed_consumed (write w) a =
      copied_consumed w.processor (processor_below (view_given p) (write w) w.processor a refl) w.address w.value
  performed_consumed (settle s) a = while_pending _ refl
  performed_consumed (sleep s) a = refl
  performed_consumed reset a = refl
  performed_consumed taken a = while_pending _ refl

-- ---- every list

status_run : (p : PowerOn) (past calls : List Call) (m : Machine) (h : History) → Holds p past m h → (q : ℕ) → q < p.count
    → (processor_at (run m calls).machine q).copy_status ≡ status_from p past h q (processor_at m q).copy_status calls
status_run p past [] m h inv q b = refl
status_run p past (c ∷ calls) m h inv q b =
    let old = (processor_at m q).copy_status in
    status_run p (past ++ (c ∷ [])) calls (call m c).machine (next p past c h) (holds_next p past c m h inv) q b
    ∙ ap (λ (n : ℕ). status_from p (past ++ (c ∷ [])) (next p past c h) q n calls)
    (by_refusal p past c m h inv (λ n t. (processor_at n q).copy_status ≡ cond t (status_moved past h q c old) old)
    (performed_status p past m h inv q b c) refl)

valid_run : (p : PowerOn) (past calls : List Call) (m : Machine) (h : History) → Holds p past m h → Backups h → m.platform.valid ≡ cond (backed_up h) 1 0
    → (run m calls).machine.platform.valid ≡ cond (backed_up (history_from p past h calls)) 1 0
valid_run p past [] m h inv t v = v
valid_run p past (c ∷ calls) m h inv t v =
    valid_run p (past ++ (c ∷ [])) calls (call m c).machine (next p past c h) (holds_next p past c m h inv) (next_backups p past h t c)
    (by_refusal p past c m h inv (λ n t. n.platform.valid ≡ cond (backed_up (cond t (moved p past c h) h)) 1 0) (performed_valid p past m h inv t v c) v)

consumed-run : (p : PowerOn) (past calls : List Call) (m : Machine) (h : History) → Holds p past m h
    → (run m calls).machine.platform.consumed ≡ told_from consumed_moved p past h m.platform.consumed calls
consumed-run p past [] m h inv = refl
consumed-run p past (c ∷ calls) m h inv =
    let old = m.platform.consumed in
    consumed-run p (past ++ (c ∷ [])) calls (call m c).machine (next p past c h) (holds_next p past c m h inv)
    ∙ ap (λ (n : ℕ). told_from consumed_moved p (past ++ (c ∷ [])) (next p past c h) n calls)
    (by_refusal p past c m h inv (λ n t. n.platform.consumed ≡ cond t (consumed_moved past h c old) old) (performed_consumed p past m h inv c) refl)

-- consumed is 1 only beside valid, error or pending
abbrev explained : Platform → Bool
explained f = not (eqb f.consumed 1) || eqb f.valid 1 || eqb f.error 1 || eqb f.pending 1

explained_pending : (f : Platform) → eqb f.pending 1 ≡ true → T (explained f)
explained_pending f e =
    let others = not (eqb f.consumed 1) || eqb f.valid 1 || eqb f.error 1 in
    true-T (explained f) (ap (λ (b : Bool). others || b) e ∙ or-true others)

written-explained : (address value : ℕ) (e : Processor) (f : Platform) → T (explained f) → T (explained (written address value e f).platform)
unfolding copy_out copy_in
written-explained address value e f t = on_cond P (bit 0 value) _ _ (λ q. on_cond P (eqb address 0xD91) _ _ (λ q. out) (λ q. in')) (λ q. t)
  where
    P : Copied → Type 0
    P x = T (explained x.platform)

    out : T (explained (copy_out e f).platform)
    out = on_cond P (eqb e.key.no_backup 1 || eqb f.pending 1) _ _ (λ q. t) (λ q. tt)

    in' : T (explained (copy_in e f).platform)
    in' = on_cond P (eqb f.backup.present 1) _ _ (λ q. t) (λ q. t)

performed_explained : (m : Machine) (c : Call) → T (explained m.platform) → T (explained (perform m c).machine.platform)
unfolding perform settled with_taken woken
performed_explained m (step s) t = t
performed_explained m (counter c) t = t
performed_explained m (read r) t = t
performed_explained m (write w) t = written-explained w.address w.value (processor_at m w.processor) m.platform t
performed_explained m (settle s) t =
    on_cond (λ f. T (explained f)) (eqb m.platform.pending 1) _ _
    (λ e. on_cond (λ f. T (explained (with_pending 0 (with_consumed 1 f)))) (eqb s.code 0) _ _ (λ e. tt) (λ e. tt))
    (λ e. t)
performed_explained m (sleep s) t = tt
performed_explained m reset t = tt
performed_explained m taken t =
    let f = m.platform in
    on_cond (λ g. T (explained g)) (eqb f.pending 1) (with_consumed 1 f) f (λ e. explained_pending (with_consumed 1 f) e) (λ e. t)

run-explained : (m : Machine) (calls : List Call) → T (explained m.platform) → T (explained (run m calls).machine.platform)
run-explained m [] t = t
run-explained m (c ∷ l) t =
    run-explained (call m c).machine l (by_number m c (λ o. T (explained o.machine.platform)) (λ e. performed_explained m c t) (λ e. t))

module _ (p : PowerOn) (ok : (power_on p).answer.number ≡ 0) where
  abbrev on : Machine
  on = (power_on p).machine

  abbrev begun : Holds p [] on (at_first p)
  begun = power_on_holds p ok

  abbrev zeros : on ≡ fresh p.count p.features
  zeros = (power_on-valid p ok).0

  -- the copy status of every processor
  pub status_kept : (calls : List Call) (q : ℕ) → q < p.count → (processor_at (run on calls).machine q).copy_status ≡ copy_status_of p calls q
  status_kept calls q b =
      status_run p [] calls on (at_first p) begun q b
      ∙ ap (λ (n : ℕ). status_from p [] (at_first p) q n calls)
      (ap (λ (m : Machine). (processor_at m q).copy_status) zeros
      ∙ ap (λ (e : Processor). e.copy_status) (get_or-replicate processor_limit q zero_processor no_processor (few p [] on (at_first p) begun q b)))

  -- valid
  pub valid_kept : (calls : List Call) → (run on calls).machine.platform.valid ≡ cond (backed_up (history p calls)) 1 0
  valid_kept calls = valid_run p [] calls on (at_first p) begun (backups p []) (ap (λ (m : Machine). m.platform.valid) zeros)

  -- consumed
  pub consumed_kept : (calls : List Call) → (run on calls).machine.platform.consumed ≡ consumed p calls
  consumed_kept calls =
      consumed-run p [] calls on (at_first p) begun
      ∙ ap (λ (n : ℕ). told_from consumed_moved p [] (at_first p) n calls) (ap (λ (m : Machine). m.platform.consumed) zeros)

  -- a copy in that leaves copy status 1 leaves the processor the backup's name
  pub copied_in : (xs : List Call) (w : WriteCall) → accepted p (write w) ≡ true → bit 0 w.value ≡ true → w.address ≡ 0xD92
      → (n : ℕ) → ◌≡◌ {A = Option ℕ} (history p xs).backup (some n) → name_at w.processor (history p (xs ++ write w ∷ [])) ≡ n
  copied_in xs w a b e n q =
      let h = history p xs in
      let below = processor_below (view_given p) (write w) w.processor (eqb-true (refusal (view_given p) (write w)) 0 a) refl in
      ap (name_at w.processor) ((status_in p xs w a b e).1 ∙ ap (λ (o : Option ℕ). gets w.processor o h) q)
      ∙ get_or-set_same h.names w.processor n 0 (subst (λ (k : ℕ). w.processor < k) (sym (holds p on begun xs).names) below)

  -- ---- what reads answer

  module _ (xs : List Call) (c : ReadCall) (ys : List Call) (zero : (answer_at (run on (xs ++ read c ∷ ys)) (length xs)).number ≡ 0) where
    abbrev reached : Machine
    reached = (run on xs).machine

    read-zero : (call reached (read c)).answer.number ≡ 0
    read-zero = ap (λ (a : Answer). a.number) (sym (answer_at_lem on xs (read c) ys)) ∙ zero

    read_value : (answer_at (run on (xs ++ read c ∷ ys)) (length xs)).value
        ≡ register_read c.address (processor_at reached c.processor) reached.platform
    unfolding perform
    read_value =
        ap (λ (a : Answer). a.value) (answer_at_lem on xs (read c) ys)
        ∙ ap (λ (o : Outcome). o.answer.value) (was_performed p on begun xs (read c) read-zero)

    read_copy_status : c.address ≡ 0x990 → (answer_at (run on (xs ++ read c ∷ ys)) (length xs)).value ≡ copy_status_of p xs c.processor
    read_copy_status e =
        read_value
        ∙ ap (λ (n : ℕ). register_read n (processor_at reached c.processor) reached.platform) e
        ∙ status_kept xs c.processor (processor_below (view_given p) (read c) c.processor (not_refused p on begun xs (read c) read-zero) refl)

    -- IA32_IWKEYBACKUP_STATUS
    module _ (e : c.address ≡ 0x991) where
      abbrev f : Platform
      f = reached.platform

      abbrev flags : (f.valid < 2) × (f.error < 2) × (f.consumed < 2)
      flags = status_flags reached (holds p on begun xs).is_valid

      status_value : (answer_at (run on (xs ++ read c ∷ ys)) (length xs)).value ≡ f.valid + 4 * f.error + 8 * f.consumed
      status_value = read_value ∙ ap (λ (n : ℕ). register_read n (processor_at reached c.processor) f) e

      read_valid : bit 0 (answer_at (run on (xs ++ read c ∷ ys)) (length xs)).value ≡ backed_up (history p xs)
      read_valid =
          ap (bit 0) (status_value ∙ ap (λ (n : ℕ). n + 4 * f.error + 8 * f.consumed) (valid_kept xs))
          ∙ bit_0 (backed_up (history p xs)) f.error f.consumed
        where
          bit_0 : (t : Bool) (error consumed : ℕ) → bit 0 (cond t 1 0 + 4 * error + 8 * consumed) ≡ t
          bit_0 true error consumed = eq-eqb ((1 + 4 * error + 8 * consumed) / 2 ^ 0 % 2) 1 (omega arith)
          bit_0 false error consumed = ne_eqb ((0 + 4 * error + 8 * consumed) / 2 ^ 0 % 2) 1 (λ e. omega arith)

      read-consumed : bit 3 (answer_at (run on (xs ++ read c ∷ ys)) (length xs)).value ≡ eqb (consumed p xs) 1
      read-consumed =
          ap (bit 3) status_value ∙ ap (λ (n : ℕ). eqb n 1) (bit_3 f.valid f.error f.consumed flags.0 flags.1 flags.2 ∙ consumed_kept xs)
        where
          bit_3 : (v e n : ℕ) → v < 2 → e < 2 → n < 2 → (v + 4 * e + 8 * n) / 2 ^ 3 % 2 ≡ n
          bit_3 v e n a b d = omega arith

      read_alone : (answer_at (run on (xs ++ read c ∷ ys)) (length xs)).value ≡ 8 → (history p xs).pending ≡ 1
      read_alone z =
          let told = run-explained on xs (subst (λ (m : Machine). T (explained m.platform)) (sym zeros) tt) in
          let is = alone f.valid f.error f.consumed flags.0 flags.1 (sym status_value ∙ z) in
          sym (λ j. ((holds p on begun xs).keys j).pending)
          ∙ eqb-true f.pending 1
          (T_true (eqb f.pending 1) (subst T (λ j. not (eqb (is.2 j) 1) || eqb (is.0 j) 1 || eqb (is.1 j) 1 || eqb f.pending 1) told))
        where
          alone : (v e n : ℕ) → v < 2 → e < 2 → v + 4 * e + 8 * n ≡ 8 → (v ≡ 0) × (e ≡ 0) × (n ≡ 1)
          alone v e n a b z = (omega arith, omega arith, omega arith)

  pub status_registers : (calls : List Call) → StatusRegisters p calls (run on calls)
  status_registers calls =
      record {
        copy_status_read =
            λ xs c ys split.
            subst
            (λ (l : List Call).
            (answer_at (run on l) (length xs)).number ≡ 0 → c.address ≡ 0x990 → (answer_at (run on l) (length xs)).value ≡ copy_status_of p xs c.processor)
            (sym split) (read_copy_status xs c ys);
        valid_read =
            λ xs c ys split.
            subst
            (λ (l : List Call).
            (answer_at (run on l) (length xs)).number ≡ 0 → c.address ≡ 0x991 → bit 0 (answer_at (run on l) (length xs)).value ≡ backed_up (history p xs))
            (sym split) (read_valid xs c ys);
        consumed_read =
            λ xs c ys split.
            subst
            (λ (l : List Call).
            (answer_at (run on l) (length xs)).number ≡ 0 → c.address ≡ 0x991 → bit 3 (answer_at (run on l) (length xs)).value ≡ eqb (consumed p xs) 1)
            (sym split) (read-consumed xs c ys);
        consumed_alone =
            λ xs c ys split.
            subst
            (λ (l : List Call).
            (answer_at (run on l) (length xs)).number ≡ 0 → c.address ≡ 0x991 → (answer_at (run on l) (length xs)).value ≡ 8 → (history p xs).pending ≡ 1)
            (sym split) (read_alone xs c ys);
      }
