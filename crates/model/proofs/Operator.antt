-- The operator's rule: copy status 1 directly after a copy out and, undisturbed, valid 1 later tell that the store holds the processor's IWKey.
-- Assumes nothing.
use mathlib.Core.Path.{◌≡◌, ◌∙◌, refl, sym, ap, subst}
use mathlib.Core.Bool.{Bool, true, false, cond, not, ◌&&◌, ◌||◌}
use mathlib.Core.List.{List, [], ◌∷◌, ◌++◌, append_assoc}
use mathlib.Core.Option.{Option, none, some, map}
use Prim.Native.Nat.{ℕ, suc}
use native.Mathlib.Omega.{arith}
use lib.Dec.{T, eqb}
use lib.ListN.{length, get_or, get_or-map}
use lib.Seq.{append_snoc, get_or-set_other}
use borrow.Author.Tests.{eq-eqb, eqb-false, not-true}
use Rattle.bits.proofs.Choice.{cond_off, and_left, and_right, T_true, true-T, on_cond}
use Rattle.isa.specs.Decode.{decode_at, modrm_of, instruction_of}
use Rattle.model.specs.Numbers.{bit}
use Rattle.model.specs.Records.{zero_key}
use Rattle.model.specs.Calls.{PowerOn, ReadCall, WriteCall, Call, step, counter, read, write, settle, sleep, reset, taken, Answer}
use Rattle.model.specs.Validity.{valid_processors, valid}
use Rattle.model.specs.Refusals.{tests, refusal}
use Rattle.model.specs.Instructions.{loaded_key, executed}
use Rattle.model.specs.Backup.{copy_out, settled}
use Rattle.model.specs.Execution.{Run, perform, call, run, power_on}
use Rattle.model.specs.History.{History, at_first, view_given, key_of, name_at, renamed, loads, copies_out, sent, copied_out, gets, settled_names, moved, next, history_from, history, refusals}
use Rattle.model.specs.Demand3.{held, answer_at, Demand3}
use Rattle.model.specs.Status.{accepted, copy_status_of, StatusRegisters, leaves, undisturbed, rule_calls, OperatorRule}
use Rattle.model.specs.declared.IwKey.{IwKey}
use Rattle.model.proofs.Corollaries.{history-append}
use Rattle.model.proofs.Computed.{two, load, out, settling, out_only}
use Rattle.model.proofs.Status.{status_out, valid_backup}

-- ---- undisturbed calls

module _ (p : PowerOn) (q : ℕ) where
  -- the backup has the name of q
  abbrev BackedUp : History → Type 0
  BackedUp h = ◌≡◌ {A = Option ℕ} h.backup (some (name_at q h))

  module _ (past : List Call) (h : History) (t : BackedUp h) where
    renamed_other : (i n : ℕ) → T (not (eqb i q)) → BackedUp (renamed i n h)
    renamed_other i n u =
        let other = not-true (eqb i q) (T_true (not (eqb i q)) u) in
        t ∙ ap {B = Option ℕ} some (sym (get_or-set_other h.names i q n 0 (λ e. eqb-false i q other (sym e))))

    gets_other : (i : ℕ) (o : Option ℕ) → T (not (eqb i q)) → BackedUp (gets i o h)
    gets_other i none u = t
    gets_other i (some n) u = renamed_other i n u

    out_failed : (i : ℕ) → T (not (copies_out past i h)) → BackedUp (copied_out past i h)
    unfolding copied_out
    out_failed i u =
        let fails = not-true (copies_out past i h) (T_true (not (copies_out past i h)) u) in
        subst BackedUp (sym (cond_off fails (sent i h) h)) t

    moved-leaves : (c : Call) → T (leaves past h q c) → BackedUp (moved p past c h)
    unfolding moved settled_names
    moved-leaves (step s) u = go (loads s) u
      where
        go : (b : Bool) → T (not (b && eqb s.processor q)) → BackedUp (cond b (renamed s.processor (suc (length past)) h) h)
        go true u = renamed_other s.processor (suc (length past)) u
        go false u = t
    moved-leaves (counter c) u = t
    moved-leaves (read r) u = t
    moved-leaves (write w) u = go (bit 0 w.value) (eqb w.address 0xD91) u
      where
        go : (b o : Bool) → T (not b || cond o (not (copies_out past w.processor h)) (not (eqb w.processor q)))
            → BackedUp (cond b (cond o (copied_out past w.processor h) (gets w.processor h.backup h)) h)
        go true true u = out_failed w.processor u
        go true false u = gets_other w.processor h.backup u
        go false o u = t
    moved-leaves (settle s) u =
        on_cond BackedUp (eqb h.pending 1)
        (record { names = h.names; backup = h.backup; store = cond (eqb s.code 0) h.backup none; pending = 0 }) h (λ e. t) (λ e. t)
    moved-leaves (sleep s) u = absurd u
    moved-leaves reset u = absurd u
    moved-leaves taken u = t

    next-leaves : (c : Call) → T (not (accepted p c) || leaves past h q c) → BackedUp (next p past c h)
    next-leaves c u = go (accepted p c) u
      where
        go : (b : Bool) → T (not b || leaves past h q c) → BackedUp (cond b (moved p past c h) h)
        go true u = moved-leaves c u
        go false u = t

  backed_up : (past : List Call) (h : History) (ys : List Call) → BackedUp h → T (undisturbed p past h q ys) → BackedUp (history_from p past h ys)
  backed_up past h [] t u = t
  backed_up past h (c ∷ ys) t u =
      let a = not (accepted p c) || leaves past h q c in
      let b = undisturbed p (past ++ (c ∷ [])) (next p past c h) q ys in
      backed_up (past ++ (c ∷ [])) (next p past c h) ys (next-leaves past h t c (and_left a b u)) (and_right a b u)

-- a read moves no name
read_moves : (p : PowerOn) (past : List Call) (h : History) (v : ReadCall) → next p past (read v) h ≡ h
unfolding moved
read_moves p past h v = on_cond (λ g. g ≡ h) (accepted p (read v)) h h (λ e. refl) (λ e. refl)

-- a call that is answered 0 is accepted
refusal_at : (p : PowerOn) (xs : List Call) (c : Call) (ys : List Call) → get_or (refusals p (xs ++ c ∷ ys)) (length xs) 0 ≡ refusal (view_given p) c
refusal_at p [] c ys = refl
refusal_at p (x ∷ xs) c ys = refusal_at p xs c ys

answered : (p : PowerOn) (calls : List Call) (r : Run) → Demand3 p calls r → (xs : List Call) (c : Call) (ys : List Call) → calls ≡ xs ++ c ∷ ys
    → (answer_at r (length xs)).number ≡ 0 → accepted p c ≡ true
answered p calls r d xs c ys split z =
    eq-eqb (refusal (view_given p) c) 0
    (sym (refusal_at p xs c ys)
    ∙ ap (λ (l : List ℕ). get_or l (length xs) 0) (sym (d.numbers ∙ ap (refusals p) split))
    ∙ get_or-map (λ (a : Answer). a.number) r.answers (length xs) (record { number = 0; cpu = []; buffer = []; value = 0 })
    ∙ z)

-- ---- the rule

module _ (p : PowerOn) (r : Run) (xs : List Call) (w : WriteCall) (c : ReadCall) (ys : List Call) (v : ReadCall)
    (d : Demand3 p (rule_calls xs w c ys v) r) (s : StatusRegisters p (rule_calls xs w c ys v) r) (o : OperatorRule p r xs w c ys v) where
  abbrev calls : List Call
  calls = rule_calls xs w c ys v

  abbrev wrote : List Call
  wrote = xs ++ write w ∷ []

  abbrev asked : List Call
  asked = wrote ++ read c ∷ ys

  abbrev copier : ℕ
  copier = w.processor

  abbrev later : List Call
  later = read c ∷ (ys ++ read v ∷ [])

  from_read : calls ≡ wrote ++ later
  from_read = append_assoc wrote (read c ∷ ys) (read v ∷ [])

  -- copy status 1: the copy out was made
  copied_then : BackedUp p copier (history p wrote)
  copied_then =
      let a = answered p calls r d xs (write w) later (from_read ∙ append_snoc xs (write w) later) o.written in
      let out = status_out p xs w a o.one o.copy_out in
      let told : copy_status_of p wrote copier ≡ 1 =
      ap (copy_status_of p wrote) (sym o.same_processor)
      ∙ sym (s.copy_status_read wrote c (ys ++ read v ∷ []) from_read o.copy_status_told o.copy_status_asked)
      ∙ o.copied in
      subst (BackedUp p copier) (sym out.1) (go (copies_out xs copier (history p xs)) (sym out.0 ∙ told))
    where
      go : (t : Bool) → ◌≡◌ {A = ℕ} (cond t 1 0) 1 → BackedUp p copier (cond t (sent copier (history p xs)) (history p xs))
      go true e = refl
      go false e = absurd (omega arith)

  -- valid 1: the store has it
  stored_now : ◌≡◌ {A = Option ℕ} (history p asked).store (some (name_at copier (history p asked)))
  stored_now =
      let followed = true-T (undisturbed p wrote (history p wrote) copier (read c ∷ ys)) o.followed in
      sym (valid_backup p asked (sym (s.valid_read asked v [] refl o.valid_told o.valid_asked) ∙ o.is_valid))
      ∙ subst (BackedUp p copier) (sym (history-append p [] wrote (read c ∷ ys) (at_first p)))
      (backed_up p copier wrote (history p wrote) (read c ∷ ys) copied_then followed)

  store_name : ◌≡◌ {A = Option ℕ} (history p calls).store (some (name_at copier (history p calls)))
  store_name =
      subst (λ (h : History). ◌≡◌ {A = Option ℕ} h.store (some (name_at copier h)))
      (sym (history-append p [] asked (read v ∷ []) (at_first p) ∙ read_moves p asked (history p asked) v))
      stored_now

  -- the store has the processor's name, and holds its IWKey
  pub operator_rule : (◌≡◌ {A = Option ℕ} (history p calls).store (some (name_at copier (history p calls))))
      × (◌≡◌ {A = Option IwKey} (held r.machine).store (some (get_or (held r.machine).processors copier zero_key)))
  operator_rule = (
    store_name,
    (λ j. (d.keys j).store)
        ∙ ap {B = Option IwKey} (map (key_of calls)) store_name
        ∙ ap {B = Option IwKey} some
        (sym (get_or-map (key_of calls) (history p calls).names copier 0)
        ∙ ap (λ (l : List IwKey). get_or l copier zero_key) (λ j. (sym d.keys j).processors)),
  )

-- a list that meets the rule
abbrev rule_first : List Call
rule_first = load 1 0 [] 1 ∷ []

abbrev rule_write : WriteCall
rule_write = record { processor = 1; cpl = 0; address = 0xD91; value = 1 }

abbrev rule_read : ℕ → ReadCall
rule_read address = record { processor = 1; cpl = 0; address = address }

pub rule_met : OperatorRule two (run (power_on two).machine (rule_calls rule_first rule_write (rule_read 0x990) (settling 0 ∷ []) (rule_read 0x991)))
    rule_first rule_write (rule_read 0x990) (settling 0 ∷ []) (rule_read 0x991)
unfolding call valid refusal tests perform executed loaded_key copy_out settled moved copied_out settled_names decode_at modrm_of instruction_of valid_processors
rule_met =
    record {
      one = refl;
      copy_out = refl;
      written = refl;
      same_processor = refl;
      copy_status_asked = refl;
      copy_status_told = refl;
      copied = refl;
      followed = refl;
      valid_asked = refl;
      valid_told = refl;
      is_valid = refl;
    }

-- and one that does not: a copy out of another processor succeeded, and the store has that one's name
abbrev other_out : List Call
other_out = settling 0 ∷ load 1 0 [] 2 ∷ out 1 ∷ settling 0 ∷ []

pub rule_not_met : (undisturbed two out_only (history two out_only) 0 other_out ≡ false)
    × (history two (out_only ++ other_out) ≡ record { names = 1 ∷ 4 ∷ []; backup = some 4; store = some 4; pending = 0 })
unfolding refusal tests moved copied_out settled_names decode_at modrm_of instruction_of
rule_not_met = (refl, refl)
