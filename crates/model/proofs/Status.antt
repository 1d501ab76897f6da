-- What copy status and valid tell of the names, over histories: after each call, at any later time, and what a wake then leaves.
-- Assumes nothing.
use mathlib.Core.Path.{◌≡◌, ◌∙◌, refl, sym, ap, ap₂}
use mathlib.Core.Bool.{Bool, true, false, cond, not, ◌&&◌, ◌||◌, and-false, true≢false, false≢true}
use mathlib.Core.List.{List, [], ◌∷◌, ◌++◌, append-nil}
use mathlib.Core.Option.{Option, none, some}
use Prim.Native.Nat.{ℕ, suc, ◌<◌}
use native.Mathlib.Omega.{arith}
use lib.Dec.{T, eqb}
use lib.ListN.{length}
use lib.Seq.{append_snoc}
use borrow.Author.Tests.{eq-eqb, ne_eqb, eqb-true, not-true}
use Rattle.bits.proofs.Choice.{cond_on, cond_off, and_left, and_right, T_true, true-T, on_cond}
use Rattle.isa.specs.Decode.{decode_at, modrm_of, instruction_of}
use Rattle.model.specs.Numbers.{bit}
use Rattle.model.specs.Calls.{PowerOn, WriteCall, SleepCall, Call, step, counter, read, write, settle, sleep, reset, taken}
use Rattle.model.specs.Refusals.{tests, refusal}
use Rattle.model.specs.History.{History, at_first, name_at, renamed, loads, copies_out, sent, copied_out, gets, settled_names, name_kept, moved, next, history_from, history}
use Rattle.model.specs.Status.{is_name, accepted, copies, status_moved, status_from, copy_status_of, no_copy_on, status_left, backed_up}
use Rattle.model.proofs.Corollaries.{along, history-append}
use Rattle.model.proofs.Computed.{two, sleeping, pending, out_only}

-- ---- a call after a list

status_append : (p : PowerOn) (past xs ys : List Call) (h : History) (q old : ℕ)
    → status_from p past h q old (xs ++ ys) ≡ status_from p (past ++ xs) (history_from p past h xs) q (status_from p past h q old xs) ys
status_append p past [] ys h q old = ap (λ (l : List Call). status_from p l h q old ys) (sym (append-nil past))
status_append p past (c ∷ xs) ys h q old =
    status_append p (past ++ (c ∷ [])) xs ys (next p past c h) q (cond (accepted p c) (status_moved past h q c old) old)
    ∙ ap (λ (l : List Call). status_from p l (history_from p past h (c ∷ xs)) q (status_from p past h q old (c ∷ xs)) ys) (append_snoc past c xs)

module _ (p : PowerOn) (xs : List Call) (c : Call) (a : accepted p c ≡ true) where
  history_last : history p (xs ++ c ∷ []) ≡ moved p xs c (history p xs)
  history_last = history-append p [] xs (c ∷ []) (at_first p) ∙ cond_on a (moved p xs c (history p xs)) (history p xs)

  status_last : (q : ℕ) → copy_status_of p (xs ++ c ∷ []) q ≡ status_moved xs (history p xs) q c (copy_status_of p xs q)
  status_last q =
      status_append p [] xs (c ∷ []) (at_first p) q 0 ∙ cond_on a (status_moved xs (history p xs) q c (copy_status_of p xs q)) (copy_status_of p xs q)

-- ---- copy status

module _ (p : PowerOn) (xs : List Call) (w : WriteCall) (a : accepted p (write w) ≡ true) (b : bit 0 w.value ≡ true) where
  abbrev was : History
  was = history p xs

  abbrev writer : ℕ
  writer = w.processor

  status_copy : copy_status_of p (xs ++ write w ∷ []) writer ≡ cond (copies xs w was) 1 0
  status_copy =
      status_last p xs (write w) a writer ∙ cond_on (ap₂ ◌&&◌ b (eq-eqb writer writer refl)) (cond (copies xs w was) 1 0) (copy_status_of p xs writer)

  names_copy : history p (xs ++ write w ∷ []) ≡ cond (eqb w.address 0xD91) (copied_out xs writer was) (gets writer was.backup was)
  unfolding moved
  names_copy = history_last p xs (write w) a ∙ cond_on b (cond (eqb w.address 0xD91) (copied_out xs writer was) (gets writer was.backup was)) was

  -- a copy out: where it leaves 1, the backup has the processor's name and is pending; where 0, no name moved
  pub status_out : w.address ≡ 0xD91
      → (copy_status_of p (xs ++ write w ∷ []) writer ≡ cond (copies_out xs writer was) 1 0)
      × (history p (xs ++ write w ∷ [])
      ≡ cond (copies_out xs writer was) (record { names = was.names; backup = some (name_at writer was); store = was.store; pending = 1 }) was)
  unfolding copied_out
  status_out e =
      let out = eq-eqb w.address 0xD91 e in (
        status_copy ∙ ap (λ (t : Bool). cond t 1 0) (cond_on out (copies_out xs writer was) (is_name was.backup)),
        names_copy ∙ cond_on out (copied_out xs writer was) (gets writer was.backup was),
      )

  -- a copy in: where it leaves 1, the processor gets the backup's name; where 0, no name moved
  pub status_in : w.address ≡ 0xD92
      → (copy_status_of p (xs ++ write w ∷ []) writer ≡ cond (is_name was.backup) 1 0) × (history p (xs ++ write w ∷ []) ≡ gets writer was.backup was)
  status_in e =
      let in' : eqb w.address 0xD91 ≡ false = ap (λ (n : ℕ). eqb n 0xD91) e in (
        status_copy ∙ ap (λ (t : Bool). cond t 1 0) (cond_off in' (copies_out xs writer was) (is_name was.backup)),
        names_copy ∙ cond_off in' (copied_out xs writer was) (gets writer was.backup was),
      )

-- sleep and reset clear it
pub sleep_clears : (p : PowerOn) (xs : List Call) (s : SleepCall) (q : ℕ) → accepted p (sleep s) ≡ true → copy_status_of p (xs ++ sleep s ∷ []) q ≡ 0
sleep_clears p xs s q a = status_last p xs (sleep s) a q

pub reset_clears : (p : PowerOn) (xs : List Call) (q : ℕ) → copy_status_of p (xs ++ reset ∷ []) q ≡ 0
unfolding refusal tests
reset_clears p xs q = status_last p xs reset refl q

-- any other call leaves it
left_alone : (p : PowerOn) (past : List Call) (h : History) (q old : ℕ) (c : Call) → T (not (accepted p c) || no_copy_on q c)
    → cond (accepted p c) (status_moved past h q c old) old ≡ old
left_alone p past h q old c t = go (accepted p c) t
  where
    kept : (c : Call) → T (no_copy_on q c) → status_moved past h q c old ≡ old
    kept (step s) t = refl
    kept (counter c) t = refl
    kept (read r) t = refl
    kept (write w) t =
        let copy = bit 0 w.value && eqb w.processor q in
        cond_off (not-true copy (T_true (not copy) t)) (cond (copies past w h) 1 0) old
    kept (settle s) t = refl
    kept (sleep s) t = absurd t
    kept reset t = absurd t
    kept taken t = refl

    go : (b : Bool) → T (not b || no_copy_on q c) → cond b (status_moved past h q c old) old ≡ old
    go true t = kept c t
    go false t = refl

status_left_lem : (p : PowerOn) (past : List Call) (h : History) (q old : ℕ) (ys : List Call) → T (status_left p q ys) → status_from p past h q old ys ≡ old
status_left_lem p past h q old [] t = refl
status_left_lem p past h q old (c ∷ ys) t =
    let b = not (accepted p c) || no_copy_on q c in
    status_left_lem p (past ++ (c ∷ [])) (next p past c h) q (cond (accepted p c) (status_moved past h q c old) old) ys (and_right b (status_left p q ys) t)
    ∙ left_alone p past h q old c (and_left b (status_left p q ys) t)

-- so it is that of the last copy on q, or 0 since the last sleep or reset
pub status_stays : (p : PowerOn) (xs ys : List Call) (q : ℕ) → status_left p q ys ≡ true → copy_status_of p (xs ++ ys) q ≡ copy_status_of p xs q
status_stays p xs ys q e =
    status_append p [] xs ys (at_first p) q 0 ∙ status_left_lem p xs (history p xs) q (copy_status_of p xs q) ys (true-T (status_left p q ys) e)

-- or 0 since power-on
pub status_unset : (p : PowerOn) (ys : List Call) (q : ℕ) → status_left p q ys ≡ true → copy_status_of p ys q ≡ 0
status_unset p ys q = status_stays p [] ys q

-- ---- backup and store

-- a pending backup is a name; where nothing is pending and the store is a name, the backup is that name
pub record Backups (h : History) : Type 0 where
  pub pends : eqb h.pending 1 ≡ true → is_name h.backup ≡ true
  pub rests : backed_up h ≡ true → ◌≡◌ {A = Option ℕ} h.backup h.store

module _ (p : PowerOn) (past : List Call) (h : History) (t : Backups h) where
  renamed_backups : (q n : ℕ) → Backups (renamed q n h)
  renamed_backups q n = record { pends = t.pends; rests = t.rests }

  gets_backups : (q : ℕ) (o : Option ℕ) → Backups (gets q o h)
  gets_backups q none = t
  gets_backups q (some n) = renamed_backups q n

  out_backups : (q : ℕ) → Backups (copied_out past q h)
  unfolding copied_out
  out_backups q =
      on_cond Backups (copies_out past q h) (sent q h) h (λ e. record { pends = λ f. refl; rests = λ f. absurd (false≢true f) }) (λ e. t)

  settled_backups : (code : ℕ) → Backups (settled_names code h)
  unfolding settled_names
  settled_backups code =
      on_cond Backups (eqb h.pending 1) (record { names = h.names; backup = h.backup; store = cond (eqb code 0) h.backup none; pending = 0 }) h
      (λ e.
      record {
        pends = λ f. absurd (false≢true f);
        rests =
            on_cond (λ o. is_name o ≡ true → ◌≡◌ {A = Option ℕ} h.backup o) (eqb code 0) h.backup none (λ e f. refl)
            (λ e f. absurd (false≢true f));
      })
      (λ e. t)

  moved_backups : (c : Call) → Backups (moved p past c h)
  unfolding moved
  moved_backups (step s) =
      on_cond Backups (loads s) (renamed s.processor (suc (length past)) h) h (λ e. renamed_backups s.processor (suc (length past))) (λ e. t)
  moved_backups (counter c) = t
  moved_backups (read r) = t
  moved_backups (write w) =
      let out = copied_out past w.processor h in
      let in' = gets w.processor h.backup h in
      on_cond Backups (bit 0 w.value) (cond (eqb w.address 0xD91) out in') h
      (λ e. on_cond Backups (eqb w.address 0xD91) out in' (λ e. out_backups w.processor) (λ e. gets_backups w.processor h.backup))
      (λ e. t)
  moved_backups (settle s) = settled_backups s.code
  moved_backups (sleep s) = record { pends = λ f. absurd (false≢true f); rests = λ f. refl }
  moved_backups reset = record { pends = λ f. absurd (false≢true f); rests = λ f. refl }
  moved_backups taken = t

  pub next_backups : (c : Call) → Backups (next p past c h)
  next_backups c = on_cond Backups (accepted p c) (moved p past c h) h (λ e. moved_backups c) (λ e. t)

pub backups : (p : PowerOn) (calls : List Call) → Backups (history p calls)
backups p calls =
    along p (λ past h. Backups h) (λ past c h t. next_backups p past h t c) [] calls (at_first p)
    (record { pends = λ f. absurd (false≢true f); rests = λ f. refl })

-- where nothing is pending and the store is a name, the backup has the same name
pub valid_backup : (p : PowerOn) (calls : List Call) → backed_up (history p calls) ≡ true
    → ◌≡◌ {A = Option ℕ} (history p calls).backup (history p calls).store
valid_backup p calls = (backups p calls).rests

-- ---- what a wake leaves

resting : (h : History) → backed_up h ≡ true → h.pending ≡ 0
resting h v =
    let none_pends = eqb h.pending 0 in
    eqb-true h.pending 0 (T_true none_pends (and_left none_pends (is_name h.store) (true-T (backed_up h) v)))

no_name : (o : Option ℕ) → is_name o ≡ false → ◌≡◌ {A = Option ℕ} o none
no_name none e = refl
no_name (some n) e = absurd (true≢false e)

module _ (p : PowerOn) (calls : List Call) (s : SleepCall) (a : accepted p (sleep s) ≡ true) where
  abbrev before : History
  before = history p calls

  abbrev after : History
  after = history p (calls ++ sleep s ∷ [])

  woken_backup : ◌≡◌ {A = Option ℕ} after.backup (name_kept s.code before)
  unfolding moved
  woken_backup = λ j. (history_last p calls (sleep s) a j).backup

  -- code 0: what the store had before, pending or not
  pub wake_old : s.code ≡ 0 → ◌≡◌ {A = Option ℕ} after.backup before.store
  wake_old e = woken_backup ∙ ap (λ (n : ℕ). name_kept n before) e

  -- code 0 or 1 with nothing pending: the same
  pub wake_settled : s.code < 2 → before.pending ≡ 0 → ◌≡◌ {A = Option ℕ} after.backup before.store
  wake_settled c e =
      let taken = eqb s.code 1 && eqb before.pending 1 in
      woken_backup
      ∙ cond_off (ne_eqb s.code 2 (λ f. omega arith)) none (cond taken before.backup before.store)
      ∙ cond_off (ap (λ (n : ℕ). eqb s.code 1 && eqb n 1) e ∙ and-false (eqb s.code 1)) before.backup before.store

  -- valid 1: the name stays in the backup
  pub wake_valid : s.code < 2 → backed_up before ≡ true → ◌≡◌ {A = Option ℕ} after.backup before.backup
  wake_valid c v = wake_settled c (resting before v) ∙ sym (valid_backup p calls v)

  -- pending 0 and valid 0: none
  pub wake_none : s.code < 2 → before.pending ≡ 0 → backed_up before ≡ false → ◌≡◌ {A = Option ℕ} after.backup none
  wake_none c e v = wake_settled c e ∙ no_name before.store (ap (λ (n : ℕ). eqb n 0 && is_name before.store) (sym e) ∙ v)

-- while a backup is pending, wake 0 leaves what the store had before: another name
pub pending_older : (copy_status_of two pending 0 ≡ 1) × (history two pending ≡ record { names = 4 ∷ 0 ∷ []; backup = some 4; store = some 1; pending = 1 })
    × (◌≡◌ {A = Option ℕ} (history two (pending ++ sleeping 0 ∷ [])).backup (some 1))
unfolding refusal tests moved copied_out settled_names decode_at modrm_of instruction_of
pending_older = (refl, refl, refl)

-- or none
pub pending-none : (copy_status_of two out_only 0 ≡ 1) × (history two out_only ≡ record { names = 1 ∷ 0 ∷ []; backup = some 1; store = none; pending = 1 })
    × (◌≡◌ {A = Option ℕ} (history two (out_only ++ sleeping 0 ∷ [])).backup none)
unfolding refusal tests moved copied_out settled_names decode_at modrm_of instruction_of
pending-none = (refl, refl, refl)
