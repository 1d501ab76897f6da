-- Corollaries: no answer is refusal 1; a key with NoBackup is never backed up; a name that is gone stays gone.
-- Assumes nothing.
use mathlib.Core.Path.{◌≡◌, ◌∙◌, refl, sym, ap, subst}
use mathlib.Core.Bool.{Bool, true, cond, not, ◌&&◌}
use mathlib.Core.List.{List, [], ◌∷◌, ◌++◌, map, append-nil}
use mathlib.Core.Option.{Option, none, some}
use Prim.Native.Nat.{ℕ, zero, suc, ◌+◌, ◌≤◌}
use native.Mathlib.Omega.{arith}
use lib.Dec.{T, eqb, leb}
use lib.ListN.{length, replicate, length-append}
use lib.Seq.{append_snoc}
use borrow.Author.Tests.{eqb-true, eq-eqb, ne_eqb, leb-true, le-leb}
use Rattle.bits.proofs.Choice.{and_left, and_right, and_both, T_true, true-T, on_cond}
use Rattle.model.specs.Numbers.{bit}
use Rattle.model.specs.Calls.{PowerOn, Call, step, counter, read, write, settle, sleep, reset, taken}
use Rattle.model.specs.Refusals.{refusal}
use Rattle.model.specs.Execution.{run, power_on}
use Rattle.model.specs.History.{History, at_first, view_given, no_backup_in, no_backup_of, name_at, renamed, loads, sent, copied_out, gets, settled_names, name_kept, moved, next, history_from, history}
use Rattle.model.specs.Demand3.{all_of, or_none, nowhere}
use Rattle.model.proofs.Lists.{all_at, all_set, all_replicate, all_more}
use Rattle.model.proofs.Histories.{call_more, none_more, every_parts, every_of, numbers_run}
use Rattle.model.proofs.Demand3.{never, power_on_holds}

-- ---- refusal 1

pub refusal_1_never : (p : PowerOn) → (power_on p).answer.number ≡ 0 → (calls : List Call)
    → all_of (λ n. not (eqb n 1)) (map (λ a. a.number) (run (power_on p).machine calls).answers) ≡ true
refusal_1_never p ok calls =
    ap (all_of (λ n. not (eqb n 1))) (numbers_run p [] calls (power_on p).machine (at_first p) (power_on_holds p ok)) ∙ never p calls

-- ---- how tests of names go along a list

-- the names of processors pass f, those of backup and store g
record Pass (f g : ℕ → Bool) (h : History) : Type 0 where
  names : T (all_of f h.names)
  backup : T (or_none g h.backup)
  store : T (or_none g h.store)

-- the tests before a call and after it: for names that stay, are copied out or in, 0, and the name of the call itself
record Steady (past : List Call) (f g f' g' : ℕ → Bool) : Type 0 where
  stays : (n : ℕ) → T (f n) → T (f' n)
  stored : (n : ℕ) → T (g n) → T (g' n)
  goes : (n : ℕ) → T (f n) → no_backup_of past n ≡ 0 → T (g' n)
  comes : (n : ℕ) → T (g n) → T (f' n)
  nothing : T (f 0)
  new : T (f' (suc (length past)))

module _ (p : PowerOn) (past : List Call) (f g f' g' : ℕ → Bool) (s : Steady past f g f' g') (h : History) (t : Pass f g h) where
  kept : Pass f' g' h
  kept =
      record {
        names = all_more f f' s.stays h.names t.names;
        backup = none_more g g' s.stored h.backup t.backup;
        store = none_more g g' s.stored h.store t.store;
      }

  renamed_pass : (q n : ℕ) → T (f' n) → Pass f' g' (renamed q n h)
  renamed_pass q n u = record { names = all_set f' h.names q n kept.names u; backup = kept.backup; store = kept.store }

  gets_pass : (q : ℕ) (o : Option ℕ) → T (or_none g o) → Pass f' g' (gets q o h)
  gets_pass q none u = kept
  gets_pass q (some n) u = renamed_pass q n (s.comes n u)

  out_pass : (q : ℕ) → Pass f' g' (copied_out past q h)
  unfolding copied_out
  out_pass q =
      let n = name_at q h in
      let a = eqb h.pending 0 in
      let b = eqb (no_backup_of past n) 0 in
      on_cond (Pass f' g') (a && b) (sent q h) h
      (λ e.
      record {
        names = kept.names;
        backup =
            s.goes n (all_at f h.names q 0 t.names s.nothing)
            (eqb-true (no_backup_of past n) 0 (T_true b (and_right a b (true-T (a && b) e))));
        store = kept.store;
      })
      (λ e. kept)

  settled_pass : (code : ℕ) → Pass f' g' (settled_names code h)
  unfolding settled_names
  settled_pass code =
      on_cond (Pass f' g') (eqb h.pending 1) (record { names = h.names; backup = h.backup; store = cond (eqb code 0) h.backup none; pending = 0 }) h
      (λ e.
      record {
        names = kept.names;
        backup = kept.backup;
        store = on_cond (λ o. T (or_none g' o)) (eqb code 0) h.backup none (λ e. kept.backup) (λ e. tt);
      })
      (λ e. kept)

  zeros : T (all_of f' (replicate p.count 0))
  zeros = all_replicate f' p.count 0 (s.stays 0 s.nothing)

  kept_slot : (code : ℕ) → T (or_none g' (name_kept code h))
  kept_slot code =
      let P : Option ℕ → Type 0 = λ o. T (or_none g' o) in
      let o = eqb code 1 && eqb h.pending 1 in
      on_cond P (eqb code 2) none (cond o h.backup h.store) (λ e. tt)
      (λ e. on_cond P o h.backup h.store (λ e. kept.backup) (λ e. kept.store))

  moved_pass : (c : Call) → Pass f' g' (moved p past c h)
  unfolding moved
  moved_pass (step c) =
      on_cond (Pass f' g') (loads c) (renamed c.processor (suc (length past)) h) h
      (λ e. renamed_pass c.processor (suc (length past)) s.new) (λ e. kept)
  moved_pass (counter c) = kept
  moved_pass (read r) = kept
  moved_pass (write w) =
      let out = copied_out past w.processor h in
      let in' = gets w.processor h.backup h in
      on_cond (Pass f' g') (bit 0 w.value) (cond (eqb w.address 0xD91) out in') h
      (λ e. on_cond (Pass f' g') (eqb w.address 0xD91) out in' (λ e. out_pass w.processor) (λ e. gets_pass w.processor h.backup t.backup))
      (λ e. kept)
  moved_pass (settle c) = settled_pass c.code
  moved_pass (sleep c) = record { names = zeros; backup = kept_slot c.code; store = kept_slot c.code }
  moved_pass reset = record { names = zeros; backup = tt; store = tt }
  moved_pass taken = kept

  next_pass : (c : Call) → Pass f' g' (next p past c h)
  next_pass c = on_cond (Pass f' g') (eqb (refusal (view_given p) c) 0) (moved p past c h) h (λ e. moved_pass c) (λ e. kept)

-- ---- lists

-- what every call keeps
pub along : (p : PowerOn) (P : List Call → History → Type 0) → ((past : List Call) (c : Call) (h : History) → P past h → P (past ++ (c ∷ [])) (next p past c h))
    → (past calls : List Call) (h : History) → P past h → P (past ++ calls) (history_from p past h calls)
along p P s past [] h t = subst (λ (l : List Call). P l h) (sym (append-nil past)) t
along p P s past (c ∷ calls) h t =
    subst (λ (l : List Call). P l (history_from p past h (c ∷ calls))) (append_snoc past c calls)
    (along p P s (past ++ (c ∷ [])) calls (next p past c h) (s past c h t))

pub history-append : (p : PowerOn) (past xs ys : List Call) (h : History)
    → history_from p past h (xs ++ ys) ≡ history_from p (past ++ xs) (history_from p past h xs) ys
history-append p past [] ys h = ap (λ (l : List Call). history_from p l h ys) (sym (append-nil past))
history-append p past (c ∷ xs) ys h =
    history-append p (past ++ (c ∷ [])) xs ys (next p past c h)
    ∙ ap (λ (l : List Call). history_from p l (history_from p past h (c ∷ xs)) ys) (append_snoc past c xs)

-- ---- NoBackup

-- the name of a call made, or 0
abbrev made : List Call → ℕ → Bool
made past n = leb n (length past)

-- such a name without NoBackup
abbrev free : List Call → ℕ → Bool
free past n = made past n && eqb (no_backup_of past n) 0

no_backup_more : (past more : List Call) (n : ℕ) → n ≤ length past → no_backup_of (past ++ more) n ≡ no_backup_of past n
no_backup_more past more zero h = refl
no_backup_more past more (suc i) h = ap no_backup_in (call_more past more i h)

made-le : (past : List Call) (n : ℕ) → T (made past n) → n ≤ length past
made-le past n t = leb-true n (length past) (T_true (made past n) t)

le-made : (past : List Call) (n : ℕ) → n ≤ length past → T (made past n)
le-made past n h = true-T (made past n) (le-leb n (length past) h)

module _ (past : List Call) (c : Call) where
  abbrev calls : List Call
  calls = past ++ (c ∷ [])

  longer : length calls ≡ length past + 1
  longer = length-append past (c ∷ [])

  made_more : (n : ℕ) → T (made past n) → T (made calls n)
  made_more n t = le-made calls n (omega (arith, longer, made-le past n t))

  free-made : (n : ℕ) → T (made past n) → no_backup_of past n ≡ 0 → T (free calls n)
  free-made n t e =
      and_both (made calls n) (eqb (no_backup_of calls n) 0) (made_more n t)
      (true-T (eqb (no_backup_of calls n) 0) (eq-eqb (no_backup_of calls n) 0 (no_backup_more past (c ∷ []) n (made-le past n t) ∙ e)))

  free_steady : Steady past (made past) (free past) (made calls) (free calls)
  free_steady =
      record {
        stays = made_more;
        stored =
            λ n t.
            let b = eqb (no_backup_of past n) 0 in
            free-made n (and_left (made past n) b t) (eqb-true (no_backup_of past n) 0 (T_true b (and_right (made past n) b t)));
        goes = free-made;
        comes = λ n t. made_more n (and_left (made past n) (eqb (no_backup_of past n) 0) t);
        nothing = le-made past 0 (omega arith);
        new = le-made calls (suc (length past)) (omega (arith, longer));
      }

free_slot : (calls : List Call) (o : Option ℕ) → T (or_none (free calls) o) → (n : ℕ) → ◌≡◌ {A = Option ℕ} o (some n) → no_backup_of calls n ≡ 0
free_slot calls o t n q =
    let u : T (free calls n) = subst (λ (x : Option ℕ). T (or_none (free calls) x)) q t in
    eqb-true (no_backup_of calls n) 0 (T_true (eqb (no_backup_of calls n) 0) (and_right (made calls n) (eqb (no_backup_of calls n) 0) u))

-- a key with NoBackup is neither in the backup nor in the store
pub no_backup-stays : (p : PowerOn) (calls : List Call) (n : ℕ)
    → (◌≡◌ {A = Option ℕ} (history p calls).backup (some n) → no_backup_of calls n ≡ 0)
    × (◌≡◌ {A = Option ℕ} (history p calls).store (some n) → no_backup_of calls n ≡ 0)
no_backup-stays p calls n =
    let h = history p calls in
    let t =
    along p (λ past h. Pass (made past) (free past) h)
    (λ past c h t. next_pass p past (made past) (free past) (made (past ++ (c ∷ []))) (free (past ++ (c ∷ []))) (free_steady past c) h t c)
    [] calls (at_first p) (record { names = all_replicate (made []) p.count 0 tt; backup = tt; store = tt }) in
    (free_slot calls h.backup t.backup n, free_slot calls h.store t.store n)

-- ---- names that are gone

other : (k n : ℕ) → (k ≡ n → ⊥) → T (not (eqb k n))
other k n h = true-T (not (eqb k n)) (ap not (ne_eqb k n h))

-- a name of a call made, other than 0, that no processor, backup or store has, never comes back
pub gone_for_good : (p : PowerOn) (xs ys : List Call) (n : ℕ) → (n ≡ 0 → ⊥) → n ≤ length xs
    → nowhere n (history p xs) ≡ true → nowhere n (history p (xs ++ ys)) ≡ true
gone_for_good p xs ys n z b e =
    let f : ℕ → Bool = λ k. not (eqb k n) in
    let h = history p xs in
    let t = every_parts f h (true-T (nowhere n h) e) in
    let steady : (past : List Call) → n ≤ length past → Steady past f f f f =
    λ past a.
    record {
      stays = λ k u. u;
      stored = λ k u. u;
      goes = λ k u q. u;
      comes = λ k u. u;
      nothing = other 0 n (λ q. z (sym q));
      new = other (suc (length past)) n (λ q. omega arith);
    } in
    let last =
    along p (λ past h. (n ≤ length past) × Pass f f h)
    (λ past c h t. (omega (arith, length-append past (c ∷ []), t.0), next_pass p past f f f f (steady past t.0) h t.1 c))
    xs ys h (b, record { names = t.names; backup = t.backup; store = t.store }) in
    let h' = history_from p xs h ys in
    ap (nowhere n) (history-append p [] xs ys (at_first p))
    ∙ T_true (nowhere n h') (every_of f h' (record { names = last.1.names; backup = last.1.backup; store = last.1.store }))
