-- Along every list of calls the machine holds the keys that the history machine names.
-- Assumes nothing.
use mathlib.Core.Path.{◌≡◌, ◌∙◌, refl, sym, ap, ap₂, subst}
use mathlib.Core.Bool.{Bool, true, false, cond, not, ◌&&◌, ◌||◌}
use mathlib.Core.List.{List, [], ◌∷◌, ◌++◌, map, append-nil}
use mathlib.Core.Option
use mathlib.Core.Option.{Option, none, some, some-injective, none-ne-some, some-ne-none}
use Prim.Native.Nat.{ℕ, zero, suc, ◌+◌, ◌<◌, ◌≤◌}
use native.Mathlib.Omega.{arith}
use lib.Dec.{T, eqb, ltb, ltb→lt, lt→ltb}
use lib.ListN.{length, get_or, set, take, replicate, length-append, length-set, length-replicate, get_or-map, get_or-append, length-map}
use lib.Seq.{append_snoc, get_or-take, get_or-append_seam, set-get_or}
use borrow.Author.Tests.{eq-eqb, ne_eqb}
use Rattle.bits.proofs.Choice.{cond_on, cond_off, and_left, and_right, and_both, true-T, on_cond}
use Rattle.isa.specs.Decode.{decode}
use Rattle.isa.specs.declared.LoadIwKey.{LoadIwKey}
use Rattle.model.specs.Records.{processor_limit, zero_key, zero_processor, no_processor, processor_at, absent, holding, with_key, with_copy_status, with_backup, with_store, with_pending, with_valid, with_error, with_consumed, with_processors, with_processor, with_platform}
use Rattle.model.specs.Numbers.{bit}
use Rattle.model.specs.Forms.{no_backup_bit, key_source}
use Rattle.model.specs.Instructions.{plain_key, mixed_with, loaded_key, executed}
use Rattle.model.specs.Backup.{Copied, copy_out, copy_in, written, settled, with_taken, store_kept, woken}
use Rattle.model.specs.Execution.{zero_platform, fresh, view_of, perform, number_of, call, run}
use Rattle.model.specs.Calls.{PowerOn, StepCall, WriteCall, Call, step, counter, read, write, settle, sleep, reset, taken}
use Rattle.model.specs.Validity.{valid}
use Rattle.model.specs.Refusals.{View, refusal}
use Rattle.model.specs.History.{History, at_first, view_given, call_at, no_backup_in, no_backup_of, load_in, makes, key_made, key_in, key_of, name_at, renamed, loads, copies_out, sent, copied_out, gets, settled_names, name_kept, woken_names, moved, next, history_from, refusals}
use Rattle.model.specs.Demand3.{Holding, slot_key, held, named, loads_key, given, all_of, or_none, every_name}
use Rattle.model.specs.declared.IwKey.{IwKey}
use Rattle.model.specs.declared.Processor.{Processor}
use Rattle.model.specs.declared.Slot.{Slot}
use Rattle.model.specs.declared.Platform.{Platform}
use Rattle.model.specs.declared.Machine.{Machine}
use Rattle.model.proofs.Lists.{map-set, map-take-set, map-replicate, take-replicate, map-append, get_or_there, all_at, all_set, all_replicate, all_more}
use Rattle.model.proofs.Frames.{by_number, call_number, executed_key}
use Rattle.model.proofs.Refusals.{processor_below}
use Rattle.model.proofs.Validities.{pending-flag, count_few, valid_number, call-valid, call_view}

-- ---- a name keeps its meaning while the list grows

module _ (past more : List Call) (i : ℕ) (h : i < length past) where
  pub call_more : call_at (past ++ more) i ≡ call_at past i
  call_more = get_or-append past more reset i h

refusals_more : (p : PowerOn) (past more : List Call) (i : ℕ) → i < length past → get_or (refusals p (past ++ more)) i 0 ≡ get_or (refusals p past) i 0
refusals_more p past more i h =
    let f = refusal (view_given p) in
    let small : i < length (map f past) = subst (λ (n : ℕ). i < n) (sym (length-map past f)) h in
    ap (λ (l : List ℕ). get_or l i 0) (map-append f past more) ∙ get_or-append (map f past) (map f more) 0 i small

-- what a given name tells
given_there : (p : PowerOn) (past : List Call) (i : ℕ) → T (given p past (suc i)) → i < length past
given_there p past i t =
    ltb→lt i (length past) (and_left (ltb i (length past)) (loads_key (call_at past i) && eqb (get_or (refusals p past) i 0) 0) t)

pub given_more : (p : PowerOn) (past more : List Call) (n : ℕ) → T (given p past n) → T (given p (past ++ more) n)
given_more p past more zero t = tt
given_more p past more (suc i) t =
    let h = given_there p past i t in
    let b = loads_key (call_at past i) && eqb (get_or (refusals p past) i 0) 0 in
    let e : length (past ++ more) ≡ length past + length more = length-append past more in
    and_both (ltb i (length (past ++ more))) (loads_key (call_at (past ++ more) i) && eqb (get_or (refusals p (past ++ more)) i 0) 0)
    (lt→ltb i (length (past ++ more)) (omega arith))
    (subst T
    (ap₂ (λ (c : Call) (r : ℕ). loads_key c && eqb r 0) (sym (call_more past more i h)) (sym (refusals_more p past more i h)))
    (and_right (ltb i (length past)) b t))

pub key_more : (p : PowerOn) (past more : List Call) (n : ℕ) → T (given p past n) → key_of (past ++ more) n ≡ key_of past n
key_more p past more zero t = refl
key_more p past more (suc i) t = ap key_in (call_more past more i (given_there p past i t))

-- the call made last
last_call : (past : List Call) (c : Call) → call_at (past ++ (c ∷ [])) (length past) ≡ c
last_call past c = get_or-append_seam past c [] reset

last_given : (p : PowerOn) (past : List Call) (c : Call) → loads_key c ≡ true → refusal (view_given p) c ≡ 0
    → T (given p (past ++ (c ∷ [])) (suc (length past)))
last_given p past c l a =
    let calls = past ++ (c ∷ []) in
    let i = length past in
    let f = refusal (view_given p) in
    let more : length calls ≡ i + 1 = length-append past (c ∷ []) in
    let number : get_or (refusals p calls) i 0 ≡ 0 =
    ap (λ (r : List ℕ). get_or r i 0) (map-append f past (c ∷ []))
    ∙ ap (λ (n : ℕ). get_or (map f past ++ f c ∷ []) n 0) (sym (length-map past f))
    ∙ get_or-append_seam (map f past) (f c) [] 0
    ∙ a in
    and_both (ltb i (length calls)) (loads_key (call_at calls i) && eqb (get_or (refusals p calls) i 0) 0)
    (lt→ltb i (length calls) (omega arith))
    (and_both (loads_key (call_at calls i)) (eqb (get_or (refusals p calls) i 0) 0) (true-T (loads_key (call_at calls i)) (ap loads_key (last_call past c) ∙ l))
    (true-T (eqb (get_or (refusals p calls) i 0) 0) (eq-eqb (get_or (refusals p calls) i 0) 0 number)))

-- ---- every name, and what all of them stand for

pub none_more : (f g : ℕ → Bool) → ((n : ℕ) → T (f n) → T (g n)) → (o : Option ℕ) → T (or_none f o) → T (or_none g o)
none_more f g h none t = t
none_more f g h (some n) t = h n t

pub record Every (f : ℕ → Bool) (h : History) : Type 0 where
  pub names : T (all_of f h.names)
  pub backup : T (or_none f h.backup)
  pub store : T (or_none f h.store)

pub every_parts : (f : ℕ → Bool) (h : History) → T (every_name f h) → Every f h
every_parts f h t =
    let a = all_of f h.names in
    let b = or_none f h.backup in
    let c = or_none f h.store in
    let r = and_right a (b && c) t in
    record { names = and_left a (b && c) t; backup = and_left b c r; store = and_right b c r }

pub every_of : (f : ℕ → Bool) (h : History) → Every f h → T (every_name f h)
every_of f h e =
    let b = or_none f h.backup in
    let c = or_none f h.store in
    and_both (all_of f h.names) (b && c) e.names (and_both b c e.backup e.store)

every_more : (f g : ℕ → Bool) → ((n : ℕ) → T (f n) → T (g n)) → (h : History) → T (every_name f h) → T (every_name g h)
every_more f g m h t =
    let e = every_parts f h t in
    every_of g h
    (record { names = all_more f g m h.names e.names; backup = none_more f g m h.backup e.backup; store = none_more f g m h.store e.store })

map_same : {B : Type 0} (f : ℕ → Bool) (a b : ℕ → B) → ((n : ℕ) → T (f n) → a n ≡ b n) → (l : List ℕ) → T (all_of f l) → map a l ≡ map b l
map_same {B} f a b s [] t = refl
map_same {B} f a b s (n ∷ l) t =
    ap₂ (λ (x : B) (r : List B). x ∷ r) (s n (and_left (f n) (all_of f l) t)) (map_same f a b s l (and_right (f n) (all_of f l) t))

none_same : {B : Type 0} (f : ℕ → Bool) (a b : ℕ → B) → ((n : ℕ) → T (f n) → a n ≡ b n) → (o : Option ℕ) → T (or_none f o)
    → ◌≡◌ {A = Option B} (Option.map a o) (Option.map b o)
none_same f a b s none t = refl
none_same {B} f a b s (some n) t = ap {B = Option B} some (s n t)

named_more : (p : PowerOn) (past more : List Call) (h : History) → T (every_name (given p past) h) → named (past ++ more) h ≡ named past h
named_more p past more h t =
    let e = every_parts (given p past) h t in
    let s : (n : ℕ) → T (given p past n) → key_of (past ++ more) n ≡ key_of past n = key_more p past more in
    let f = given p past in
    λ j.
    record {
      processors = map_same f (key_of (past ++ more)) (key_of past) s h.names e.names j;
      backup = none_same f (key_of (past ++ more)) (key_of past) s h.backup e.backup j;
      store = none_same f (key_of (past ++ more)) (key_of past) s h.store e.store j;
      pending = h.pending;
    }

-- ---- NoBackup of a name is that of its key

small_flag : (n : ℕ) → n < 2 → eqb n 1 ≡ not (eqb n 0)
small_flag zero h = refl
small_flag (suc zero) h = refl
small_flag (suc (suc n)) h = absurd (omega arith)

no_backup_small : (past : List Call) (n : ℕ) → no_backup_of past n < 2
no_backup_small past zero = omega arith
no_backup_small past (suc i) = go (call_at past i)
  where
    go : (c : Call) → no_backup_in c < 2
    go (step s) = omega arith
    go (counter c) = omega arith
    go (read r) = omega arith
    go (write w) = omega arith
    go (settle s) = omega arith
    go (sleep s) = omega arith
    go reset = omega arith
    go taken = omega arith

key_no_backup : (p : PowerOn) (past : List Call) (n : ℕ) → T (given p past n) → (key_of past n).no_backup ≡ no_backup_of past n
unfolding loaded_key
key_no_backup p past zero t = refl
key_no_backup p past (suc i) t =
    go (call_at past i)
    (and_left (loads_key (call_at past i)) (eqb (get_or (refusals p past) i 0) 0)
    (and_right (ltb i (length past)) (loads_key (call_at past i) && eqb (get_or (refusals p past) i 0) 0) t))
  where
    made : (s : StepCall) (o : Option LoadIwKey) → T (makes s o) → (key_made s o).no_backup ≡ no_backup_bit s.cpu
    made s none t = absurd t
    made s (some l) t =
        on_cond (λ k. k.no_backup ≡ no_backup_bit s.cpu) (eqb (key_source s.cpu) 1) (mixed_with s.random (plain_key l s.cpu))
        (plain_key l s.cpu) (λ e. refl) (λ e. refl)

    go : (c : Call) → T (loads_key c) → (key_in c).no_backup ≡ no_backup_in c
    go (step s) t = made s (load_in (decode s.string)) t
    go (counter c) t = refl
    go (read r) t = refl
    go (write w) t = refl
    go (settle s) t = refl
    go (sleep s) t = refl
    go reset t = refl
    go taken t = refl

-- ---- one call

-- the machine m holds what the history h names, after the calls past
pub record Holds (p : PowerOn) (past : List Call) (m : Machine) (h : History) : Type 0 where
  pub is_valid : T (valid m)
  pub view : view_of m ≡ view_given p
  pub entries : length m.processors ≡ processor_limit
  pub names : length h.names ≡ p.count
  pub keys : held m ≡ named past h
  pub givens : T (every_name (given p past) h)

-- what has to be shown after a move
pub record Moved (p : PowerOn) (calls : List Call) (m : Machine) (h : History) : Type 0 where
  pub entries : length m.processors ≡ processor_limit
  pub names : length h.names ≡ p.count
  pub keys : held m ≡ named calls h
  pub givens : T (every_name (given p calls) h)

pub slot_none : (s : Slot) → ◌≡◌ {A = Option IwKey} (slot_key s) none → eqb s.present 1 ≡ false
slot_none s q = go (eqb s.present 1) q
  where
    go : (t : Bool) → ◌≡◌ {A = Option IwKey} (cond t (some s.key) none) none → t ≡ false
    go true q = absurd (some-ne-none s.key q)
    go false q = refl

pub slot_some : (s : Slot) (k : IwKey) → ◌≡◌ {A = Option IwKey} (slot_key s) (some k) → (eqb s.present 1 ≡ true) × (s.key ≡ k)
slot_some s k q = go (eqb s.present 1) q
  where
    go : (t : Bool) → ◌≡◌ {A = Option IwKey} (cond t (some s.key) none) (some k) → (t ≡ true) × (s.key ≡ k)
    go true q = (refl, some-injective s.key k q)
    go false q = absurd (none-ne-some k q)

-- each processor's IWKey is its name's key
module _ (p : PowerOn) (calls : List Call) (m : Machine) (h : History) (inv : Holds p calls m h) where
  pub same_count : m.count ≡ p.count
  same_count = ap (λ (v : View). v.count) inv.view

  processors_named : map (λ (e : Processor). e.key) (take m.count m.processors) ≡ map (key_of calls) h.names
  processors_named = ap (λ (x : Holding). x.processors) inv.keys

  pub key_at : (q : ℕ) → q < p.count → (processor_at m q).key ≡ key_of calls (name_at q h)
  key_at q b =
      let key : Processor → IwKey = λ e. e.key in
      let names = map (key_of calls) h.names in
      let there : q < length names = subst (λ (n : ℕ). q < n) (sym inv.names ∙ sym (length-map h.names (key_of calls))) b in
      ap key (sym (get_or-take m.count m.processors q no_processor (subst (λ (n : ℕ). q < n) (sym same_count) b)))
      ∙ sym (get_or-map key (take m.count m.processors) q no_processor)
      ∙ ap (λ (l : List IwKey). get_or l q no_processor.key) processors_named
      ∙ get_or_there names q no_processor.key (key_of calls 0) there
      ∙ get_or-map (key_of calls) h.names q 0

  pub name_given : (q : ℕ) → T (given p calls (name_at q h))
  name_given q = all_at (given p calls) h.names q 0 (every_parts (given p calls) h inv.givens).names tt

module _ (p : PowerOn) (past : List Call) (c : Call) (m : Machine) (h : History) (inv : Holds p (past ++ (c ∷ [])) m h) where
  abbrev calls : List Call
  calls = past ++ (c ∷ [])

  abbrev key : Processor → IwKey
  key e = e.key

  -- a processor whose IWKey is that of a name
  processors_set : (q : ℕ) (x : Processor) (n : ℕ) → q < p.count → x.key ≡ key_of calls n
      → map key (take m.count (set m.processors q x)) ≡ map (key_of calls) (set h.names q n)
  processors_set q x n b e =
      map-take-set key m.count m.processors q x (subst (λ (n : ℕ). q < n) (sym (same_count p calls m h inv)) b)
      ∙ ap₂ (λ (l : List IwKey) (k : IwKey). set l q k) (processors_named p calls m h inv) e
      ∙ sym (map-set (key_of calls) h.names q n)

  processors_kept : (q : ℕ) (x : Processor) → q < p.count → x.key ≡ (processor_at m q).key
      → map key (take m.count (set m.processors q x)) ≡ map (key_of calls) h.names
  processors_kept q x b e =
      processors_set q x (name_at q h) b (e ∙ key_at p calls m h inv q b) ∙ ap (map (key_of calls)) (set-get_or h.names q 0)

  every : Every (given p calls) h
  every = every_parts (given p calls) h inv.givens

  -- other processors and another platform, with what has to be shown of each part
  module _ (l : List Processor) (entries : length l ≡ processor_limit) (n : List ℕ) (counted : length n ≡ p.count)
      (processors : map key (take m.count l) ≡ map (key_of calls) n) (given_names : T (all_of (given p calls) n)) where
    moved_to : (f : Platform) (b s : Option ℕ) (w : ℕ) → ◌≡◌ {A = Option IwKey} (slot_key f.backup) (Option.map (key_of calls) b)
        → ◌≡◌ {A = Option IwKey} (slot_key f.store) (Option.map (key_of calls) s) → f.pending ≡ w
        → T (or_none (given p calls) b) → T (or_none (given p calls) s)
        → Moved p calls (with_platform f (with_processors l m)) (record { names = n; backup = b; store = s; pending = w })
    moved_to f b s w eb es ew tb ts =
        record {
          entries = entries;
          names = counted;
          keys = λ j. record { processors = processors j; backup = eb j; store = es j; pending = ew j };
          givens =
              every_of (given p calls) (record { names = n; backup = b; store = s; pending = w })
              (record { names = given_names; backup = tb; store = ts });
        }

    -- the platform stays
    moved_alone : Moved p calls (with_processors l m) (record { names = n; backup = h.backup; store = h.store; pending = h.pending })
    moved_alone =
        moved_to m.platform h.backup h.store h.pending (λ j. (inv.keys j).backup) (λ j. (inv.keys j).store)
        (λ j. (inv.keys j).pending) every.backup every.store

  -- ---- of one processor

  module _ (q : ℕ) (b : q < p.count) where
    abbrev entry : Processor
    entry = processor_at m q

    -- processor q keeps its key
    kept_moved : (x : Processor) → x.key ≡ entry.key → Moved p calls (with_processor q x m) h
    kept_moved x e =
        moved_alone (set m.processors q x) (length-set m.processors q x ∙ inv.entries) h.names inv.names (processors_kept q x b e)
        every.names

    -- it gets the key of name n
    renamed-moved : (x : Processor) (n : ℕ) → x.key ≡ key_of calls n → T (given p calls n) → Moved p calls (with_processor q x m) (renamed q n h)
    renamed-moved x n e t =
        moved_alone (set m.processors q x) (length-set m.processors q x ∙ inv.entries) (set h.names q n)
        (length-set h.names q n ∙ inv.names) (processors_set q x n b e) (all_set (given p calls) h.names q n every.names t)

    -- a step
    step-moved : (s : StepCall) → c ≡ step s → s.processor ≡ q → refusal (view_given p) c ≡ 0
        → Moved p calls (with_processor q (with_key (executed s entry.key).key entry) m) (cond (loads s) (renamed q (suc (length past)) h) h)
    step-moved s e r a = go (loads s) refl (executed_key s entry.key)
      where
        last : call_at calls (length past) ≡ step s
        last = last_call past c ∙ e

        go : (t : Bool) → loads s ≡ t → (executed s entry.key).key ≡ cond (loads s) (key_in (step s)) entry.key
            → Moved p calls (with_processor q (with_key (executed s entry.key).key entry) m) (cond t (renamed q (suc (length past)) h) h)
        go true l k =
            renamed-moved (with_key (executed s entry.key).key entry) (suc (length past))
            (k ∙ cond_on l (key_in (step s)) entry.key ∙ ap key_in (sym last)) (last_given p past c (ap loads_key e ∙ l) a)
        go false l k =
            kept_moved (with_key (executed s entry.key).key entry) (k ∙ cond_off l (key_in (step s)) entry.key)

    -- a copy out: it fails where the history machine moves nothing
    module _ (old : T (every_name (given p past) h)) where
      given_past : T (given p past (name_at q h))
      given_past = all_at (given p past) h.names q 0 (every_parts (given p past) h old).names tt

      no_backup_told : entry.key.no_backup ≡ no_backup_of past (name_at q h)
      no_backup_told =
          ap (λ (k : IwKey). k.no_backup) (key_at p calls m h inv q b ∙ key_more p past (c ∷ []) (name_at q h) given_past)
          ∙ key_no_backup p past (name_at q h) given_past

      pending_told : m.platform.pending ≡ h.pending
      pending_told = λ j. (inv.keys j).pending

      pub fails_told : (eqb entry.key.no_backup 1 || eqb m.platform.pending 1) ≡ not (copies_out past q h)
      fails_told =
          let n = no_backup_of past (name_at q h) in
          ap₂ (λ (x y : ℕ). eqb x 1 || eqb y 1) no_backup_told pending_told
          ∙ ap₂ (λ (x y : Bool). x || y) (small_flag n (no_backup_small past (name_at q h)))
          (small_flag h.pending (subst (λ (x : ℕ). x < 2) pending_told (pending-flag m inv.is_valid)))
          ∙ morgan (eqb n 0) (eqb h.pending 0)
        where
          morgan : (x y : Bool) → (not x || not y) ≡ not (y && x)
          morgan true true = refl
          morgan true false = refl
          morgan false true = refl
          morgan false false = refl

      abbrev after : Copied → Machine
      after x = with_platform x.platform (with_processor q x.processor m)

      out_moved : Moved p calls (after (copy_out entry m.platform)) (copied_out past q h)
      unfolding copy_out copied_out
      out_moved =
          subst
          (λ (t : Bool).
          Moved p calls
          (after (cond t (record { processor = with_copy_status 0 entry; platform = m.platform }) (record { processor = with_copy_status 1 entry; platform = out })))
          (cond (copies_out past q h) (sent q h) h))
          (sym fails_told)
          (go (copies_out past q h))
        where
          out : Platform
          out = with_backup (holding entry.key) (with_pending 1 (with_valid 0 (with_error 0 (with_consumed 0 m.platform))))

          go : (t : Bool)
              → Moved p calls
              (after (cond (not t) (record { processor = with_copy_status 0 entry; platform = m.platform })
              (record { processor = with_copy_status 1 entry; platform = out })))
              (cond t (sent q h) h)
          go true =
              let x = with_copy_status 1 entry in
              moved_to (set m.processors q x) (length-set m.processors q x ∙ inv.entries) h.names inv.names
              (processors_kept q x b refl) every.names
              out (some (name_at q h)) h.store 1 (ap {B = Option IwKey} some (key_at p calls m h inv q b)) (λ j. (inv.keys j).store) refl
              (name_given p calls m h inv q) every.store
          go false = kept_moved (with_copy_status 0 entry) refl

    -- a copy in
    in_moved : Moved p calls (with_platform (copy_in entry m.platform).platform (with_processor q (copy_in entry m.platform).processor m))
        (gets q h.backup h)
    unfolding copy_in
    in_moved = go h.backup (λ j. (inv.keys j).backup) every.backup
      where
        f : Platform
        f = m.platform

        copied : Bool → Copied
        copied t =
            cond t (record { processor = with_copy_status 1 (with_key m.platform.backup.key entry); platform = m.platform })
            (record { processor = with_copy_status 0 entry; platform = m.platform })

        go : (o : Option ℕ) → ◌≡◌ {A = Option IwKey} (slot_key m.platform.backup) (Option.map (key_of calls) o) → T (or_none (given p calls) o)
            → Moved p calls
            (with_platform (copied (eqb m.platform.backup.present 1)).platform
            (with_processor q (copied (eqb m.platform.backup.present 1)).processor m))
            (gets q o h)
        go none e t =
            subst (λ (u : Bool). Moved p calls (with_platform (copied u).platform (with_processor q (copied u).processor m)) h)
            (sym (slot_none m.platform.backup e))
            (kept_moved (with_copy_status 0 entry) refl)
        go (some n) e t =
            let there = slot_some m.platform.backup (key_of calls n) e in
            subst (λ (u : Bool). Moved p calls (with_platform (copied u).platform (with_processor q (copied u).processor m)) (renamed q n h))
            (sym there.0)
            (renamed-moved (with_copy_status 1 (with_key m.platform.backup.key entry)) n there.1 t)

    write-moved : T (every_name (given p past) h) → (w : WriteCall) → w.processor ≡ q
        → Moved p calls
        (with_platform (written w.address w.value entry m.platform).platform
        (with_processor q (written w.address w.value entry m.platform).processor m))
        (cond (bit 0 w.value) (cond (eqb w.address 0xD91) (copied_out past q h) (gets q h.backup h)) h)
    write-moved old w r = go (bit 0 w.value) (eqb w.address 0xD91)
      where
        did : Bool → Bool → Copied
        did t o =
            cond t (cond o (copy_out entry m.platform) (copy_in entry m.platform)) (record { processor = entry; platform = m.platform })

        go : (t o : Bool)
            → Moved p calls (with_platform (did t o).platform (with_processor q (did t o).processor m))
            (cond t (cond o (copied_out past q h) (gets q h.backup h)) h)
        go true true = out_moved old
        go true false = in_moved
        go false o = kept_moved entry refl

  -- ---- of the platform

  processors_stay : (f : Platform) (b s : Option ℕ) (w : ℕ) → ◌≡◌ {A = Option IwKey} (slot_key f.backup) (Option.map (key_of calls) b)
      → ◌≡◌ {A = Option IwKey} (slot_key f.store) (Option.map (key_of calls) s) → f.pending ≡ w
      → T (or_none (given p calls) b) → T (or_none (given p calls) s)
      → Moved p calls (with_platform f m) (record { names = h.names; backup = b; store = s; pending = w })
  processors_stay = moved_to m.processors inv.entries h.names inv.names (processors_named p calls m h inv) every.names

  backup-named : ◌≡◌ {A = Option IwKey} (slot_key m.platform.backup) (Option.map (key_of calls) h.backup)
  backup-named = λ j. (inv.keys j).backup

  store-named : ◌≡◌ {A = Option IwKey} (slot_key m.platform.store) (Option.map (key_of calls) h.store)
  store-named = λ j. (inv.keys j).store

  settle-moved : (code : ℕ) → Moved p calls (with_platform (settled code m.platform) m) (settled_names code h)
  unfolding settled settled_names
  settle-moved code =
      subst
      (λ (n : ℕ).
      Moved p calls (with_platform (settled code m.platform) m)
      (cond (eqb n 1) (record { names = h.names; backup = h.backup; store = cond (eqb code 0) h.backup none; pending = 0 }) h))
      (λ j. (inv.keys j).pending)
      (go (eqb m.platform.pending 1) (eqb code 0))
    where
      f : Platform
      f = m.platform

      go : (t o : Bool)
          → Moved p calls
          (with_platform
          (cond t
          (with_pending 0 (with_consumed 1
          (cond o (with_store m.platform.backup (with_valid 1 (with_error 0 m.platform))) (with_store absent (with_valid 0 (with_error 1 m.platform))))))
          m.platform) m)
          (cond t (record { names = h.names; backup = h.backup; store = cond o h.backup none; pending = 0 }) h)
      go true true =
          processors_stay (with_pending 0 (with_consumed 1 (with_store m.platform.backup (with_valid 1 (with_error 0 m.platform)))))
          h.backup h.backup 0 backup-named backup-named refl every.backup every.backup
      go true false =
          processors_stay (with_pending 0 (with_consumed 1 (with_store absent (with_valid 0 (with_error 1 m.platform))))) h.backup none 0
          backup-named refl refl every.backup tt
      go false o =
          processors_stay m.platform h.backup h.store h.pending backup-named store-named (λ j. (inv.keys j).pending) every.backup
          every.store

  -- consumed is no key
  taken-moved : Moved p calls (with_platform (with_taken m.platform) m) h
  unfolding with_taken
  taken-moved =
      let stays : (n : ℕ) → Moved p calls (with_platform (with_consumed n m.platform) m) h =
      λ n.
      processors_stay (with_consumed n m.platform) h.backup h.store h.pending backup-named store-named (λ j. (inv.keys j).pending) every.backup
      every.store in
      on_cond (λ f. Moved p calls (with_platform f m) h) (eqb m.platform.pending 1) (with_consumed 1 m.platform) m.platform (λ e. stays 1)
      (λ e. stays m.platform.consumed)

  -- all processors zero: each has name 0
  zeros_moved : (f : Platform) (b s : Option ℕ) (w : ℕ) → ◌≡◌ {A = Option IwKey} (slot_key f.backup) (Option.map (key_of calls) b)
      → ◌≡◌ {A = Option IwKey} (slot_key f.store) (Option.map (key_of calls) s) → f.pending ≡ w
      → T (or_none (given p calls) b) → T (or_none (given p calls) s)
      → Moved p calls (with_platform f (with_processors (replicate processor_limit zero_processor) m))
      (record { names = replicate p.count 0; backup = b; store = s; pending = w })
  zeros_moved =
      let few : m.count ≤ processor_limit = count_few m inv.is_valid in
      moved_to (replicate processor_limit zero_processor) refl (replicate p.count 0) (length-replicate p.count 0)
      (ap (map key) (take-replicate m.count processor_limit zero_processor few)
      ∙ map-replicate key m.count zero_processor
      ∙ ap (λ (n : ℕ). replicate n zero_key) (same_count p calls m h inv)
      ∙ sym (map-replicate (key_of calls) p.count 0))
      (all_replicate (given p calls) p.count 0 tt)

  sleep-moved : (code : ℕ)
      → Moved p calls (with_platform (woken code m.platform) (with_processors (replicate processor_limit zero_processor) m)) (woken_names p code h)
  unfolding woken
  sleep-moved code =
      zeros_moved (woken code m.platform) (name_kept code h) (name_kept code h) 0 kept kept refl kept_given kept_given
    where
      by : (t o : Bool)
          → ◌≡◌ {A = Option IwKey} (slot_key (cond t absent (cond o m.platform.backup m.platform.store)))
          (Option.map (key_of calls) (cond t none (cond o h.backup h.store)))
      by true o = refl
      by false true = backup-named
      by false false = store-named

      kept : ◌≡◌ {A = Option IwKey} (slot_key (store_kept code m.platform)) (Option.map (key_of calls) (name_kept code h))
      kept =
          subst
          (λ (n : ℕ).
          ◌≡◌ {A = Option IwKey} (slot_key (store_kept code m.platform))
          (Option.map (key_of calls) (cond (eqb code 2) none (cond (eqb code 1 && eqb n 1) h.backup h.store))))
          (λ j. (inv.keys j).pending)
          (by (eqb code 2) (eqb code 1 && eqb m.platform.pending 1))

      kept_given : T (or_none (given p calls) (name_kept code h))
      kept_given =
          let g : Option ℕ → Type 0 = λ o. T (or_none (given p calls) o) in
          let o = eqb code 1 && eqb h.pending 1 in
          on_cond g (eqb code 2) none (cond o h.backup h.store) (λ e. tt)
          (λ e. on_cond g o h.backup h.store (λ f. every.backup) (λ f. every.store))

  reset-moved : Moved p calls (fresh m.count m.features) (at_first p)
  reset-moved = zeros_moved zero_platform none none 0 refl refl refl tt tt

-- ---- every call

-- the call is added to those past: nothing has moved yet
pub more_past : (p : PowerOn) (past : List Call) (c : Call) (m : Machine) (h : History) → Holds p past m h → Holds p (past ++ (c ∷ [])) m h
more_past p past c m h inv =
    record {
      is_valid = inv.is_valid;
      view = inv.view;
      entries = inv.entries;
      names = inv.names;
      keys = inv.keys ∙ sym (named_more p past (c ∷ []) h inv.givens);
      givens = every_more (given p past) (given p (past ++ (c ∷ []))) (given_more p past (c ∷ [])) h inv.givens;
    }

-- a call that leaves machine and names
left_moved : (p : PowerOn) (past : List Call) (c : Call) (m : Machine) (h : History) → Holds p past m h → Moved p (past ++ (c ∷ [])) m h
left_moved p past c m h inv =
    let more = more_past p past c m h inv in
    record { entries = more.entries; names = more.names; keys = more.keys; givens = more.givens }

pub performed_moved : (p : PowerOn) (past : List Call) (c : Call) (m : Machine) (h : History) → Holds p past m h → refusal (view_given p) c ≡ 0
    → Moved p (past ++ (c ∷ [])) (perform m c).machine (moved p past c h)
unfolding perform moved
performed_moved p past (step s) m h inv a =
    let more = more_past p past (step s) m h inv in
    let below = processor_below (view_given p) (step s) s.processor a refl in
    step-moved p past (step s) m h more s.processor below s refl refl a
performed_moved p past (counter c) m h inv a = left_moved p past (counter c) m h inv
performed_moved p past (read r) m h inv a = left_moved p past (read r) m h inv
performed_moved p past (write w) m h inv a =
    let more = more_past p past (write w) m h inv in
    let below = processor_below (view_given p) (write w) w.processor a refl in
    write-moved p past (write w) m h more w.processor below inv.givens w refl
performed_moved p past (settle s) m h inv a = settle-moved p past (settle s) m h (more_past p past (settle s) m h inv) s.code
performed_moved p past (sleep s) m h inv a = sleep-moved p past (sleep s) m h (more_past p past (sleep s) m h inv) s.code
performed_moved p past reset m h inv a = reset-moved p past reset m h (more_past p past reset m h inv)
performed_moved p past taken m h inv a = taken-moved p past taken m h (more_past p past taken m h inv)

module _ (p : PowerOn) (past : List Call) (c : Call) (m : Machine) (h : History) (inv : Holds p past m h) where
  -- the machine's number is the history machine's refusal
  pub number_told : number_of m c ≡ refusal (view_given p) c
  number_told = valid_number m c inv.is_valid ∙ ap (λ (v : View). refusal v c) inv.view

  -- a property of the machine after the call, by the two ways of the history machine
  pub by_refusal : (P : Machine → Bool → Type 0) → (refusal (view_given p) c ≡ 0 → P (perform m c).machine true) → P m false
      → P (call m c).machine (eqb (refusal (view_given p) c) 0)
  by_refusal P f g =
      by_number m c (λ o. P o.machine (eqb (refusal (view_given p) c) 0))
      (λ e. let a = sym number_told ∙ e in subst (P (perform m c).machine) (sym (eq-eqb (refusal (view_given p) c) 0 a)) (f a))
      (λ e. subst (P m) (sym (ne_eqb (refusal (view_given p) c) 0 (λ q. e (number_told ∙ q)))) g)

  after_call : Moved p (past ++ (c ∷ [])) (call m c).machine (next p past c h)
  after_call =
      let more = more_past p past c m h inv in
      by_refusal (λ n t. Moved p (past ++ (c ∷ [])) n (cond t (moved p past c h) h)) (performed_moved p past c m h inv)
      (record { entries = more.entries; names = more.names; keys = more.keys; givens = more.givens })

  pub holds_next : Holds p (past ++ (c ∷ [])) (call m c).machine (next p past c h)
  holds_next =
      record {
        is_valid = call-valid m c inv.is_valid;
        view = call_view m c ∙ inv.view;
        entries = after_call.entries;
        names = after_call.names;
        keys = after_call.keys;
        givens = after_call.givens;
      }

-- ---- every list

pub holds_first : (p : PowerOn) → T (valid (fresh p.count p.features)) → Holds p [] (fresh p.count p.features) (at_first p)
holds_first p t =
    let m = fresh p.count p.features in
    let few : p.count ≤ processor_limit = count_few m t in
    record {
      is_valid = t;
      view = refl;
      entries = refl;
      names = length-replicate p.count 0;
      keys =
          λ j.
          record {
            processors =
                (ap (map (λ (e : Processor). e.key)) (take-replicate p.count processor_limit zero_processor few)
                ∙ map-replicate (λ (e : Processor). e.key) p.count zero_processor
                ∙ sym (map-replicate (key_of []) p.count 0))
                j;
            backup = none;
            store = none;
            pending = 0;
          };
      givens = every_of (given p []) (at_first p) (record { names = all_replicate (given p []) p.count 0 tt; backup = tt; store = tt });
    }

pub holds_run : (p : PowerOn) (past calls : List Call) (m : Machine) (h : History) → Holds p past m h
    → Holds p (past ++ calls) (run m calls).machine (history_from p past h calls)
holds_run p past [] m h inv = subst (λ (l : List Call). Holds p l m h) (sym (append-nil past)) inv
holds_run p past (c ∷ calls) m h inv =
    subst (λ (l : List Call). Holds p l (run m (c ∷ calls)).machine (history_from p past h (c ∷ calls))) (append_snoc past c calls)
    (holds_run p (past ++ (c ∷ [])) calls (call m c).machine (next p past c h) (holds_next p past c m h inv))

-- call by call the answer's number is the history machine's refusal
pub numbers_run : (p : PowerOn) (past calls : List Call) (m : Machine) (h : History) → Holds p past m h
    → map (λ a. a.number) (run m calls).answers ≡ refusals p calls
numbers_run p past [] m h inv = refl
numbers_run p past (c ∷ calls) m h inv =
    ap₂ (λ (n : ℕ) (l : List ℕ). n ∷ l) (call_number m c ∙ number_told p past c m h inv)
    (numbers_run p (past ++ (c ∷ [])) calls (call m c).machine (next p past c h) (holds_next p past c m h inv))
