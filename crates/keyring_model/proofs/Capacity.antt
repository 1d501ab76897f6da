-- A keyring of n records holds n - 1 labels and no more.
-- Assumes nothing.
use mathlib.Core.Path.{◌≡◌, refl, sym, ap, ap₂, subst, ◌∙◌}
use mathlib.Core.Bool.{Bool, true, false, not, ◌&&◌, ◌||◌, and-eq-true_iff}
use mathlib.Core.List.{List, [], ◌∷◌, ◌++◌}
use mathlib.Core.Logic.{◌⊎◌, inl, inr}
use mathlib.Core.Option.{Option, none, some}
use Prim.Native.Nat.{ℕ, zero, suc, ◌+◌, ◌-◌, ◌*◌, ◌≤◌, ◌<◌}
use native.Mathlib.Omega.{arith}
use lib.Dec.{eqb}
use lib.ListN.{length, get_or, replicate, length-replicate}
use borrow.Author.Tests.{eq-eqb, not-true, not-false, eqb-true, eqb-false}
use Rattle.bits.proofs.Choice.{cond_on}
use Rattle.bits.proofs.Lists.{zeros_at}
use Rattle.keyring_model.specs.Records.{records, head_of, head_for, zero_filled}
use Rattle.keyring_model.specs.Chains.{chain_of, reached_from, reached, member, distinct}
use Rattle.keyring_model.specs.Validity.{valid}
use Rattle.keyring_model.specs.Lookup.{first_with, first_on_chain, Looked, unfound, looked, lookup}
use Rattle.keyring_model.specs.Add.{free, kind_for, put_record, Added, added, added_new, added_at, add_valid, add}
use Rattle.keyring_model.proofs.Walks.{chain_end, first_nil}
use Rattle.keyring_model.proofs.Counts.{counted, uncounted, same_other}
use Rattle.keyring_model.proofs.Pigeonhole.{at_least, every_one}
use Rattle.keyring_model.proofs.Fuel.{zero-distinct, zero_below}
use Rattle.keyring_model.proofs.Frames.{accepted, add_at, add-length}
use Rattle.keyring_model.proofs.Finding.{member_head, member_tail, lowest_found, lowest_fails}
use Rattle.keyring_model.proofs.Changes.{is_valid}
use Rattle.keyring_model.proofs.Filling.{reached_more}
use Rattle.keyring_model.proofs.Adding.{add-valid, added_found, others_kept}

-- ---- entries, added one after another

pub record Entry : Type 0 where
  pub label : List ℕ
  pub handle : List ℕ

pub record Fitting (e : Entry) : Type 0 where
  pub label : length e.label ≡ 12
  pub handle : (length e.handle ≡ 48) ⊎ (length e.handle ≡ 64)

abbrev pub Each : (Entry → Type 0) → List Entry → Type 0
Each P [] = Unit {0}
Each P (e ∷ es) = P e × Each P es

-- no entry has the label
abbrev pub New : List ℕ → List Entry → Type 0
New l es = Each (λ e. l ≡ e.label → ⊥) es

-- the labels are pairwise different
abbrev pub Different : List Entry → Type 0
Different [] = Unit {0}
Different (e ∷ es) = New e.label es × Different es

abbrev pub add_entry : List ℕ → Entry → Added
add_entry b e = add b e.label e.handle

-- the block behind all of them
abbrev pub add_all : List ℕ → List Entry → List ℕ
add_all b [] = b
add_all b (e ∷ es) = add_all (add_entry b e).keyring es

-- every answer is 0
abbrev pub AllAdded : List ℕ → List Entry → Type 0
AllAdded b [] = Unit {0}
AllAdded b (e ∷ es) = ((add_entry b e).number ≡ 0) × AllAdded (add_entry b e).keyring es

-- the entry is found with its kind and its handle
abbrev pub Found : List ℕ → Entry → Type 0
Found b e = lookup b e.label ≡ record { number = 0; kind = kind_for e.handle; handle = zero_filled e.handle }

each_both : {P Q R : Entry → Type 0} → ((e : Entry) → P e → Q e → R e) → (es : List Entry) → Each P es → Each Q es → Each R es
each_both f [] p q = tt
each_both f (e ∷ es) p q = (f e p.0 q.0, each_both f es p.1 q.1)

each_of : {P Q : Entry → Type 0} → ((e : Entry) → P e → Q e) → (es : List Entry) → Each P es → Each Q es
each_of f [] p = tt
each_of f (e ∷ es) p = (f e p.0, each_of f es p.1)

-- a label that is none of them gets the answer that it had
pub all_others : (es : List Entry) (b : List ℕ) → AllAdded b es → (l : List ℕ) → New l es → lookup (add_all b es) l ≡ lookup b l
all_others [] b a l f = refl
all_others (e ∷ es) b a l f =
    all_others es (add_entry b e).keyring a.1 l f.1 ∙ others_kept b e.label e.handle a.0 l f.0

-- what was added, to whatever keyring, is found
pub all_found : (es : List Entry) (b : List ℕ) → AllAdded b es → Different es → Each (Found (add_all b es)) es
all_found [] b a d = tt
all_found (e ∷ es) b a d = (
  all_others es (add_entry b e).keyring a.1 e.label d.0 ∙ added_found b e.label e.handle a.0,
  all_found es (add_entry b e).keyring a.1 d.1,
)

-- ---- free records

module _ (b : List ℕ) (v : valid b ≡ true) where
  unreached : ℕ → Bool
  unreached i = not (member i (reached b))

  -- there is one while fewer than all but record 0 are reached
  free-some : length (reached b) + 1 < records b → (i : ℕ) × (free b ≡ some i)
  unfolding unreached
  free-some h = go (free b) refl
    where
      go : (o : Option ℕ) → free b ≡ o → (i : ℕ) × (free b ≡ some i)
      go (some i) e = (i, e)
      go none e = absurd (omega (arith, at_least (records b) (0 ∷ reached b) (λ j p. at j p (eqb j 0) refl)))
        where
          at : (j : ℕ) → j < records b → (t : Bool) → eqb j 0 ≡ t → member j (0 ∷ reached b) ≡ true
          at j p true q = subst (λ (k : ℕ). member k (0 ∷ reached b) ≡ true) (sym (eqb-true j 0 q)) (member_head 0 (reached b))
          at j p false q =
              let f : j ≡ 0 → ⊥ = eqb-false j 0 q in
              member_tail 0 j (reached b)
              (not-false (member j (reached b)) (lowest_fails unreached (records b - 1) 1 e j (omega arith) (omega arith)))

  -- and none once all are
  free-none : length (reached b) + 1 ≡ records b → free b ≡ none
  unfolding unreached
  free-none h = go (free b) refl
    where
      go : (o : Option ℕ) → free b ≡ o → o ≡ none
      go none e = refl
      go (some i) e =
          let p = lowest_found unreached (records b - 1) 1 i e in
          let m : member i (0 ∷ reached b) ≡ true
          = every_one (records b) (0 ∷ reached b) (zero-distinct b v) (zero_below b v) (omega arith) i (omega (arith, p.1, p.2)) in
          absurd (omega (arith, counted i (0 ∷ reached b) m, same_other i 0 (λ z. omega (arith, p.1)), uncounted i (reached b) (not-true (member i (reached b)) p.0)))

-- ---- one more entry

-- m labels in a keyring of n records
record State (n m : ℕ) (b : List ℕ) : Type 0 where
  keyring : valid b ≡ true
  size : length b ≡ n * 80
  held : length (reached b) ≡ m

abbrev Unknown : List ℕ → List ℕ → Type 0
Unknown b l = lookup b l ≡ unfound 16

search_none : (b l : List ℕ) → valid b ≡ true → length l ≡ 12 → Unknown b l → first_on_chain b l ≡ none
unfolding lookup
search_none b l v e u = go (first_on_chain b l) refl
  where
    answer : looked b (first_on_chain b l) ≡ unfound 16
    answer =
        sym (cond_on ((and-eq-true_iff (valid b) (eqb (length l) 12)).1 (v, eq-eqb (length l) 12 e)) (looked b (first_on_chain b l)) (unfound 15)) ∙ u

    go : (o : Option ℕ) → first_on_chain b l ≡ o → o ≡ none
    go none p = refl
    go (some i) p =
        let z : ◌≡◌ {A = ℕ} 0 16 = ap (λ (x : Looked). x.number) (sym (ap (looked b) p) ∙ answer) in
        absurd (omega arith)

module _ (n m : ℕ) (b : List ℕ) (s : State n m b) (e : Entry) (fit : Fitting e) (unknown : Unknown b e.label) where
  count_is : records b ≡ n
  count_is = omega (arith, s.size)

  taken : add_valid b e.label e.handle ≡ true
  taken =
      (and-eq-true_iff (valid b && eqb (length e.label) 12) (eqb (length e.handle) 48 || eqb (length e.handle) 64)).1 (
        (and-eq-true_iff (valid b) (eqb (length e.label) 12)).1 (s.keyring, eq-eqb (length e.label) 12 fit.label),
        go fit.handle,
      )
    where
      go : (length e.handle ≡ 48) ⊎ (length e.handle ≡ 64) → (eqb (length e.handle) 48 || eqb (length e.handle) 64) ≡ true
      go (inl p) = ap (λ (t : Bool). t || eqb (length e.handle) 64) (eq-eqb (length e.handle) 48 p)
      go (inr p) = ap (λ (k : ℕ). eqb k 48 || eqb k 64) p

  to_free : add_entry b e ≡ added_new b e.label e.handle (free b)
  to_free =
      add_at b e.label e.handle taken
      ∙ ap (added_at b e.label e.handle) (search_none b e.label s.keyring fit.label unknown)

  one_more : m + 1 < n → ((add_entry b e).number ≡ 0) × State n (m + 1) (add_entry b e).keyring
  one_more h =
      let f = free-some b s.keyring (omega (arith, s.held, count_is)) in
      let done : add_entry b e ≡ added 0 (put_record b f.0 e.label e.handle)
      = to_free ∙ ap (added_new b e.label e.handle) f.1 in
      let zero : (add_entry b e).number ≡ 0 = ap (λ (a : Added). a.number) done in (
        zero,
        record {
          keyring = add-valid b e.label e.handle zero;
          size = add-length b e.label e.handle ∙ s.size;
          held =
              ap (λ (a : Added). length (reached a.keyring)) done
              ∙ reached_more b e.label e.handle f.0 (accepted b e.label e.handle taken) f.1
              ∙ more s.held;
        },
      )
    where
      more : length (reached b) ≡ m → suc (length (reached b)) ≡ m + 1
      more p = omega arith

  no_more : m + 1 ≡ n → add_entry b e ≡ added 17 b
  no_more h = to_free ∙ ap (added_new b e.label e.handle) (free-none b s.keyring (omega (arith, s.held, count_is)))

all_added : (es : List Entry) (n m : ℕ) (b : List ℕ) → State n m b → Each Fitting es → Different es → Each (λ e. Unknown b e.label) es
    → m + length es + 1 ≤ n → AllAdded b es × State n (m + length es) (add_all b es)
all_added [] n m b s fit d u h = (tt, subst (λ (k : ℕ). State n k b) (sum m) s)
  where
    sum : (m : ℕ) → m ≡ m + 0
    sum m = omega arith
all_added (e ∷ es) n m b s fit d u h =
    let one = one_more n m b s e fit.0 u.0 (omega arith) in
    let rest =
    all_added es n (m + 1) (add_entry b e).keyring one.1 fit.1 d.1
    (each_both (λ x new old. others_kept b e.label e.handle one.0 x.label (λ p. new (sym p)) ∙ old) es d.0 u.1)
    (omega arith) in
    ((one.0, rest.0), subst (λ (k : ℕ). State n k (add_all (add_entry b e).keyring es)) (sum m (length es)) rest.1)
  where
    sum : (m k : ℕ) → m + 1 + k ≡ m + suc k
    sum m k = omega arith

-- ---- the empty keyring

-- a block of zeros
unfoldable pub zeros : (n : ℕ) → List ℕ
zeros n = replicate (n * 80) 0

module _ (n : ℕ) where
  zero_at : (j : ℕ) → get_or (zeros n) j 0 ≡ 0
  unfolding zeros
  zero_at j = zeros_at (n * 80) j

  zero_index : (j : ℕ) → get_or (zeros n) j 0 + 256 * get_or (zeros n) (j + 1) 0 ≡ 0
  zero_index j = omega (arith, zero_at j, zero_at (j + 1))

  no_chain : (k : ℕ) → chain_of (zeros n) k ≡ []
  no_chain k = chain_end (zeros n) (records (zeros n)) (head_of (zeros n) k) (zero_index (k * 2))

  none-reached : (k : ℕ) → reached_from k (zeros n) ≡ []
  unfolding reached_from
  none-reached zero = refl
  none-reached (suc k) = ap₂ (λ (x y : List ℕ). x ++ y) (none-reached k) (no_chain k)

  module _ (some : 1 ≤ n) (most : n ≤ 819) where
    zeros-length : length (zeros n) ≡ n * 80
    unfolding zeros
    zeros-length = length-replicate (n * 80) 0

    count_zeros : records (zeros n) ≡ n
    count_zeros = omega (arith, zeros-length)

    -- it is a keyring
    pub zeros-valid : valid (zeros n) ≡ true
    unfolding distinct
    zeros-valid =
        is_valid (zeros n)
        (record {
          sized = record { size = omega (arith, zeros-length); some = omega (arith, count_zeros); most = omega (arith, count_zeros) };
          head = λ k p. omega (arith, zero_index (k * 2), count_zeros);
          tail = λ j p. zero_at (32 + j);
          next = λ i p q. omega (arith, zero_index (i * 80), count_zeros);
          kind = λ i p q. omega (arith, zero_at (i * 80 + 2));
          zero = λ i p q. zero_at (i * 80 + 3);
        })
        (ap distinct (none-reached 16))

    empty : State n 0 (zeros n)
    empty = record { keyring = zeros-valid; size = zeros-length; held = ap length (none-reached 16) }

    -- nothing is found in it
    pub zeros_unknown : (l : List ℕ) → length l ≡ 12 → lookup (zeros n) l ≡ unfound 16
    unfolding lookup
    zeros_unknown l e =
        cond_on ((and-eq-true_iff (valid (zeros n)) (eqb (length l) 12)).1 (zeros-valid, eq-eqb (length l) 12 e))
        (looked (zeros n) (first_on_chain (zeros n) l)) (unfound 15)
        ∙ ap (λ (c : List ℕ). looked (zeros n) (first_with (zeros n) l c)) (no_chain (head_for l))
        ∙ ap (looked (zeros n)) (first_nil (zeros n) l)

    module _ (es : List Entry) (fit : Each Fitting es) (different : Different es) where
      run : length es + 1 ≤ n → AllAdded (zeros n) es × State n (0 + length es) (add_all (zeros n) es)
      run h =
          all_added es n 0 (zeros n) empty fit different (each_of (λ e f. zeros_unknown e.label f.label) es fit) (omega arith)

      -- up to n - 1 entries are all added, and then all are found
      pub capacity : length es + 1 ≤ n → AllAdded (zeros n) es × Each (Found (add_all (zeros n) es)) es
      capacity h = ((run h).0, all_found es (zeros n) (run h).0 different)

      -- and behind n - 1 of them a further label is refused and the block stays
      pub capacity_full : length es + 1 ≡ n → (e : Entry) → Fitting e → New e.label es
          → add_entry (add_all (zeros n) es) e ≡ added 17 (add_all (zeros n) es)
      capacity_full h e f new =
          let r = run (omega arith) in
          no_more n (0 + length es) (add_all (zeros n) es) r.1 e f
          (all_others es (zeros n) r.0 e.label new ∙ zeros_unknown e.label f.label) (omega arith)

-- the largest keyring, of 65,520 bytes, holds 818 labels
pub capacity_818 : (es : List Entry) → Each Fitting es → Different es → length es ≡ 818
    → AllAdded (zeros 819) es × Each (Found (add_all (zeros 819) es)) es
    × ((e : Entry) → Fitting e → New e.label es → add_entry (add_all (zeros 819) es) e ≡ added 17 (add_all (zeros 819) es))
capacity_818 es fit d h =
    let c = capacity 819 (omega arith) (omega arith) es fit d (omega arith) in
    (c.0, c.1, capacity_full 819 (omega arith) (omega arith) es fit d (omega arith))
