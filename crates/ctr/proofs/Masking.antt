-- Data masked from the front, some blocks at a time: over any cipher whose results have 16 bytes.
-- Assumes nothing.
use Rattle.std.proofs.Common.{◌≡◌, ℕ, ◌+◌, ◌-◌, ◌*◌, ◌≤◌, List, [], ◌++◌, length, take, drop, sym, refl, ap, ◌∙◌, subst, ap₂, append_assoc, append-nil, arith, length-append, length-drop, take-append-drop, length-take-le, take_all, drop-drop, take_at, take-add, drop_at}
use lib.Seq.{sets, sets-eq, length-sets}
use Rattle.bits.specs.Bytes.{Bytes, xor_bytes}
use Rattle.bits.proofs.Lists.{no_elements}
use Rattle.aes.specs.Meaning.{bytes_of}
use Rattle.aes.specs.declared.Block.{Block}
use Rattle.aes.proofs.Tables.{block_bytes}
use Rattle.sp800_38a.specs.Counter.{counter_at, ctr}
use Rattle.sp800_38a.proofs.Counters.{counter_sum, counter_none}
use Rattle.sp800_38a.proofs.Ctr.{ctr-length, ctr-append, ctr_block}

-- ---- counter blocks one behind the other

-- a block is the one none behind it
pub first_counter : (b : Block) {c : List ℕ} → c ≡ bytes_of b → c ≡ counter_at c 0
first_counter b {c} e = sym (counter_none c (subst Bytes (sym e) (block_bytes b)))

-- the counter block behind one that stands i blocks behind c
pub counted : (c : List ℕ) (i n m : ℕ) {b b' : List ℕ} → m ≡ i + n → b ≡ counter_at c i → b' ≡ counter_at b n → b' ≡ counter_at c m
counted c i n m h e p = p ∙ ap (λ (l : List ℕ). counter_at l n) e ∙ counter_sum c i n ∙ ap (counter_at c) (sym h)

-- a store keeps the length
pub stored_length : (l v : List ℕ) (i : ℕ) {l' : List ℕ} → l' ≡ sets l i v → length l' ≡ length l
stored_length l v i e = ap length e ∙ length-sets l i v

-- the length of a part
pub part_length : (l : List ℕ) (at n : ℕ) → at + n ≤ length l → length (take n (drop at l)) ≡ n
part_length l at n h = length-take-le n (drop at l) (simp length-drop (omega arith))

-- ---- data masked

-- the first i blocks of s are masked, from the counter block c on
abbrev pub Masked : (List ℕ → List ℕ) → List ℕ → List ℕ → ℕ → List ℕ → Type 0
Masked f c s i l = l ≡ ctr f c (take (16 * i) s) ++ drop (16 * i) s

pub masked_none : (f : List ℕ → List ℕ) (c s : List ℕ) → Masked f c s 0 s
unfolding ctr
masked_none f c s = refl

-- a first part, of which p is the result
pub masked_first : (f : List ℕ → List ℕ) (c s : List ℕ) (i at : ℕ) {p : List ℕ} → at ≡ 16 * i → p ≡ ctr f c (take at s) → Masked f c s i (p ++ drop at s)
masked_first f c s i at e made =
    ap₂ (λ (x y : List ℕ). x ++ y) (made ∙ ap (λ (j : ℕ). ctr f c (take j s)) e) (ap (λ (j : ℕ). drop j s) e)

module _ (f : List ℕ → List ℕ) (whole : (b : List ℕ) → length (f b) ≡ 16) (c₀ s : List ℕ) where
  module _ (i : ℕ) (fits : 16 * i ≤ length s) {l : List ℕ} (inv : Masked f c₀ s i l) where
    front : length (take (16 * i) s) ≡ 16 * i
    front = length-take-le (16 * i) s fits

    masked_front : length (ctr f c₀ (take (16 * i) s)) ≡ 16 * i
    masked_front = ctr-length f whole c₀ (take (16 * i) s) ∙ front

    pub masked_length : length l ≡ length s
    masked_length =
        ap length inv ∙ length-append (ctr f c₀ (take (16 * i) s)) (drop (16 * i) s) ∙ omega (arith, masked_front, length-drop (16 * i) s)

    pub masked_rest : drop (16 * i) l ≡ drop (16 * i) s
    masked_rest = ap (drop (16 * i)) inv ∙ drop_at (ctr f c₀ (take (16 * i) s)) (drop (16 * i) s) (16 * i) masked_front

    -- n blocks more, of which v is the result, by the counter block c
    pub masked_more : (n m at k : ℕ) {c v l' : List ℕ} → at ≡ 16 * i → k ≡ 16 * n → m ≡ i + n → 16 * m ≤ length s → c ≡ counter_at c₀ i
        → v ≡ ctr f c (take k (drop at l)) → l' ≡ take at l ++ (v ++ drop k (drop at l)) → Masked f c₀ s m l'
    masked_more n m at k {c} {v} {l'} ea ek em more counter made left =
        let part = take (16 * n) (drop (16 * i) s) in
        let sum : 16 * i + 16 * n ≡ 16 * m = omega arith in
        let done = ctr f c₀ (take (16 * i) s) in
        let before : take at l ≡ done = ap₂ take ea inv ∙ take_at done (drop (16 * i) s) (16 * i) masked_front in
        let rest : drop at l ≡ drop (16 * i) s = ap (λ (j : ℕ). drop j l) ea ∙ masked_rest in
        let behind : drop k (drop at l) ≡ drop (16 * m) s = ap₂ drop ek rest ∙ drop-drop (16 * n) (16 * i) s ∙ ap (λ (j : ℕ). drop j s) sum in
        let value : v ≡ ctr f (counter_at c₀ i) part = made ∙ ap₂ (ctr f) counter (ap₂ take ek rest) in
        left
        ∙ ap₂ (λ (x y : List ℕ). x ++ y) before (ap₂ (λ (x y : List ℕ). x ++ y) value behind)
        ∙ sym (append_assoc done (ctr f (counter_at c₀ i) part) (drop (16 * m) s))
        ∙ ap (λ (x : List ℕ). x ++ drop (16 * m) s)
        (sym (ctr-append f whole c₀ i (take (16 * i) s) part front)
        ∙ ap (ctr f c₀) (sym (take-add (16 * i) (16 * n) s) ∙ ap (λ (j : ℕ). take j s) sum))

    -- one block more, stored in its place
    pub masked_stored : {c b k v l' : List ℕ} → Bytes c → 16 * (i + 1) ≤ length s → c ≡ counter_at c₀ i → b ≡ take 16 (drop (16 * i) l) → k ≡ f c
        → v ≡ xor_bytes b k → l' ≡ sets l (16 * i) v → Masked f c₀ s (i + 1) l'
    masked_stored {c} {b} {k} {v} {l'} bytes more at read key made stored =
        let block = take 16 (drop (16 * i) l) in
        let room : 16 ≤ length (drop (16 * i) l) = simp length-drop (omega (arith, masked_length)) in
        let sized : length block ≡ 16 = length-take-le 16 (drop (16 * i) l) room in
        let value : v ≡ ctr f c block = made ∙ ap₂ xor_bytes read key ∙ sym (ctr_block f whole c bytes block (omega arith)) in
        let long : length v ≡ 16 = ap length value ∙ ctr-length f whole c block ∙ sized in
        masked_more 1 (i + 1) (16 * i) 16 refl refl refl more at value
        (stored ∙ sets-eq v l (16 * i) (omega (arith, masked_length)) ∙ append_assoc (take (16 * i) l) v (drop (16 * i + length v) l)
        ∙ ap (λ (t : List ℕ). take (16 * i) l ++ (v ++ t)) (sym (drop-drop (length v) (16 * i) l) ∙ ap (λ (n : ℕ). drop n (drop (16 * i) l)) long))

    -- all that is left, of which v is the result
    pub masked_end : (at k : ℕ) {c v l' : List ℕ} → at ≡ 16 * i → k ≡ length l - at → c ≡ counter_at c₀ i → v ≡ ctr f c (take k (drop at l))
        → l' ≡ take at l ++ (v ++ drop k (drop at l)) → l' ≡ ctr f c₀ s
    masked_end at k {c} {v} {l'} ea ek counter made left =
        let done = ctr f c₀ (take (16 * i) s) in
        let before : take at l ≡ done = ap₂ take ea inv ∙ take_at done (drop (16 * i) s) (16 * i) masked_front in
        let rest : drop at l ≡ drop (16 * i) s = ap (λ (j : ℕ). drop j l) ea ∙ masked_rest in
        let size : length (drop at l) ≡ k = length-drop at l ∙ sym ek in
        let none : drop k (drop at l) ≡ [] = no_elements (drop k (drop at l)) (length-drop k (drop at l) ∙ omega arith) in
        let value : v ≡ ctr f (counter_at c₀ i) (drop (16 * i) s) = made ∙ ap₂ (ctr f) counter (take_all k (drop at l) (omega arith) ∙ rest) in
        left
        ∙ ap₂ (λ (x y : List ℕ). x ++ y) before (ap₂ (λ (x y : List ℕ). x ++ y) value none ∙ append-nil (ctr f (counter_at c₀ i) (drop (16 * i) s)))
        ∙ sym (ctr-append f whole c₀ i (take (16 * i) s) (drop (16 * i) s) front)
        ∙ ap (ctr f c₀) (take-append-drop (16 * i) s)

    pub masked_all : length s ≡ 16 * i → l ≡ ctr f c₀ s
    masked_all e =
        inv
        ∙ ap₂ (λ (x y : List ℕ). ctr f c₀ x ++ y) (take_all (16 * i) s (omega arith)) (no_elements (drop (16 * i) s) (length-drop (16 * i) s ∙ omega arith))
        ∙ append-nil (ctr f c₀ s)
