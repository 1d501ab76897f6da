-- The CPU record: what was written is read, and nothing else of what is asked for changes.
-- Assumes nothing.
use mathlib.Core.Path.{◌≡◌, ◌∙◌, refl, sym, ap, ap₂}
use mathlib.Core.Bool.{Bool, true, false, cond, not, ◌&&◌, ◌||◌}
use mathlib.Core.List.{List, [], ◌∷◌}
use Prim.Native.Nat.{ℕ, ◌+◌, ◌*◌, ◌^◌, ◌/◌, ◌%◌, ◌≤◌, ◌<◌}
use native.Mathlib.Omega.{arith}
use lib.Dec.{T, eqb, leb, ltb, ltb→lt}
use lib.ListN.{length, get_or, drop}
use lib.Seq.{sets, length-sets, get_or-drop}
use borrow.Author.Tests.{eqb-true, eqb-false, ltb-true, ltb-false, not-true}
use Rattle.bits.specs.Words.{le_bytes, le_value}
use Rattle.bits.proofs.Choice.{cond_off, and_left, and_right, T_true}
use Rattle.bits.proofs.Words.{le-length, le_bytes_lem, le_of_value, value_le}
use Rattle.model.specs.Numbers.{clear_bit, all_zero}
use Rattle.model.specs.Cpu.{xmm_at, rflags_at, rip_at, cpl_at, zeros_at, cpu_size, xmm, rflags, cpl, control, zero_field_set, zf, with_xmm, with_rip, six_cleared, flags, with_zf, map_xmm}
use Rattle.model.specs.Demand3.{member}
use Rattle.model.proofs.Flags.{flags_again}
use Rattle.model.proofs.Parts.{drop-sets, part_before, part_behind, part_filled, same_part}

-- ---- ZF

-- bit 6 is 0 where the six are cleared
pub six_cleared_lem : (x : ℕ) → six_cleared x / 2 ^ 6 % 2 ≡ 0
six_cleared_lem x =
    let a = clear_bit 6 (clear_bit 7 (clear_bit 11 x)) in
    let b = clear_bit 4 a in
    let c = clear_bit 2 b in
    ap (λ (n : ℕ). n % 2) (zeroth c ∙ two b ∙ four a) ∙ six (clear_bit 7 (clear_bit 11 x))
  where
    six : (x : ℕ) → clear_bit 6 x / 2 ^ 6 % 2 ≡ 0
    six x = omega arith

    four : (x : ℕ) → clear_bit 4 x / 2 ^ 6 ≡ x / 2 ^ 6
    four x = omega arith

    two : (x : ℕ) → clear_bit 2 x / 2 ^ 6 ≡ x / 2 ^ 6
    two x = omega arith

    zeroth : (x : ℕ) → clear_bit 0 x / 2 ^ 6 ≡ x / 2 ^ 6
    zeroth x = omega arith

flags-zf : (z x : ℕ) → z < 2 → flags z x / 2 ^ 6 % 2 ≡ z
flags-zf z x h = joined (six_cleared x) (six_cleared_lem x)
  where
    joined : (w : ℕ) → w / 2 ^ 6 % 2 ≡ 0 → (w + z * 2 ^ 6) / 2 ^ 6 % 2 ≡ z
    joined w e = omega arith

pub zf_written : (z : ℕ) (cpu : List ℕ) → z < 2 → length cpu ≡ cpu_size → zf (with_zf z cpu) ≡ z
zf_written z cpu h l =
    let y = flags z (rflags cpu) in
    let room : rflags_at + 8 ≤ length cpu = omega arith in
    ap (λ (b : List ℕ). le_value b / 2 ^ 6 % 2) (part_filled (le_bytes 8 y) cpu 8 rflags_at (le-length 8 y) room)
    ∙ ap (λ (v : ℕ). v / 2 ^ 6 % 2) (value_le 8 y)
    ∙ low y
    ∙ flags-zf z (rflags cpu) h
  where
    low : (y : ℕ) → y % 256 ^ 8 / 2 ^ 6 % 2 ≡ y / 2 ^ 6 % 2
    low y = omega arith

pub zf_rip : (x : ℕ) (cpu : List ℕ) → zf (with_rip x cpu) ≡ zf cpu
zf_rip x cpu =
    let b = le_bytes 8 x in
    let n : length b ≡ 8 = le-length 8 x in
    ap (λ (l : List ℕ). le_value l / 2 ^ 6 % 2) (part_behind b cpu 8 rflags_at rip_at (omega arith))

module _ (z : ℕ) (cpu : List ℕ) where
  abbrev flagged : List ℕ
  flagged = le_bytes 8 (flags z (rflags cpu))

  pub zf_again : z < 2 → length cpu ≡ cpu_size → with_zf z (with_zf z cpu) ≡ with_zf z cpu
  zf_again h l =
      let y = flags z (rflags cpu) in
      let room : rflags_at + 8 ≤ length cpu = omega arith in
      let told = part_filled flagged cpu 8 rflags_at (le-length 8 y) room in
      let value : rflags (with_zf z cpu) ≡ y % 256 ^ 8 = ap le_value told ∙ value_le 8 y in
      let same : flags z (rflags (with_zf z cpu)) ≡ le_value flagged =
      ap (flags z) value ∙ flags_again z (rflags cpu) h ∙ sym (value_le 8 y) in
      ap (λ (v : ℕ). sets (with_zf z cpu) rflags_at (le_bytes 8 v)) same
      ∙ ap (λ (n : ℕ). sets (with_zf z cpu) rflags_at (le_bytes n (le_value flagged))) (sym (le-length 8 y))
      ∙ ap (sets (with_zf z cpu) rflags_at) (le_of_value flagged (le_bytes_lem 8 y) ∙ sym told)
      ∙ same_part (with_zf z cpu) rflags_at 8 (omega (arith, length-sets cpu rflags_at flagged))

  -- what stands behind RFLAGS
  behind_zf : drop cpl_at (with_zf z cpu) ≡ drop cpl_at cpu
  behind_zf = drop-sets flagged cpu cpl_at rflags_at (omega (arith, le-length 8 (flags z (rflags cpu))))

  byte_zf : (i : ℕ) → get_or (with_zf z cpu) (cpl_at + i) 0 ≡ get_or cpu (cpl_at + i) 0
  byte_zf i = sym (get_or-drop cpl_at (with_zf z cpu) i 0) ∙ ap (λ (l : List ℕ). get_or l i 0) behind_zf ∙ get_or-drop cpl_at cpu i 0

  pub cpl-zf : cpl (with_zf z cpu) ≡ cpl cpu
  cpl-zf = byte_zf 0

  pub control-zf : control (with_zf z cpu) ≡ control cpu
  control-zf = byte_zf 1

  pub zeros_zf : zero_field_set (with_zf z cpu) ≡ zero_field_set cpu
  zeros_zf =
      ap₂ (λ (x : ℕ) (l : List ℕ). leb 16 x || not (all_zero l)) control-zf
      (part_behind flagged cpu 6 zeros_at rflags_at (omega (arith, le-length 8 (flags z (rflags cpu)))))

-- ---- XMM registers

-- stores behind the XMM registers leave them
xmm_behind : (i at : ℕ) (b cpu : List ℕ) → 16 * 16 ≤ at → xmm i (sets cpu at b) ≡ xmm i cpu
xmm_behind i at b cpu h = part_before b cpu 16 (xmm_at i) at (omega arith)

pub xmm-zf : (i z : ℕ) (cpu : List ℕ) → xmm i (with_zf z cpu) ≡ xmm i cpu
xmm-zf i z cpu = xmm_behind i rflags_at (le_bytes 8 (flags z (rflags cpu))) cpu (omega arith)

pub xmm_rip : (i x : ℕ) (cpu : List ℕ) → xmm i (with_rip x cpu) ≡ xmm i cpu
xmm_rip i x cpu = xmm_behind i rip_at (le_bytes 8 x) cpu (omega arith)

-- register numbers are below 16
module _ (i n : ℕ) (below : i < 16) (small : n < 16) (b cpu : List ℕ) (whole : length b ≡ 16) (l : length cpu ≡ cpu_size) where
  xmm_same : i ≡ n → xmm i (with_xmm n b cpu) ≡ b
  xmm_same e =
      ap (λ (k : ℕ). xmm k (with_xmm n b cpu)) e ∙ part_filled b cpu 16 (xmm_at n) whole (omega arith)

  xmm_other : (i ≡ n → ⊥) → xmm i (with_xmm n b cpu) ≡ xmm i cpu
  xmm_other e = go (ltb i n) refl
    where
      go : (t : Bool) → ltb i n ≡ t → xmm i (with_xmm n b cpu) ≡ xmm i cpu
      go true q = let r : i < n = ltb-true i n q in part_before b cpu 16 (xmm_at i) (xmm_at n) (omega arith)
      go false q =
          let r : n ≤ i = ltb-false i n q in
          part_behind b cpu 16 (xmm_at i) (xmm_at n) (omega (arith, e))

-- XMM registers below 16, none twice
abbrev pub registers : List ℕ → Bool
registers [] = true
registers (n ∷ l) = ltb n 16 && not (member n l) && registers l

pub mapped_length : (f : List ℕ → List ℕ) (l cpu : List ℕ) → length (map_xmm f l cpu) ≡ length cpu
mapped_length f [] cpu = refl
mapped_length f (n ∷ l) cpu = mapped_length f l (with_xmm n (f (xmm n cpu)) cpu) ∙ length-sets cpu (xmm_at n) (f (xmm n cpu))

-- f at each register of the list, and at no other
pub xmm_mapped : (f : List ℕ → List ℕ) → ((b : List ℕ) → length (f b) ≡ 16) → (l : List ℕ) → T (registers l)
    → (cpu : List ℕ) → length cpu ≡ cpu_size → (i : ℕ) → i < 16
    → xmm i (map_xmm f l cpu) ≡ cond (member i l) (f (xmm i cpu)) (xmm i cpu)
xmm_mapped f w [] t cpu e i h = refl
xmm_mapped f w (n ∷ l) t cpu e i h = xmm_mapped f w l rest after (length-sets cpu (xmm_at n) (f (xmm n cpu)) ∙ e) i h ∙ go (eqb i n) refl
  where
    after : List ℕ
    after = with_xmm n (f (xmm n cpu)) cpu

    front : T (ltb n 16 && not (member n l))
    front = and_left (ltb n 16 && not (member n l)) (registers l) t

    rest : T (registers l)
    rest = and_right (ltb n 16 && not (member n l)) (registers l) t

    small : n < 16
    small = ltb→lt n 16 (and_left (ltb n 16) (not (member n l)) front)

    once : member n l ≡ false
    once = not-true (member n l) (T_true (not (member n l)) (and_right (ltb n 16) (not (member n l)) front))

    go : (t : Bool) → eqb i n ≡ t
        → cond (member i l) (f (xmm i after)) (xmm i after) ≡ cond (t || member i l) (f (xmm i cpu)) (xmm i cpu)
    go true q =
        let s : i ≡ n = eqb-true i n q in
        cond_off (ap (λ (k : ℕ). member k l) s ∙ once) (f (xmm i after)) (xmm i after)
        ∙ xmm_same i n h small (f (xmm n cpu)) cpu (w (xmm n cpu)) e s
        ∙ ap (λ (k : ℕ). f (xmm k cpu)) (sym s)
    go false q =
        ap (λ (b : List ℕ). cond (member i l) (f b) b) (xmm_other i n h small (f (xmm n cpu)) cpu (w (xmm n cpu)) e (eqb-false i n q))
