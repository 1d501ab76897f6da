use Rattle.std.proofs.Common.{◌≡◌, ◌∙◌, ◌<◌, ◌+◌, List, ℕ, length, get_or, set, sym, ap, arith, rules}
use borrow.Author.Count.{below_more}
use lib.ListN.{length-set}
use lib.Seq.{get_or-set_same, get_or-set_other}
use Rattle.fips197.specs.Sbox.{sbox, inv_sbox, SboxTable}
use Rattle.fips197.proofs.Sbox.{inv_sbox_lem, sbox_inv, inv_sbox_byte}
use Rattle.sbox.proofs.inverse.inverse_table.Goals as goal

-- the S-box sends two bytes to two places
apart : (k i : ℕ) → k < i → i < 256 → sbox k ≡ sbox i → ⊥
apart k i p h q =
    let e : k ≡ i = sym (inv_sbox_lem k (omega arith)) ∙ ap inv_sbox q ∙ inv_sbox_lem i h in
    omega arith

-- one byte more is put where the S-box sends it
placed : (s r : List ℕ) (i x : ℕ) → i < 256 → length r ≡ 256 → x < 256 → (SboxTable s → x ≡ sbox i)
    → (SboxTable s → (k : ℕ) → k < i → get_or r (sbox k) 0 ≡ k) → SboxTable s → (k : ℕ) → k < i + 1 → get_or (set r x i) (sbox k) 0 ≡ k
placed s r i x inside long room at old rule =
    let e = at rule in
    below_more (λ k. get_or (set r x i) (sbox k) 0 ≡ k) i
    (λ k p.
    let far : sbox k ≡ x → ⊥ = λ q. apart k i p inside (q ∙ e) in
    get_or-set_other r x (sbox k) i 0 far ∙ old rule k p)
    (ap (λ (y : ℕ). get_or (set r x i) y 0) (sym e) ∙ get_or-set_same r x i 0 (omega arith))

pub loop-i-preserved : goal.loop-i-preserved
loop-i-preserved c =
    let r = c.loop-i.inverse in
    let i = c.loop-i.i in
    let inv = c.loop-i.invariant in
    let inside : i < 256 = omega arith in
    record {
      size = length-set r _ _ ∙ inv.size;
      filled = placed c.args.sbox.now r i (get_or c.args.sbox.now i 0) inside inv.size (search rules) (λ rule. rule i inside) inv.filled;
    }

pub returns : goal.returns
returns c rule b h =
    ap (λ (y : ℕ). get_or c.loop-i.inverse y 0) (sym (sbox_inv b h)) ∙ c.loop-i.invariant.filled rule (inv_sbox b) (omega (arith, inv_sbox_byte b))
