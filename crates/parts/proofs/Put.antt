-- A part copied into place is the same as its bytes stored one after the other.
-- Assumes nothing.
use Rattle.std.proofs.Common.{◌≡◌, ◌∙◌, ◌+◌, ◌-◌, ◌≤◌, ◌++◌, List, ℕ, length, take, drop, sym, ap, append_assoc, arith}
use Rattle.std.proofs.lemmas.List.Edits.{sets}
use Rattle.std.proofs.Math.Seq.{sets-eq, drop-drop}
use borrow.Rule.Slice.PartMut.{put_mid}

pub put_mid_sets : (at k : ℕ) (old new : List ℕ) → length new ≡ k → at + k ≤ length old → put_mid at (at + k - at) old new ≡ sets old at new
put_mid_sets at k old new size fits =
    let inside : at + length new ≤ length old = omega arith in
    let behind : drop (at + k - at) (drop at old) ≡ drop (at + length new) old = drop-drop (at + k - at) at old ∙ ap (λ (n : ℕ). drop n old) (omega arith) in
    ap (λ (t : List ℕ). take at old ++ (new ++ t)) behind ∙ sym (append_assoc (take at old) new (drop (at + length new) old)) ∙ sym (sets-eq new old at inside)
