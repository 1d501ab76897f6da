-- What a use leaves of its blocks, put back into the CPU record.
-- Assumes nothing.
use Rattle.std.proofs.Common.{◌≡◌, ◌∙◌, ℕ, ◌*◌, ◌/◌, ◌%◌, ◌<◌, cond, List, [], ◌∷◌, ◌++◌, length, take, drop, sym, ap, ap₂, arith}
use Rattle.std.proofs.Math.Option.{Option, none, some}
use lib.ListN.{take-append-drop}
use lib.Seq.{length-take-le, take-length}
use Rattle.std.proofs.lemmas.List.{drop_all, append-nil}
use Rattle.bits.specs.Blocks.{map_blocks}
use Rattle.fips197.specs.declared.Direction.{Direction}
use Rattle.fips197.specs.declared.KeySize.{KeySize}
use Rattle.model.specs.Cpu.{cpu_size, xmm, with_xmm, with_zf}
use Rattle.model.specs.Instructions.{aes, ciphered}
use Rattle.model.proofs.Parts.{same_part}
use Rattle.model.proofs.Uses.{aes-length}
use Rattle.aeskl.specs.Meaning.{Used, used_by}
use Rattle.aeskl.proofs.Wide.{wide_done}

-- a block alone
pub one_block : (f : List ℕ → List ℕ) (b : List ℕ) → length b ≡ 16 → map_blocks f (length b / 16) b ≡ f b
one_block f b e =
    let front : take 16 b ≡ b = ap (λ (n : ℕ). take n b) (sym e) ∙ take-length b in
    let rest : drop 16 b ≡ [] = drop_all 16 b (omega (arith, e)) in
    ap (λ (n : ℕ). map_blocks f (n / 16) b) e ∙ ap₂ (λ (x y : List ℕ). f x ++ y) front rest ∙ append-nil (f b)

module _ (direction : Direction) (size : KeySize) (cpu : List ℕ) (whole : length cpu ≡ cpu_size) where
  same_xmm : (n : ℕ) → with_xmm n (xmm n cpu) cpu ≡ cpu
  same_xmm n =
      let few : n % 16 < 16 = omega arith in
      same_part cpu (16 * (n % 16)) 16 (omega arith)

  -- one block, in its register
  pub single_left : (n : ℕ) (o : Option (List ℕ)) (u : Used) (b : List ℕ) → length b ≡ 16 → b ≡ xmm n cpu
      → u ≡ used_by (λ key. map_blocks (aes direction size key) (length b / 16)) o b
      → with_zf (cond u.zf 1 0) (with_xmm n u.blocks cpu) ≡ ciphered direction size (n ∷ []) o cpu
  single_left n o u b l w e = ap (λ (x : Used). with_zf (cond x.zf 1 0) (with_xmm n x.blocks cpu)) e ∙ by o
    where
      f : List ℕ → List ℕ → List ℕ
      f key x = map_blocks (aes direction size key) (length b / 16) x

      by : (o : Option (List ℕ)) → with_zf (cond (used_by f o b).zf 1 0) (with_xmm n (used_by f o b).blocks cpu) ≡ ciphered direction size (n ∷ []) o cpu
      by none = ap (λ (x : List ℕ). with_zf 1 (with_xmm n x cpu)) w ∙ ap (with_zf 1) (same_xmm n)
      by (some key) = ap (λ (x : List ℕ). with_zf 0 (with_xmm n x cpu)) (one_block (aes direction size key) b l ∙ ap (aes direction size key) w)

  -- eight blocks, in front of the rest of the record
  pub wide_left : (o : Option (List ℕ)) (u : Used) → u ≡ used_by (λ key. map_blocks (aes direction size key) (length (take 128 cpu) / 16)) o (take 128 cpu)
      → with_zf (cond u.zf 1 0) (u.blocks ++ drop 128 cpu) ≡ ciphered direction size (0 ∷ 1 ∷ 2 ∷ 3 ∷ 4 ∷ 5 ∷ 6 ∷ 7 ∷ []) o cpu
  wide_left o u e = ap (λ (x : Used). with_zf (cond x.zf 1 0) (x.blocks ++ drop 128 cpu)) e ∙ by o
    where
      f : List ℕ → List ℕ → List ℕ
      f key b = map_blocks (aes direction size key) (length (take 128 cpu) / 16) b

      eight : length (take 128 cpu) ≡ 128
      eight = length-take-le 128 cpu (omega arith)

      by : (o : Option (List ℕ))
          → with_zf (cond (used_by f o (take 128 cpu)).zf 1 0) ((used_by f o (take 128 cpu)).blocks ++ drop 128 cpu)
          ≡ ciphered direction size (0 ∷ 1 ∷ 2 ∷ 3 ∷ 4 ∷ 5 ∷ 6 ∷ 7 ∷ []) o cpu
      by none = ap (with_zf 1) (take-append-drop 128 cpu)
      by (some key) =
          ap (λ (n : ℕ). with_zf 0 (map_blocks (aes direction size key) (n / 16) (take 128 cpu) ++ drop 128 cpu)) eight
          ∙ ap (with_zf 0) (wide_done (aes direction size key) (aes-length direction size key) cpu whole)
