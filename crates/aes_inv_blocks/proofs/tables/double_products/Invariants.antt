-- The products below i are right: the first k were, and each new one is the sum of two.
-- Assumes nothing.
use mathlib.Core.Path.{◌≡◌}
use mathlib.Core.List.{List}
use Prim.Native.Nat.{ℕ, ◌^◌}
use lib.ListN.{length}
use Rattle.bits.specs.Words.{le_bytes}
use Rattle.aes_inv_blocks.specs.Tables.{Products}
use Rattle.aes_blocks.specs.Tables.{part}
use Rattle.aes_inv_blocks.proofs.tables.double_products.Given as goal

abbrev pub invariant-loop-i : goal.invariant-loop-i
invariant-loop-i l =
    (length l.products ≡ 256)
    × ((q : List ℕ) (e : ℕ) → l.k ≡ 2 ^ e → le_bytes 4 l.x ≡ part q l.k 0 → Products q l.k l.initial.products → Products q l.i l.products)
