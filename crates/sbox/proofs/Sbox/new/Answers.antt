-- The table's rule is one test, computed over all 256 entries.
-- Assumes nothing.
use Rattle.std.proofs.Common.{List, ℕ, Bool, get_or}
use lib.Dec.{eqb, eqb→eq}
use Rattle.bits.proofs.Table.{entry}
use Rattle.bits.specs.Polynomials.{multiply_bits}
use Rattle.fips197.specs.Field.{xtime}
use Rattle.fips197.specs.Sbox.{sbox, affine, byte_of_bits, bit, inverse, next, square}
use Rattle.sbox.proofs.Sbox.new.Lts as lts
use Rattle.sbox.proofs.Sbox.new.Reads as reads
use Rattle.sbox.proofs.Sbox.new.Goals as goal

right : ℕ → ℕ → Bool
right b x = eqb x (sbox b)

pub invariant_of-result : goal.invariant_of-result
unfolding right sbox affine byte_of_bits bit inverse next square multiply_bits xtime
invariant_of-result c =
    let table : List ℕ = (lts.m4 reads.Pre reads.Post c.args).0.0 in
    record { is_sbox = λ b h. eqb→eq (get_or table b 0) (sbox b) (entry right table tt b h) }
