-- The words below i are the schedule so far, and those behind it stay.
-- Assumes nothing.
use Rattle.std.proofs.Common.{◌≡◌, ◌+◌, ◌-◌, ◌*◌, length, take, drop}
use Rattle.bits.specs.Words.{le_words}
use Rattle.fips197.specs.KeyExpansion.{expanded}
use Rattle.aes_key.proofs.fill.Given as goal

abbrev pub invariant-loop-i : goal.invariant-loop-i
invariant-loop-i g l =
    record {
      size : length l.w ≡ 60;
      words : le_words 4 (take l.i l.w) ≡ expanded g.row.NK (le_words 4 (take g.row.NK l.initial.w)) (l.i - g.row.NK);
      rest : drop (4 * (g.row.NK + 7)) l.w ≡ drop (4 * (g.row.NK + 7)) l.initial.w;
    }
