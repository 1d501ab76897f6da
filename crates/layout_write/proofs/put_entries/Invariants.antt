-- The entries below i are written.
-- Assumes nothing.
use Rattle.std.proofs.Common.{◌≡◌, ◌*◌, length, take}
use Rattle.std.proofs.lemmas.List.Edits.{sets}
use Rattle.model.specs.Layout.{entry_size, entries_bytes}
use Rattle.layout_write.proofs.put_entries.Given as goal

abbrev pub invariant-loop-i : goal.invariant-loop-i
invariant-loop-i l =
    record {
      same : length l.s ≡ length l.initial.s;
      size : length (entries_bytes (take l.i l.processors)) ≡ l.i * entry_size;
      bytes : l.s ≡ sets l.initial.s l.at (entries_bytes (take l.i l.processors));
    }
