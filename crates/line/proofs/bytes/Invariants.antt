-- What is left of the text still goes where it went at the start.
-- Assumes nothing.
use Rattle.std.proofs.Common.{◌≡◌, ◌≤◌, length, drop}
use Rattle.line.specs.Line.{bytes_of, filled}
use Rattle.line.proofs.bytes.Given as goal

abbrev pub invariant-loop-c : goal.invariant-loop-c
invariant-loop-c l = (length l.bytes ≡ 960) × (l.half ≤ 1920) × (filled l.half l.bytes (drop l.c-index l.text) ≡ bytes_of l.text)
