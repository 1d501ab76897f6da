-- One byte more is written after those before it.
-- Assumes nothing.
use Rattle.std.proofs.Common.{rules, ◌≡◌, ◌+◌, ◌-◌, ◌^◌, ◌<◌, ◌++◌, [], ℕ, List, false, take, length, get_or, sym, ap, ◌∙◌}
use Rattle.std.specs.Fmt.{padded_integral, format_spec, digits}
use Rattle.std.proofs.lemmas.List.{take_more, flat_map_more}
use Rattle.std.proofs.lemmas.Fmt.{hex_byte}
use Rattle.std.proofs.Output.{has_written_append, has_written_of_eq}
use Rattle.line.specs.Line.{shown_byte, shown_bytes}
use Rattle.line.proofs.HexDisplay.fmt.Goals as goal

more : (xs : List ℕ) (i : ℕ) → i < length xs → get_or xs i 0 < 256
    → shown_bytes (take i xs) ++ padded_integral (format_spec 32 0 4 2 (2 ^ 64 - 1)) false [] (digits 16 false (get_or xs i 0)) ≡ shown_bytes (take (i + 1) xs)
more xs i inside small =
    ap (λ l. shown_bytes (take i xs) ++ l) (hex_byte false (get_or xs i 0) small)
    ∙ flat_map_more shown_byte [] (take i xs) (get_or xs i 0)
    ∙ sym (ap shown_bytes (take_more xs i 0 inside))

pub loop-byte-preserved : goal.loop-byte-preserved
loop-byte-preserved g c p =
    let xs = c.args.self.now.0.now in
    let i = c.loop-byte.byte-index in
    has_written_of_eq _ _ _ _ _ (more xs i c.loop-byte-test.true (search rules))
    (has_written_append _ _ _ _ (padded_integral (format_spec 32 0 4 2 (2 ^ 64 - 1)) false [] (digits 16 false (get_or xs i 0))) _ (c.loop-byte.invariant p) (search rules))
