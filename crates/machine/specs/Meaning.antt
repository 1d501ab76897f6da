-- What a call gives.
-- Assumes nothing.
use Rattle.std.specs.Prelude.{Result, Ok, Err}
use Rattle.refusal.specs.declared.Refusal.{Refusal}

-- the value that a call gives, and what stands for it where the call is refused
abbrev pub given : {A : Type 0} → A → Result A Refusal → A
given d (Ok x) = x
given d (Err e) = d
