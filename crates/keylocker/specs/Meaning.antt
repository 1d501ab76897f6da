-- What a C call gives: its number, and what it leaves in the lent bytes.
-- Assumes nothing.
use Rattle.std.specs.Prelude.{List, ℕ, Result, Ok, Err}
use Rattle.model.specs.Lent.{Lent}
use Rattle.model.specs.Layout.{machine_bytes}
use Rattle.model.specs.declared.Machine.{Machine}
use Rattle.refusal.specs.Numbers.{answer_of}
use Rattle.refusal.specs.declared.Refusal.{Refusal}

-- the number that is returned, and the machine's bytes at exit
pub record Called : Type 0 where
  pub number : ℕ
  pub block : List ℕ

abbrev pub called : ℕ → List ℕ → Called
called n b = record { number = n; block = b }

-- a call on a lent block
abbrev pub called_of : Lent → Called
called_of l = called l.answer.number l.block

-- the machine after a call goes back into its bytes, unless the call was refused
abbrev pub block_left : {A : Type 0} → List ℕ → Machine → Result A Refusal → List ℕ
block_left block m (Ok x) = machine_bytes m
block_left block m (Err e) = block

abbrev pub finished : {A : Type 0} → List ℕ → Machine → Result A Refusal → Called
finished block m a = called (answer_of a) (block_left block m a)
