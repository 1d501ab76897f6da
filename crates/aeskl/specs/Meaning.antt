-- A use over its blocks: what it leaves of them, and ZF.
-- Assumes nothing.
use Rattle.std.specs.Prelude.{Bool, true, false, List, ℕ}
use Rattle.std.proofs.Math.Option.{Option, none, some}

-- the bytes of a use's blocks after it, and ZF
pub record Used : Type 0 where
  pub zf : Bool
  pub blocks : List ℕ

abbrev pub used : Bool → List ℕ → Used
used z b = record { zf = z; blocks = b }

-- Intel 343965-001US 3.2 to 3.9: only where unwrapping hands out a key is a block touched, and ZF is 0; otherwise ZF is 1 and the blocks stay
abbrev pub used_by : (List ℕ → List ℕ → List ℕ) → Option (List ℕ) → List ℕ → Used
used_by f none b = record { zf = true; blocks = b }
used_by f (some key) b = record { zf = false; blocks = f key b }
