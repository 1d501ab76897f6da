-- What the struct of this crate stands for.
-- Assumes nothing.
use Rattle.std.specs.Prelude.{ℕ, List, ◌++◌}
use Rattle.sp800_38a.specs.Counter.{be_bytes}
use Rattle.ctr.specs.declared.counting.Counter.{Counter}

-- SP 800-38A appendix B.1: the 16 bytes of a counter block, highest first
abbrev pub counter_bytes : Counter → List ℕ
counter_bytes c = be_bytes 8 c.high ++ be_bytes 8 c.low
