-- Change request (vii): counter mode over a buffer, by one IWKey. "on every machine the result equals the single form throughout": no feature is in it.
-- Assumes nothing.
use Rattle.std.specs.Prelude.{cond, List, ℕ, eqb, length}
use Rattle.std.proofs.Math.Option.{Option, none, some}
use Rattle.fips197.specs.declared.Direction.TheVariants.{Encrypt}
use Rattle.fips197.specs.declared.KeySize.{KeySize}
use Rattle.fips197.specs.declared.KeySize.TheVariants.{Aes128, Aes256}
use Rattle.isa.specs.Ranges.{handle_length}
use Rattle.sp800_38a.specs.Counter.{ctr}
use Rattle.model.specs.Cpu.{cpl, with_zf}
use Rattle.model.specs.Calls.{CounterCall}
use Rattle.model.specs.Instructions.{opened_for, aes}
use Rattle.model.specs.declared.IwKey.{IwKey}

-- a CPU record and a buffer after a counter call
pub record Counted : Type 0 where
  pub cpu : List ℕ
  pub buffer : List ℕ

-- "handle with its size (48 or 64)": the single form is AESENC128KL or AESENC256KL
abbrev pub size_of : List ℕ → KeySize
size_of handle = cond (eqb (length handle) (handle_length Aes128)) Aes128 Aes256

-- "A handle that the encrypting use would fail leaves the buffer unchanged"; "It XORs the buffer with the encrypted counters, counted big-endian modulo 2^128."
-- "The CPU record changes in its flags only, set as by a use."
abbrev pub counted_by : KeySize → Option (List ℕ) → CounterCall → Counted
counted_by size none c = record { cpu = with_zf 1 c.cpu; buffer = c.buffer }
counted_by size (some key) c = record { cpu = with_zf 0 c.cpu; buffer = ctr (aes Encrypt size key) c.counter c.buffer }

-- "An empty buffer still has its handle opened.": nothing here asks for the buffer's length
unfoldable pub counted : CounterCall → IwKey → Counted
counted c k = counted_by (size_of c.handle) (opened_for k (cpl c.cpu) (size_of c.handle) Encrypt c.handle) c
