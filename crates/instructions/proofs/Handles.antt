-- A handle in memory, block by block, and the use of the one that stands where its operand says.
-- Assumes nothing.
use Rattle.std.proofs.Common.{◌≡◌, ℕ, ◌+◌, List, ◌++◌, sym, ap, ◌∙◌, ap₂}
use Rattle.bits.proofs.Lists.{part_add}
use Rattle.isa.specs.Ranges.{handle_length}
use Rattle.model.specs.Cpu.{cpl}
use Rattle.model.specs.Forms.{Form, handle_address}
use Rattle.model.specs.Instructions.{opened_for, ciphered, used}
use Rattle.model.specs.Numbers.{part}
use Rattle.model.specs.declared.IwKey.{IwKey}

-- AAD, tag and ciphertext, one after another
pub three_parts : (s : List ℕ) (at n : ℕ) {a t c : List ℕ} → a ≡ part 16 at s → t ≡ part 16 (at + 16) s → c ≡ part n (at + 32) s → a ++ t ++ c ≡ part (32 + n) at s
three_parts s at n p q r =
    ap₂ (λ (x y : List ℕ). x ++ y) (ap₂ (λ (x y : List ℕ). x ++ y) p q ∙ sym (part_add s at 16 16)) r ∙ sym (part_add s at 32 n)

-- a use reads the handle that its operand names
pub used_read : (memory : List ℕ) (at bytes : ℕ) (f : Form) (k : IwKey) (cpu h : List ℕ) → h ≡ part (handle_length f.size) at memory
    → at ≡ (handle_address cpu bytes f.handle).linear
    → ciphered f.direction f.size f.blocks (opened_for k (cpl cpu) f.size f.direction h) cpu ≡ used memory bytes f k cpu
unfolding used
used_read memory at bytes f k cpu h e p =
    ap (λ (x : List ℕ). ciphered f.direction f.size f.blocks (opened_for k (cpl cpu) f.size f.direction x) cpu)
    (e ∙ ap (λ (a : ℕ). part (handle_length f.size) a memory) p)
