-- The scope, "Twelve settled examples": K1 to K12 hold; so do those of change requests (ii), (v), (vi) and (vii).
-- Assumes nothing.
use mathlib.Core.Path.{◌≡◌, refl, ap}
use mathlib.Core.List.{List, [], ◌∷◌}
use mathlib.Core.Option.{Option, none, some}
use Prim.Native.Nat.{ℕ, zero, suc, ◌+◌, ◌*◌}
use native.Mathlib.Omega.{arith}
use lib.ListN.{length, get_or, take, drop, replicate, length-replicate}
use lib.Seq.{sets}
use Rattle.fips197.specs.declared.Direction.TheVariants.{Encrypt}
use Rattle.fips197.specs.declared.KeySize.TheVariants.{Aes256}
use Rattle.handle.specs.Format.{aad}
use Rattle.handle.specs.Wrap.{wrap_key}
use Rattle.handle.proofs.Aad.{aad-length}
use Rattle.handle.proofs.Wrap.{wrap_length}
use Rattle.isa.specs.Address.{effective_address}
use Rattle.isa.specs.Decode.{decode_at, displacement32, displacement_at, index_of, sib_of, modrm_of, instruction_of}
use Rattle.isa.specs.Ranges.{some_not_canonical, some_outside}
use Rattle.model.specs.Records.{zero_key}
use Rattle.model.specs.Cpu as Cpu
use Rattle.model.specs.Cpu.{xmm_at, xmm, register, with_xmm, with_register, with_zf}
use Rattle.model.specs.Validity.{valid_processors, valid}
use Rattle.model.specs.Refusals.{tests, refusal}
use Rattle.model.specs.Instructions.{encoded, opened_for, aes, ciphered, used, loaded_key, advanced, executed}
use Rattle.model.specs.Counter.{counted}
use Rattle.model.specs.Backup.{copy_out, settled, with_taken, woken}
use Rattle.model.specs.Execution.{perform, call}
use Rattle.model.specs.declared.IwKey.{IwKey}
use Rattle.model.specs.Examples.{AllFulfilled, rax, rip, cpu, random_key, xmm3_cpu, examples, address_size_examples, taken_examples, idle_examples, counter_examples}
use Rattle.model.proofs.Uses.{aes-length}

-- ---- the examples that encode: what is seen of them does not depend on the tag and the ciphertext

-- a list of n elements, one by one
abbrev pub spelled : ℕ → List ℕ → List ℕ
spelled zero l = []
spelled (suc n) l = get_or l 0 0 ∷ spelled n (drop 1 l)

pub spelled-eq : (n : ℕ) (l : List ℕ) → length l ≡ n → l ≡ spelled n l
spelled-eq zero [] h = refl
spelled-eq zero (x ∷ l) h = absurd (omega arith)
spelled-eq (suc n) [] h = absurd (omega arith)
spelled-eq (suc n) (x ∷ l) h = ap (λ (m : List ℕ). x ∷ m) (spelled-eq n l (omega arith))

-- the handle of an all-zero key of n blocks, by type and restrictions
module _ (k : IwKey) (t r n : ℕ) where
  abbrev handle : List ℕ
  handle = wrap_key k.integrity k.encryption (aad t r) (replicate (16 * n) 0)

  handle-eq : handle ≡ spelled (32 + 16 * n) handle
  handle-eq =
      spelled-eq (32 + 16 * n) handle
      (wrap_length k.integrity k.encryption (aad t r) (replicate (16 * n) 0) n (aad-length t r) (simp length-replicate))

-- the CPU record after an encode, over the handle and the number in the destination
abbrev stored : List ℕ → ℕ → List ℕ → List ℕ
stored c x h = advanced 5 (with_zf 0 (with_register 1 x (sets (sets c (xmm_at 0) h) (xmm_at 4) (replicate (3 * 16) 0))))

k8 : take 16 (stored (rax 7) 0 (handle zero_key 0 7 1)) ≡ 0x07 ∷ replicate 15 0
unfolding wrap_key aad
k8 = ap (λ (h : List ℕ). take 16 (stored (rax 7) 0 h)) (handle-eq zero_key 0 7 1)

k9 : take 16 (stored (rax 1) 0 (handle zero_key 1 1 2)) ≡ 0x01 ∷ 0x00 ∷ 0x00 ∷ 0x01 ∷ replicate 12 0
unfolding wrap_key aad
k9 = ap (λ (h : List ℕ). take 16 (stored (rax 1) 0 h)) (handle-eq zero_key 1 1 2)

k11 : register 1 (stored cpu 3 (handle random_key 0 0 1)) ≡ 3
k11 = ap (λ (h : List ℕ). register 1 (stored cpu 3 h)) (handle-eq random_key 0 0 1)

encode_keeps : xmm 3 (stored xmm3_cpu 0 (handle zero_key 0 0 1)) ≡ replicate 16 0x33
encode_keeps = ap (λ (h : List ℕ). xmm 3 (stored xmm3_cpu 0 h)) (handle-eq zero_key 0 0 1)

-- ---- RIP after a use, whether its handle gives a key or not

k6 : (o : Option (List ℕ)) → Cpu.rip (advanced 10 (ciphered Encrypt Aes256 (8 ∷ []) o (rip 0))) ≡ 10
k6 none = refl
k6 (some key) =
    let b = aes Encrypt Aes256 key (xmm 8 (rip 0)) in
    ap (λ (x : List ℕ). Cpu.rip (advanced 10 (with_zf 0 (with_xmm 8 x (rip 0))))) (spelled-eq 16 b (aes-length Encrypt Aes256 key (xmm 8 (rip 0))))

-- ---- all

infixr 67 ◌also◌
◌also◌ : {A B : Type 0} → A → B → A × B
a also b = (a, b)

pub all_hold : AllFulfilled examples
unfolding call valid valid_processors refusal tests perform executed encoded used loaded_key copy_out settled woken
    decode_at modrm_of sib_of index_of displacement_at displacement32 instruction_of effective_address some_not_canonical some_outside
all_hold =
    -- K1
    (refl, tt) also (refl, tt) also
    -- K2
    (refl, tt) also (refl, tt) also
    -- K3
    (refl, tt) also
    -- K4
    (refl, tt) also (refl, refl) also
    -- K5
    (refl, tt) also
    -- K6
    (refl, refl) also (refl, tt) also
    -- K7
    (refl, refl) also
    -- K8
    (refl, k8) also (refl, tt) also
    -- K9
    (refl, k9) also
    -- K10
    (refl, tt) also (refl, refl) also
    -- K11
    (refl, k11) also
    -- K12
    (refl, tt) also (refl, tt) also
    -- beside the twelve
    (refl, tt) also (refl, tt) also
    -- LOCK, TS, an encode at CPL 3, the halves of the encryption key
    (refl, tt) also (refl, tt) also (refl, tt) also (refl, refl) also
    -- XMM3
    (refl, encode_keeps) also
    -- two refusals, a zero field, LOADIWKEY's EAX, a backup register
    (refl, tt) also (refl, tt) also (refl, tt) also (refl, tt) also (refl, tt) also (refl, tt) also (refl, tt) also
    -- RFLAGS, RIP, the backup status
    (refl, refl) also (refl, k6 (opened_for zero_key 0 Aes256 Encrypt (replicate 64 0))) also (refl, refl) also (refl, refl) also
    tt

pub address_size_hold : AllFulfilled address_size_examples
unfolding call valid valid_processors refusal tests perform executed encoded used loaded_key
    decode_at modrm_of sib_of index_of displacement_at displacement32 instruction_of effective_address some_not_canonical some_outside
address_size_hold =
    -- RAX
    (refl, tt) also (refl, tt) also (refl, tt) also (refl, tt) also (refl, refl) also (refl, tt) also
    -- K2, K3, K6
    (refl, tt) also (refl, tt) also (refl, refl) also (refl, refl) also
    -- registers
    (refl, refl) also (refl, refl) also (refl, tt) also
    -- the grammar
    (refl, tt) also (refl, tt) also (refl, tt) also (refl, tt) also (refl, tt) also (refl, tt) also (refl, tt) also
    tt

pub taken_hold : AllFulfilled taken_examples
unfolding call valid valid_processors refusal tests perform copy_out settled with_taken woken
taken_hold =
    -- pending, nothing pending, 0xD91, sleep
    (refl, refl) also (refl, refl) also (refl, refl) also (refl, refl) also
    (refl, refl) also (refl, refl) also
    (refl, refl) also (refl, refl) also (refl, refl) also (refl, refl) also
    (refl, refl) also
    tt

pub idle_hold : AllFulfilled idle_examples
unfolding call valid valid_processors refusal tests perform executed loaded_key
    decode_at modrm_of sib_of index_of displacement_at displacement32 instruction_of
idle_hold =
    -- done
    (refl, refl) also (refl, refl) also (refl, refl) also (refl, refl) also (refl, refl) also
    -- refused
    (refl, tt) also (refl, tt) also (refl, tt) also (refl, tt) also (refl, tt) also (refl, tt) also
    tt

pub counter_hold : AllFulfilled counter_examples
unfolding call valid valid_processors refusal tests perform counted opened_for
counter_hold =
    -- taken
    (refl, tt) also (refl, tt) also (refl, tt) also
    -- 18, and its order
    (refl, tt) also (refl, tt) also (refl, tt) also (refl, tt) also (refl, tt) also (refl, tt) also
    (refl, tt) also (refl, tt) also (refl, tt) also (refl, tt) also (refl, tt) also (refl, tt) also
    -- 10 and 11
    (refl, tt) also (refl, tt) also (refl, tt) also (refl, tt) also (refl, tt) also (refl, tt) also (refl, tt) also
    -- the wide bit
    (refl, tt) also
    -- handles that do not open
    (refl, refl) also (refl, refl) also (refl, refl) also (refl, refl) also
    -- refused; the whole CPU record
    (refl, refl) also (refl, refl) also
    tt
