-- A use of a handle that an encode gave, both under one IWKey: it works exactly when size, privilege and direction allow it. So does a counter call.
-- Assumes nothing.
use mathlib.Core.Path.{◌≡◌, ◌∙◌, refl, sym, ap, ap₂}
use mathlib.Core.Bool.{Bool, true, false, cond, not, ◌&&◌, ◌||◌, not-not, false≢true}
use mathlib.Core.List.{List}
use mathlib.Core.Option.{Option, none, some}
use Prim.Native.Nat.{ℕ, zero, suc, ◌+◌, ◌*◌, ◌^◌, ◌/◌, ◌%◌, ◌≤◌, ◌<◌}
use native.Mathlib.Nat.{zero-lt-suc}
use native.Mathlib.Omega.{arith}
use lib.Dec.{T, eqb, ltb, eqb-suc-zero}
use lib.ListN.{length, take, replicate}
use lib.Seq.{sets, take-length, take-take}
use borrow.Author.Tests.{lt-ltb, eqb-true}
use Rattle.fips197.specs.Aes.{encrypt, decrypt}
use Rattle.fips197.proofs.Undo.{encrypt-length, inv_cipher-length}
use Rattle.fips197.specs.KeyExpansion.{key_expansion}
use Rattle.handle.specs.Format.{aad, aad_of, restrictions}
use Rattle.handle.specs.Wrap.{unwrap_key}
use Rattle.handle.proofs.Aad.{aad-length, aad-key_type, aad-restrictions, aad_reserved}
use Rattle.handle.proofs.Wrap.{wrap_length, wrap_aad, unwrap_wrap}
use Rattle.fips197.specs.Sizes.{nk}
use Rattle.fips197.specs.declared.Direction.{Direction}
use Rattle.fips197.specs.declared.Direction.TheVariants.{Encrypt, Decrypt}
use Rattle.fips197.specs.declared.KeySize.{KeySize}
use Rattle.fips197.specs.declared.KeySize.TheVariants.{Aes128, Aes256}
use Rattle.isa.specs.Ranges.{handle_length}
use Rattle.isa.specs.declared.EncodeKey.{EncodeKey}
use Rattle.isa.proofs.Ranges.{length_few}
use Rattle.bits.specs.Words.{le_bytes}
use Rattle.sp800_38a.specs.Counter.{ctr}
use Rattle.isa.specs.Address.{next_rip}
use Rattle.model.specs.Numbers.{bit}
use Rattle.model.specs.Cpu.{xmm_at, register_at, rip_at, rflags_at, cpu_size, xmm, register, rip, rflags, cpl, zf, flags, with_zf, map_xmm}
use Rattle.model.specs.Forms.{Form, register_of, handle_read}
use Rattle.model.specs.Instructions.{type_of, key_from, encoded_handle, encoded, forbids, illegal, opened_for, aes, ciphered, used, advanced}
use Rattle.model.specs.Calls.{CounterCall}
use Rattle.model.specs.Counter.{Counted, size_of, counted_by, counted}
use Rattle.model.specs.Demand3.{Encode, Agree, direction_allows, permits, member}
use Rattle.model.specs.declared.IwKey.{IwKey}
use Rattle.model.proofs.Parts.{part_before, part_filled, part_length}
use Rattle.model.proofs.Cpu.{zf_written, zf_rip, xmm-zf, xmm_rip, registers, mapped_length, xmm_mapped}

-- ---- the handle in an encode's answer

-- a key of 16 or 32 bytes, in blocks
key_blocks : KeySize → ℕ
key_blocks Aes128 = 1
key_blocks Aes256 = 2

key_blocks_lem : (size : KeySize) → 4 * nk size ≡ 16 * key_blocks size
unfolding key_blocks
key_blocks_lem Aes128 = refl
key_blocks_lem Aes256 = refl

key_few : (size : KeySize) → 4 * nk size ≤ 32
key_few Aes128 = omega arith
key_few Aes256 = omega arith

-- ---- what the AAD forbids

-- bits 2:0 of the source are in the AAD
low_bit : (x : ℕ) → bit 0 (x % 8) ≡ bit 0 x
low_bit x = let p : x % 8 / 2 ^ 0 % 2 ≡ x / 2 ^ 0 % 2 = omega arith in ap (λ (n : ℕ). eqb n 1) p

direction_bit : (d : Direction) (x : ℕ) → forbids d (x % 8) ≡ not (direction_allows d x)
direction_bit Encrypt x =
    let p : x % 8 / 2 ^ 1 % 2 ≡ x / 2 ^ 1 % 2 = omega arith in ap (λ (n : ℕ). eqb n 1) p ∙ sym (not-not (bit 1 x))
direction_bit Decrypt x =
    let p : x % 8 / 2 ^ 2 % 2 ≡ x / 2 ^ 2 % 2 = omega arith in ap (λ (n : ℕ). eqb n 1) p ∙ sym (not-not (bit 2 x))

type_told : (s t : KeySize) → eqb (type_of s % 16) (type_of t) ≡ eqb (nk s) (nk t)
type_told Aes128 Aes128 = refl
type_told Aes128 Aes256 = refl
type_told Aes256 Aes128 = refl
type_told Aes256 Aes256 = refl

above_zero : (n : ℕ) → ltb 0 n ≡ not (eqb n 0)
above_zero zero = refl
above_zero (suc n) = lt-ltb 0 (suc n) (zero-lt-suc n) ∙ ap not (sym (eqb-suc-zero n))

sizes_told : (e : Encode) (c : ℕ) (used : KeySize) (direction : Direction) → permits e c used direction ≡ true → eqb (nk e.size) (nk used) ≡ true
sizes_told e c used direction q =
    first (eqb (nk e.size) (nk used)) (not (bit 0 e.source) || eqb c 0) (direction_allows direction e.source) q
  where
    first : (a b c : Bool) → (a && b && c) ≡ true → a ≡ true
    first true b c q = refl
    first false b c q = q

illegal_told : (e : Encode) (c : ℕ) (used : KeySize) (direction : Direction)
    → illegal c used direction (aad (type_of e.size) e.source) ≡ not (permits e c used direction)
illegal_told e c used direction =
    ap₂ (λ (r : Bool) (t : ℕ). r || not (eqb t (type_of used)) || bit 0 (restrictions a) && ltb 0 c || forbids direction (restrictions a))
    (aad_reserved (type_of size) x) (aad-key_type (type_of size) x)
    ∙ ap (λ (r : ℕ). not (eqb (type_of size % 16) (type_of used)) || bit 0 r && ltb 0 c || forbids direction r) (aad-restrictions (type_of size) x)
    ∙ ap₂ (λ (t b : Bool). not t || b && ltb 0 c || forbids direction (x % 8)) (type_told size used) (low_bit x)
    ∙ ap₂ (λ (z d : Bool). not (eqb (nk size) (nk used)) || bit 0 x && z || d) (above_zero c) (direction_bit direction x)
    ∙ morgan (eqb (nk size) (nk used)) (bit 0 x) (eqb c 0) (direction_allows direction x)
  where
    size : KeySize
    size = e.size

    x : ℕ
    x = e.source

    a : List ℕ
    a = aad (type_of size) x

    morgan : (a b z d : Bool) → (not a || b && not z || not d) ≡ not (a && (not b || z) && d)
    morgan false b z d = refl
    morgan true false z d = refl
    morgan true true true d = refl
    morgan true true false d = refl

module _ (e : EncodeKey) (k : IwKey) (cpu : List ℕ) (l : length cpu ≡ cpu_size) where
  abbrev source : ℕ
  source = register (register_of e.source) cpu

  -- on some processor
  abbrev pub made : Encode
  made = record { processor = 0; size = e.size; source = source; key = key_from e.size cpu }

  key_length : length (key_from e.size cpu) ≡ 16 * key_blocks e.size
  key_length =
      let few : 4 * nk e.size ≤ 32 = key_few e.size in
      part_length cpu (4 * nk e.size) 0 (omega arith) ∙ key_blocks_lem e.size

  pub handle_length_lem : length (encoded_handle e k cpu) ≡ handle_length e.size
  handle_length_lem =
      wrap_length k.integrity k.encryption (aad (type_of e.size) source) (key_from e.size cpu) (key_blocks e.size)
      (aad-length (type_of e.size) source) key_length
      ∙ ap (λ (n : ℕ). 32 + n) (sym (key_blocks_lem e.size))

  pub handle_given : (bytes : ℕ) → take (handle_length e.size) (advanced bytes (encoded e k cpu)) ≡ encoded_handle e k cpu
  unfolding encoded
  handle_given bytes =
      let n = handle_length e.size in
      let few : n ≤ 64 = length_few e.size in
      let handle = sets cpu (xmm_at 0) (encoded_handle e k cpu) in
      let zeros : List ℕ = replicate (3 * 16) 0 in
      let told = le_bytes 8 (k.no_backup + 2 * k.source) in
      let wiped = sets handle (xmm_at 4) zeros in
      let loaded = sets wiped (register_at e.destination) told in
      let flagged = le_bytes 8 (flags 0 (rflags loaded)) in
      let last = sets loaded rflags_at flagged in
      part_before (le_bytes 8 (next_rip (rip last) bytes)) last n 0 rip_at (omega arith)
      ∙ part_before flagged loaded n 0 rflags_at (omega arith)
      ∙ part_before told wiped n 0 (register_at e.destination) (omega arith)
      ∙ part_before zeros handle n 0 (xmm_at 4) (omega arith)
      ∙ part_filled (encoded_handle e k cpu) cpu n 0 handle_length_lem (omega arith)

  -- ---- opening it

  -- the bytes that a use of some size reads
  module _ (used : KeySize) (h : List ℕ) (n : length h ≡ handle_length used) (same : Agree h (encoded_handle e k cpu)) where
    abbrev given : List ℕ
    given = encoded_handle e k cpu

    aad_read : aad_of h ≡ aad (type_of e.size) source
    aad_read =
        let p : 16 ≤ length given = omega (arith, handle_length_lem) in
        let q : 16 ≤ length h = omega arith in
        sym (take-take 16 (length given) h p) ∙ ap (take 16) same ∙ take-take 16 (length h) given q
        ∙ wrap_aad k.integrity k.encryption (aad (type_of e.size) source) (key_from e.size cpu) (aad-length (type_of e.size) source)

    whole : nk e.size ≡ nk used → h ≡ given
    whole p =
        let q : length h ≡ length given = n ∙ ap (λ (w : ℕ). 32 + 4 * w) (sym p) ∙ sym handle_length_lem in
        sym (take-length h) ∙ ap (λ (w : ℕ). take w h) q ∙ same ∙ ap (λ (w : ℕ). take w given) q ∙ take-length given

    pub opened : (direction : Direction) (c : ℕ)
        → opened_for k c used direction h ≡ cond (permits made c used direction) (some (key_from e.size cpu)) none
    unfolding opened_for
    opened direction c =
        ap (λ (b : Bool). cond b none (unwrap_key k.integrity k.encryption h))
        (ap (illegal c used direction) aad_read ∙ illegal_told made c used direction)
        ∙ go (permits made c used direction) refl
      where
        go : (t : Bool) → permits made c used direction ≡ t
            → ◌≡◌ {A = Option (List ℕ)} (cond (not t) none (unwrap_key k.integrity k.encryption h)) (cond t (some (key_from e.size cpu)) none)
        go true q =
            ap (unwrap_key k.integrity k.encryption) (whole (eqb-true (nk e.size) (nk used) (sizes_told made c used direction q)))
            ∙ unwrap_wrap k.integrity k.encryption (aad (type_of e.size) source) (key_from e.size cpu) (key_blocks e.size)
            (aad-length (type_of e.size) source) key_length
        go false q = refl

-- ---- the CPU record after a use

pub aes-length : (d : Direction) (size : KeySize) (key b : List ℕ) → length (aes d size key b) ≡ 16
unfolding decrypt
aes-length Encrypt size key b = encrypt-length (nk size) key b
aes-length Decrypt size key b = inv_cipher-length (key_expansion (nk size) key) (nk size + 6) b

module _ (f : Form) (fits : T (registers f.blocks)) (key cpu : List ℕ) (l : length cpu ≡ cpu_size) (bytes : ℕ) where
  abbrev after : Bool → List ℕ
  after t = advanced bytes (ciphered f.direction f.size f.blocks (cond t (some key) none) cpu)

  pub zf-after : (t : Bool) → zf (after t) ≡ cond t 0 1
  zf-after true =
      let done = map_xmm (aes f.direction f.size key) f.blocks cpu in
      zf_rip (next_rip (rip (with_zf 0 done)) bytes) (with_zf 0 done) ∙ zf_written 0 done (omega arith) (mapped_length (aes f.direction f.size key) f.blocks cpu ∙ l)
  zf-after false = zf_rip (next_rip (rip (with_zf 1 cpu)) bytes) (with_zf 1 cpu) ∙ zf_written 1 cpu (omega arith) l

  pub xmm-after : (t : Bool) (i : ℕ) → i < 16
      → xmm i (after t) ≡ cond (t && member i f.blocks) (aes f.direction f.size key (xmm i cpu)) (xmm i cpu)
  xmm-after true i h =
      let done = map_xmm (aes f.direction f.size key) f.blocks cpu in
      xmm_rip i (next_rip (rip (with_zf 0 done)) bytes) (with_zf 0 done) ∙ xmm-zf i 0 done
      ∙ xmm_mapped (aes f.direction f.size key) (aes-length f.direction f.size key) f.blocks fits cpu l i h
  xmm-after false i h = xmm_rip i (next_rip (rip (with_zf 1 cpu)) bytes) (with_zf 1 cpu) ∙ xmm-zf i 1 cpu

-- ---- both together

-- AES depends on the size of the key alone
aes_same : (d : Direction) (s t : KeySize) (key : List ℕ) → eqb (nk s) (nk t) ≡ true → aes d t key ≡ aes d s key
aes_same d Aes128 Aes128 key q = refl
aes_same d Aes128 Aes256 key q = absurd (false≢true q)
aes_same d Aes256 Aes128 key q = absurd (false≢true q)
aes_same d Aes256 Aes256 key q = refl

module _ (e : EncodeKey) (k : IwKey) (before : List ℕ) (l : length before ≡ cpu_size)
    (memory : List ℕ) (bytes : ℕ) (f : Form) (fits : T (registers f.blocks)) (cpu : List ℕ) (m : length cpu ≡ cpu_size)
    (n : length (handle_read memory cpu bytes f) ≡ handle_length f.size)
    (same : Agree (handle_read memory cpu bytes f) (encoded_handle e k before)) where
  abbrev allowed : Bool
  allowed = permits (made e k before l) (cpl cpu) f.size f.direction

  ciphered_as : advanced bytes (used memory bytes f k cpu) ≡ advanced bytes (ciphered f.direction f.size f.blocks (cond allowed (some (key_from e.size before)) none) cpu)
  unfolding used
  ciphered_as =
      ap (λ (o : Option (List ℕ)). advanced bytes (ciphered f.direction f.size f.blocks o cpu))
      (opened e k before l f.size (handle_read memory cpu bytes f) n same f.direction (cpl cpu))

  pub use_zf : zf (advanced bytes (used memory bytes f k cpu)) ≡ cond allowed 0 1
  use_zf = ap zf ciphered_as ∙ zf-after f fits (key_from e.size before) cpu m bytes allowed

  pub use_xmm : (i : ℕ) → i < 16
      → xmm i (advanced bytes (used memory bytes f k cpu))
      ≡ cond (allowed && member i f.blocks) (aes f.direction e.size (key_from e.size before) (xmm i cpu)) (xmm i cpu)
  use_xmm i h =
      ap (xmm i) ciphered_as ∙ xmm-after f fits (key_from e.size before) cpu m bytes allowed i h ∙ go allowed refl
    where
      go : (t : Bool) → allowed ≡ t
          → cond (t && member i f.blocks) (aes f.direction f.size (key_from e.size before) (xmm i cpu)) (xmm i cpu)
          ≡ cond (t && member i f.blocks) (aes f.direction e.size (key_from e.size before) (xmm i cpu)) (xmm i cpu)
      go true q =
          ap (λ (g : List ℕ → List ℕ). cond (member i f.blocks) (g (xmm i cpu)) (xmm i cpu))
          (aes_same f.direction e.size f.size (key_from e.size before)
          (sizes_told (made e k before l) (cpl cpu) f.size f.direction q))
      go false q = refl

-- ---- a counter call with an encoded handle

module _ (e : EncodeKey) (k : IwKey) (before : List ℕ) (l : length before ≡ cpu_size) (c : CounterCall)
    (n : length c.handle ≡ handle_length (size_of c.handle)) (same : Agree c.handle (encoded_handle e k before)) where
  abbrev encrypts : Bool
  encrypts = permits (made e k before l) (cpl c.cpu) (size_of c.handle) Encrypt

  pub counter_counts : counted c k
      ≡ record {
        cpu = with_zf (cond encrypts 0 1) c.cpu;
        buffer = cond encrypts (ctr (encrypt (nk e.size) (key_from e.size before)) c.counter c.buffer) c.buffer;
      }
  unfolding counted
  counter_counts =
      ap (λ (o : Option (List ℕ)). counted_by (size_of c.handle) o c)
      (opened e k before l (size_of c.handle) c.handle n same Encrypt (cpl c.cpu))
      ∙ go encrypts refl
    where
      go : (t : Bool) → encrypts ≡ t
          → counted_by (size_of c.handle) (cond t (some (key_from e.size before)) none) c
          ≡ record {
            cpu = with_zf (cond t 0 1) c.cpu;
            buffer = cond t (ctr (encrypt (nk e.size) (key_from e.size before)) c.counter c.buffer) c.buffer;
          }
      go true q =
          ap {B = Counted} (λ (g : List ℕ → List ℕ). record { cpu = with_zf 0 c.cpu; buffer = ctr g c.counter c.buffer })
          (aes_same Encrypt e.size (size_of c.handle) (key_from e.size before)
          (sizes_told (made e k before l) (cpl c.cpu) (size_of c.handle) Encrypt q))
      go false q = refl
