-- A buffer under a handle: what a use's flags and blocks say is the model's counter call.
-- Assumes nothing.
use mathlib.Core.Path.{◌≡◌, ◌∙◌, refl, ap}
use mathlib.Core.Bool.{cond}
use mathlib.Core.List.{List}
use mathlib.Core.Option.{Option, none, some}
use Prim.Native.Nat.{ℕ}
use Rattle.fips197.specs.declared.Direction.TheVariants.{Encrypt}
use Rattle.fips197.specs.Sbox.{SboxTable}
use Rattle.fips197.specs.Sizes.{nr}
use Rattle.fips197.specs.declared.KeySize.{KeySize}
use Rattle.bits.specs.Words.{le_words}
use Rattle.aes.specs.Meaning.{key_bytes, schedule, stored_schedule}
use Rattle.aes.specs.declared.Key.{Key}
use Rattle.aes_blocks.specs.Tables.{MixedTable}
use Rattle.aes_blocks.specs.TableCipher.{table_cipher}
use Rattle.ctr.proofs.Keyed.{masked_by}
use Rattle.sp800_38a.specs.Counter.{ctr}
use Rattle.model.specs.Calls.{CounterCall}
use Rattle.model.specs.Counter.{size_of, counted_by, counted}
use Rattle.model.specs.Cpu.{cpl, with_zf}
use Rattle.model.specs.Instructions.{opened_for, aes}
use Rattle.model.specs.declared.IwKey.{IwKey}
use Rattle.aeskl.specs.Meaning.{Used, used_by}

-- flags and buffer, as the model has them
counted_left : (size : KeySize) (o : Option (List ℕ)) (c : CounterCall) {u : Used} → u ≡ used_by (λ key. ctr (aes Encrypt size key) c.counter) o c.buffer
    → record { cpu = with_zf (cond u.zf 1 0) c.cpu; buffer = u.blocks } ≡ counted_by size o c
counted_left size o c e = ap (λ (u : Used). record { cpu = with_zf (cond u.zf 1 0) c.cpu; buffer = u.blocks }) e ∙ by o
  where
    by : (o : Option (List ℕ))
        → let u = used_by (λ key. ctr (aes Encrypt size key) c.counter) o c.buffer in
        record { cpu = with_zf (cond u.zf 1 0) c.cpu; buffer = u.blocks } ≡ counted_by size o c
    by none = refl
    by (some key) = refl

-- from what the code read of the call: key size, handle, counter block and CPL
pub counted_as : (c : CounterCall) (k : IwKey) (size : KeySize) (h b : List ℕ) (l : ℕ) {u : Used} {cpu : List ℕ} → size ≡ size_of c.handle → h ≡ c.handle
    → b ≡ c.counter → l ≡ cpl c.cpu → u ≡ used_by (λ key. ctr (aes Encrypt size key) b) (opened_for k l size Encrypt h) c.buffer
    → cpu ≡ with_zf (cond u.zf 1 0) c.cpu → record { cpu = cpu; buffer = u.blocks } ≡ counted c k
unfolding counted
counted_as c k size h b l {u} es eh eb el e left =
    let z = size_of c.handle in
    let to : KeySize → List ℕ → List ℕ → ℕ → Used = λ s i m n. used_by (λ key. ctr (aes Encrypt s key) m) (opened_for k n s Encrypt i) c.buffer in
    (λ j. record { cpu = left j; buffer = u.blocks })
    ∙ counted_left z (opened_for k (cpl c.cpu) z Encrypt c.handle) c (e ∙ (λ j. to (es j) (eh j) (eb j) (el j)))

-- masked by tables that carry their rule, and the schedule of the key
pub keyed : {m m' s s' : List ℕ} → m' ≡ m → s' ≡ s → MixedTable m → SboxTable s → {size size' : KeySize} → size' ≡ size → (key : Key) (w : List ℕ)
    → le_words 4 w ≡ stored_schedule size (key_bytes size key) → (c b : List ℕ)
    → ctr (table_cipher m' s' (schedule size' w) (nr size')) c b ≡ ctr (aes Encrypt size (key_bytes size key)) c b
keyed {m} {m'} {s} {s'} p q rule box {size} {size'} r key w stored c b =
    (λ j. ctr (table_cipher (p j) (q j) (schedule (r j) w) (nr (r j))) c b) ∙ masked_by m s rule box size key w stored c b
