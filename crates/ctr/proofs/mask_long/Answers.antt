use Rattle.std.proofs.Common.{◌≡◌, ℕ, ◌+◌, ◌-◌, ◌*◌, ◌/◌, length, take, sym, refl, ap, ◌∙◌, arith, length-take-le}
use Rattle.aes.specs.Meaning.{bytes_of}
use Rattle.aes_blocks.specs.TableCipher.{cipher-length}
use Rattle.aes_ttables.specs.Meaning.{cipher_of}
use Rattle.sp800_38a.specs.Counter.{counter_at}
use Rattle.ctr.proofs.Masking.{counted, part_length, masked_first, masked_length, masked_more, masked_end}
use Rattle.ctr.proofs.mask_long.Goals as goal

pub returns : goal.returns
returns c =
    let groups_part : (let s = c.args.bytes.now in
    length (take c.grouped-groups.result s) ≡ c.grouped-groups.result) = (let s = c.args.bytes.now in
    length-take-le c.grouped-groups.result s (omega (arith, c.grouped-groups.ensures.1))) in
    let a = c.args in
    let f = cipher_of a.cipher.now in
    let s = a.bytes.now in
    let n = length s / 16 in
    let rule = c.fill_tables.ensures in
    let g = c.grouped-groups.result in
    let eighths = c.grouped-groups.ensures.0 in
    let inside = c.grouped-groups.ensures.1 in
    let e : g ≡ 16 * (g / 16) = omega arith in
    let k = n * 16 - g in
    let m : g / 16 + k / 16 ≡ n = omega arith in
    let first = masked_first f (bytes_of a.c) s (g / 16) g e (c.mask_groups-behind.ensures.masked rule) in
    let behind : bytes_of c.mask_groups-behind.result ≡ counter_at (bytes_of a.c) (g / 16)
    = c.mask_groups-behind.ensures.behind ∙ ap (λ (j : ℕ). counter_at (bytes_of a.c) (j / 16)) (groups_part) in
    let long = masked_length f (cipher-length _ _ _ _) (bytes_of a.c) s (g / 16) (omega arith) first in
    let all = masked_more f (cipher-length _ _ _ _) (bytes_of a.c) s (g / 16) (omega arith) first (k / 16) n g k e (omega arith) (sym m) (omega arith) behind
    (c.mask_blocks-next.ensures.masked rule) refl in
    let next : bytes_of c.mask_blocks-next.result ≡ counter_at (bytes_of a.c) n
    = counted (bytes_of a.c) (g / 16) (k / 16) n (sym m) behind
    (c.mask_blocks-next.ensures.behind
    ∙ ap (λ (j : ℕ). counter_at (bytes_of c.mask_groups-behind.result) (j / 16)) (part_length _ g k (omega (arith, long)))) in
    masked_end f (cipher-length _ _ _ _) (bytes_of a.c) s n (omega arith) all (n * 16) _ (omega arith) refl next (c.mask_short.ensures tt) refl
