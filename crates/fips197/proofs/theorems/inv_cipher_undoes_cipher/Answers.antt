use Rattle.fips197.proofs.Undo.{inv_cipher_lem}
use Rattle.fips197.proofs.theorems.inv_cipher_undoes_cipher.Goals as goal

pub returns : goal.returns
returns c = inv_cipher_lem
