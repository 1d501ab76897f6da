use Rattle.fips197.proofs.Undo.{decrypt-encrypt}
use Rattle.fips197.proofs.theorems.decrypt_undoes_encrypt.Goals as goal

pub returns : goal.returns
returns c = decrypt-encrypt
