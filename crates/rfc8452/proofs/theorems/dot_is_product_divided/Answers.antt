use Rattle.rfc8452.proofs.Field.{dot_product}
use Rattle.rfc8452.proofs.theorems.dot_is_product_divided.Goals as goal

pub returns : goal.returns
returns c = dot_product
