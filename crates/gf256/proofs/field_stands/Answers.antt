-- The laws of the field are proved in Bytes. Assumes nothing.
use Rattle.std.proofs.Common.{refl}
use Rattle.gf256.specs.Field.{product, product_by}
use Rattle.gf256.proofs.Bytes.{laws}
use Rattle.gf256.proofs.field_stands.Goals as goal

pub returns : goal.returns
unfolding product product_by
returns c = record { laws = laws; row = refl }
