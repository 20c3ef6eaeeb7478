-- The two rows are computed.
use Rattle.std.proofs.Common.{refl}
use Rattle.bits.specs.Lists.{zeros}
use Rattle.conv_theory.specs.Code.{spread, parity}
use Rattle.conv_theory.proofs.rows_stand.Goals as goal

pub returns : goal.returns
unfolding spread parity zeros
returns c = (refl, refl)
