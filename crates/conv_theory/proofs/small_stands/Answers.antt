-- Both are computed.
use Rattle.std.proofs.Common.{refl}
use Rattle.bits.specs.Lists.{zeros}
use Rattle.conv_theory.specs.Code.{spread, parity}
use Rattle.conv_theory.specs.Search.{total, begin, branch, into, column, ways, survivors, best_by}
use Rattle.conv_theory.proofs.small_stands.Goals as goal

pub returns : goal.returns
unfolding spread parity zeros total begin branch into column ways survivors best_by
returns c = (refl, refl)
