-- The free distance, of ways and of inputs; that ten is reached is computed.
use Rattle.std.proofs.Common.{refl}
use Rattle.bits.specs.Distance.{distance}
use Rattle.bits.specs.Lists.{zeros}
use Rattle.conv_theory.specs.Code.{spread, parity}
use Rattle.conv_theory.specs.Statements.{TenReached}
use Rattle.conv_theory.proofs.Apart.{ways-apart, inputs_apart}
use Rattle.conv_theory.proofs.free_distance_stands.Goals as goal

ten-reached : TenReached
unfolding spread parity zeros distance
ten-reached = refl

pub returns : goal.returns
returns c = (ways-apart, inputs_apart, ten-reached)
