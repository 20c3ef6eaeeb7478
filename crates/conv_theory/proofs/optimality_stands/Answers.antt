-- The theorem of optimality.
use Rattle.conv_theory.proofs.Optimality.{optimal}
use Rattle.conv_theory.proofs.optimality_stands.Goals as goal

pub returns : goal.returns
returns c = optimal
