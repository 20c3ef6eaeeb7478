-- The nearest is found, and four wrong bits don't matter.
use Rattle.conv_theory.proofs.Hard.{nearest}
use Rattle.conv_theory.proofs.nearest_stands.Goals as goal

pub returns : goal.returns
returns c = nearest
