-- Two searches from two such costs agree.
use Rattle.conv_theory.proofs.Far.{any-far}
use Rattle.conv_theory.proofs.any_far_stands.Goals as goal

pub returns : goal.returns
returns c = any-far
