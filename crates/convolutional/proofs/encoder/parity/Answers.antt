-- The lowest bit of the count is the parity.
use Rattle.std.proofs.Common.{◌∙◌}
use lib.Count.{ones}
use Rattle.std.proofs.lemmas.Nat.{and_mask}
use Rattle.convolutional.proofs.Ones.{ones-parity}
use Rattle.convolutional.proofs.encoder.parity.Goals as goal

pub returns : goal.returns
returns c = and_mask (ones c.args.w) 1 ∙ ones-parity 7 c.args.w c.requires
