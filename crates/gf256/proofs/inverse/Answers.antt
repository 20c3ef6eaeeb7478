-- The power of what is left to 255 is the inverse. Assumes nothing.
use Rattle.gf256.proofs.Rules.{inverse_by_log}
use Rattle.gf256.proofs.inverse.Goals as goal

pub returns : goal.returns
returns c = inverse_by_log c.args.a c.in_ok-k.k c.near_power.result c.ranges.a.fits c.in_ok-k.ensures c.near_power.ensures
