-- The table gives the exponent. Assumes nothing.
use Rattle.gf256.proofs.Rules.{log_below, log_read}
use Rattle.gf256.proofs.exponent.Goals as goal

pub returns-clause-below : goal.returns-clause-below
returns-clause-below c = log_below c.args.a c.from.result c.from-2.result c.ranges.a.fits c.from.ensures c.from-2.ensures

pub returns-clause-exponent : goal.returns-clause-exponent
returns-clause-exponent c n = log_read c.args.a c.from.result c.from-2.result c.ranges.a.fits n c.from.ensures c.from-2.ensures
