use Rattle.std.proofs.Common.{◌∙◌, rules}
use Rattle.rs_decoding.proofs.Products.{quotient_some}
use Rattle.rs_decoding.proofs.arithmetic.quotient.Goals as goal

pub returns-in-Some : goal.returns-in-Some
returns-in-Some c = c.mul.ensures ∙ quotient_some c.args.a c.args.d c.in-Some.i c.ranges.a.fits (search rules) c.in-Some.ensures.is
