-- Proved in Encoding and Codewords. Assumes nothing.
use Rattle.rs_theory.proofs.Encoding.{outer-code}
use Rattle.rs_theory.proofs.outer_stands.Goals as goal

pub returns : goal.returns
returns c = outer-code
