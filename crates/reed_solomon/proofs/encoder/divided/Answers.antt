-- The register ends with the remainder of the message. Assumes nothing.
use Rattle.std.proofs.Common.{refl, arith}
use Rattle.bits.specs.Lists.{zeros}
use Rattle.rs_theory.proofs.Register.{remainder-more, remainder-end}
use Rattle.reed_solomon.proofs.encoder.divided.Goals as goal

pub loop-m-init : goal.loop-m-init
unfolding zeros
loop-m-init c = refl

pub loop-m-preserved : goal.loop-m-preserved
loop-m-preserved c = remainder-more c.loop-m.m-index c.args.message.now c.loop-m.register _ _ (omega arith) c.step-register.ensures c.loop-m.invariant

pub returns : goal.returns
returns c = remainder-end c.loop-m.m-index c.args.message.now c.loop-m.register _ (omega arith) c.loop-m.invariant
