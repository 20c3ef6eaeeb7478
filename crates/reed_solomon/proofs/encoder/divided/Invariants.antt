-- The register and what is still to come give the remainder of the whole message. Assumes nothing.
use Rattle.std.proofs.Common.{◌≡◌, drop}
use Rattle.bits.specs.Lists.{zeros}
use Rattle.rs_theory.specs.Code.{generator, remainder}
use Rattle.reed_solomon.proofs.encoder.divided.Given as goal

abbrev pub invariant-loop-m : goal.invariant-loop-m
invariant-loop-m l = remainder (generator 32) (drop l.m-index l.message) l.register ≡ remainder (generator 32) l.message (zeros 32)
