-- What is written, with what is to come, is what all bits are sent as.
use Rattle.std.proofs.Common.{◌<◌, ◌++◌}
use Rattle.bits.specs.Lists.{zeros}
use Rattle.convolutional.proofs.Encoding.{Written}
use Rattle.convolutional.proofs.encoder.spread_into.Given as goal

abbrev pub invariant-loop-i : goal.invariant-loop-i
invariant-loop-i l = (l.state < 64) × Written (l.bits ++ zeros 6) l.out l.i l.state

abbrev pub invariant-loop-i-2 : goal.invariant-loop-i-2
invariant-loop-i-2 l = (l.state < 64) × Written (l.bits ++ zeros 6) l.out l.i l.state
