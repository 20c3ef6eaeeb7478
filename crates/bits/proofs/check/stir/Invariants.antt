-- What is left of the eight shifts gives the result.
use Rattle.std.proofs.Common.{◌≡◌, ◌-◌}
use Rattle.bits.specs.Crc.{shifted_by, stirred}
use Rattle.bits.proofs.check.stir.Given as goal

abbrev pub invariant-loop : goal.invariant-loop
invariant-loop l = shifted_by (8 - l.counter) l.x ≡ stirred l.c l.b
