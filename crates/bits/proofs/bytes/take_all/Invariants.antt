-- What is written, and the bytes of the bits that are left, are the bytes of all.
use Rattle.std.proofs.Common.{◌≡◌, length}
use Rattle.bits.specs.Bytes.{all_bytes}
use Rattle.bits.proofs.Loops.{packed}
use Rattle.bits.proofs.bytes.take_all.Given as goal

abbrev pub invariant-loop-i : goal.invariant-loop-i
invariant-loop-i l = packed (length l.initial.out) l.i l.bits l.out ≡ all_bytes (length l.initial.out) l.bits
