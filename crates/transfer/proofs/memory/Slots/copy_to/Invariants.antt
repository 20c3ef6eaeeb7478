-- What was copied so far, and what lies behind it.
use Rattle.std.proofs.Common.{◌≡◌, ◌++◌, length, take, drop}
use Rattle.transfer_theory.specs.Receiver.{joined}
use Rattle.transfer.proofs.memory.Slots.copy_to.Given as goal

abbrev pub invariant-loop-slot : goal.invariant-loop-slot
invariant-loop-slot l =
    (l.at ≡ length (take (length l.initial.out) (joined l.slot-index l.self))) × (l.out ≡ take (length l.initial.out) (joined l.slot-index l.self) ++ drop l.at l.initial.out)
