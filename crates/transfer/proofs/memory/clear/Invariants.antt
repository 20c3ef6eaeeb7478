-- All slots passed are empty.
use Rattle.std.proofs.Common.{◌≡◌, ℕ, ◌*◌, ◌<◌, length, get_or}
use Rattle.transfer.proofs.memory.clear.Given as goal

abbrev pub invariant-loop-slot : goal.invariant-loop-slot
invariant-loop-slot l = (length l.memory ≡ 215000) × ((k : ℕ) → k < l.slot → get_or l.memory (215 * k) 0 ≡ 0)
