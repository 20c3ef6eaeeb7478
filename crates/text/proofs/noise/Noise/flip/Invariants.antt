-- What is done, and what becomes of the rest, is the whole: of the bits, of the steps and of the count.
use Rattle.std.proofs.Common.{◌≡◌, ◌+◌, ◌-◌, ◌≤◌, length}
use Rattle.text.specs.Noise.{advanced, flipped}
use Rattle.text.proofs.Draws.{halfway, changes}
use Rattle.text.proofs.noise.Noise.flip.Given as goal

abbrev pub invariant-loop-x : goal.invariant-loop-x
invariant-loop-x l =
    (halfway l.p l.self.state l.x-index l.bits ≡ flipped l.p l.initial.self.state l.initial.bits)
    × (advanced (length l.initial.bits - l.x-index) l.self.state ≡ advanced (length l.initial.bits) l.initial.self.state)
    × (l.changed + changes l.p l.self.state l.x-index l.bits ≡ changes l.p l.initial.self.state 0 l.initial.bits)
    × (l.changed ≤ l.x-index)
