-- What is left of the steps gives the result.
use Rattle.std.proofs.Common.{◌≡◌, ◌-◌}
use Rattle.text.specs.Noise.{advanced}
use Rattle.text.proofs.noise.Noise.skip.Given as goal

abbrev pub invariant-loop : goal.invariant-loop
invariant-loop l = advanced (l.n - l.counter) l.self.state ≡ advanced l.n l.initial.self.state
