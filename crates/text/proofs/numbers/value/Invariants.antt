-- What is left, behind the value so far, has the value of the whole, and the test of what is left is that of the whole.
use Rattle.std.proofs.Common.{◌≡◌, ◌≤◌, drop}
use Rattle.text.specs.Numbers.{are_decimal, decimal_from, decimal}
use Rattle.text.proofs.numbers.value.Given as goal

abbrev pub invariant-loop-x : goal.invariant-loop-x
invariant-loop-x l = (decimal_from l.v (drop l.x-index l.text) ≡ decimal l.text) × (are_decimal (drop l.x-index l.text) ≡ are_decimal l.text) × (l.v ≤ l.most)
