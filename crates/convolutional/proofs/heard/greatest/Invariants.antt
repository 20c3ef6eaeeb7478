-- What is added up, with what is left, is the total.
use Rattle.std.proofs.Common.{◌≡◌, ◌+◌, ◌*◌, ◌≤◌, drop}
use Rattle.conv_theory.specs.Search.{total}
use Rattle.convolutional.proofs.heard.greatest.Given as goal

abbrev pub invariant-loop-c : goal.invariant-loop-c
invariant-loop-c l = (l.sum + total (drop l.c-index l.costs) ≡ total l.costs) × (l.sum ≤ 255 * l.c-index)
