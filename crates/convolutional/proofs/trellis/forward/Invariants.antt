-- The costs are the survivors', and the decisions so far are the search's.
use Rattle.std.proofs.Common.{◌≡◌, map, length}
use Rattle.conv_theory.specs.Columns.{Decided, costs_after}
use Rattle.convolutional.proofs.trellis.forward.Given as goal

abbrev pub invariant-loop-i : goal.invariant-loop-i
invariant-loop-i g l =
    let cs = map g.H.Heard.costs l.heard in (map g.N.Sum.number l.old ≡ costs_after cs l.i) × (length l.new ≡ 64) × Decided cs l.i l.decisions
