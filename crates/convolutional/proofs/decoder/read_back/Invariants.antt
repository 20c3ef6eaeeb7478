-- Whatever was searched: what is read so far is what was found. The columns not yet read are the first ones.
use Rattle.std.proofs.Common.{◌≡◌, ℕ, ◌*◌, ◌<◌, List, ◌++◌, length}
use Rattle.conv_theory.specs.declared.Cost.{Cost}
use Rattle.conv_theory.specs.Columns.{Decided}
use Rattle.convolutional.proofs.Reading.{Reads}
use Rattle.convolutional.proofs.decoder.read_back.Given as goal

abbrev pub invariant-loop-i : goal.invariant-loop-i
invariant-loop-i l =
    let rest = l.i-iterator.iter.iter.rest.now in
    (goal.iterator-loop-i).can_next l.i-iterator × (goal.iterator-loop-i).is_finite l.i-iterator × (l.i-iterator.iter.count ≡ 0) ×
    ((tail : List (List ℕ)) × (l.decisions ≡ rest ++ tail)) × (l.state < 64) ×
    ((cs : List Cost) → length cs ≡ 2 * length l.decisions → Decided cs (length l.decisions) l.decisions → Reads cs l.out (length rest) l.state)
