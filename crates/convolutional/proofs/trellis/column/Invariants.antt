-- Both arrays are filled below j and below j + 32.
use Rattle.std.proofs.Common.{map}
use Rattle.conv_theory.specs.Columns.{cheaper, choice}
use Rattle.convolutional.proofs.Butterfly.{Filled}
use Rattle.convolutional.proofs.trellis.column.Given as goal

abbrev pub invariant-loop-j : goal.invariant-loop-j
invariant-loop-j g l =
    let number = g.N.Sum.number in
    Filled (cheaper (map number l.old) l.x l.y) (map number l.new) l.j × Filled (choice (map number l.old) l.x l.y) l.decisions l.j
