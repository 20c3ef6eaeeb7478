-- A line more is a call more, in front of those that lead on.
use Rattle.std.proofs.Common.{rules, of_calls, false, ◌∷◌, Ok}
use Rattle.console.proofs.lines.answer_lines_of.Goals as goal

pub loop-n-preserved : goal.loop-n-preserved
loop-n-preserved g c =
    let one : (line : _) × (turned : _) × goal.F-step g c.loop-n.answer line (Ok false) turned c.answer.new.self = search rules in
    (search (of_calls, rules), λ last on. c.loop-n.invariant.1 last ((one.0, one.1) ∷ on.0, (c.answer.new.self, one.2, on.1)))
