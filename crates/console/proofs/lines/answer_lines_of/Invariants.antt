-- Calls that lead on from here lead on from the first.
use Rattle.console.specs.Answers.{WentOn}
use Rattle.console.proofs.lines.answer_lines_of.Given as goal

abbrev pub invariant-loop-n : goal.invariant-loop-n
invariant-loop-n g l =
    goal.F-IsAlwaysCallable g l.answer × ((last : _) → WentOn (goal.F-step g) l.answer last → WentOn (goal.F-step g) l.fn.answer last)
