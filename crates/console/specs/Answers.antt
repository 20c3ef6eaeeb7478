-- What calls of an answer to lines gave, one after another. Assumes nothing.
use Rattle.std.specs.Prelude.{Bool, true, false, List, Ok, Result}
use Rattle.std.specs.List.{FoldsTo}

-- calls that lead from f to g, each of which said that its line was not the last
abbrev pub WentOn : {F X E : Type 0} → (F → X → Result Bool E → X → F → Type 0) → F → F → Type 0
WentOn {F} {X} step f g = (lines : List (X × X)) × FoldsTo (λ p line q. step p line.0 (Ok false) line.1 q) f lines g

-- such calls from f on, and where an answer was the last, one more, which said so
abbrev pub Answered : {F X E : Type 0} → (F → X → Result Bool E → X → F → Type 0) → F → Bool → Type 0
Answered {F} {X} step f false = (g : F) × WentOn step f g
Answered {F} {X} step f true = (g : F) × WentOn step f g × ((line new : X) × (h : F) × step g line (Ok true) new h)
