-- What reading a line gives or leaves in lent memory, and when it is refused. Assumes nothing.
use Rattle.std.specs.Prelude.{◌≡◌, ℕ, Bool, true, false, List, length, Some, None, Ok, Err, Option, Result}
use Rattle.bits.specs.declared.Refusal.{Refusal}
use Rattle.bits.specs.declared.Refusal.TheVariants.{UnknownText}
use Rattle.text.specs.Lines.{Nothing, Bits, Unknown, said}

-- a line read into memory that held old and then holds new: whether it was a frame, which has as many digits as the memory has places
abbrev pub LineRead : List ℕ → List ℕ → List ℕ → Result Bool Refusal → Type 0
LineRead line old new (Ok false) = (said (length old) line ≡ Nothing) × (new ≡ old)
LineRead line old new (Ok true) = said (length old) line ≡ Bits new
LineRead line old new (Err e) = (said (length old) line ≡ Unknown) × (e ≡ UnknownText) × (new ≡ old)

-- a line read where a frame has n digits: nothing, the bits of a frame, or a refusal
abbrev pub BitsRead : ℕ → List ℕ → Result (Option (List ℕ)) Refusal → Type 0
BitsRead n line (Ok None) = said n line ≡ Nothing
BitsRead n line (Ok (Some bits)) = said n line ≡ Bits bits
BitsRead n line (Err e) = (said n line ≡ Unknown) × (e ≡ UnknownText)
