-- Why a call refuses: the closed list, and each case's number and words. Assumes nothing.
use Rattle.std.specs.Prelude.{ℕ, List, codes}
use Rattle.bits.specs.declared.Refusal.{Refusal}
use Rattle.bits.specs.declared.Refusal.TheVariants.{NoFrame, TooLong, WrongMemory, UnknownText}

abbrev pub number : Refusal → ℕ
number NoFrame = 2
number TooLong = 3
number WrongMemory = 4
number UnknownText = 5

-- why, as the codes of its letters
abbrev pub reason : Refusal → List ℕ
reason NoFrame = codes "not the bits of one frame"
reason TooLong = codes "the file has more than 214,000 bytes"
reason WrongMemory = codes "memory of a wrong length"
reason UnknownText = codes "an argument or a line of no known form"
