-- What is made of a frame that came: nothing, or a payload. Assumes nothing.
use Rattle.std.specs.Prelude.{ℕ, List, Some, None, Option}

pub data Heard : Type 0 where
  Lost : Heard
  Got : List ℕ → Heard

-- what a call gives, as what is heard
abbrev pub heard_of : Option (List ℕ) → Heard
heard_of None = Lost
heard_of (Some p) = Got p
