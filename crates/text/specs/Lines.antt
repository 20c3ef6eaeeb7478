-- Lines of text: a frame is a line of n digits 0 and 1, an empty line is nothing heard, any other line is unknown. Assumes nothing.
use Rattle.std.specs.Prelude.{ℕ, ◌+◌, ◌-◌, ◌%◌, Bool, cond, ◌&&◌, ◌||◌, List, map, length, ◌==◌}
use Rattle.std.specs.List.{list_all}

-- the digit of a bit; of a number above 1 only the lowest bit counts
abbrev pub digit_of : ℕ → ℕ
digit_of b = 48 + b % 2

-- what is written for bits
abbrev pub digits : List ℕ → List ℕ
digits bs = map digit_of bs

-- whether a byte is the digit 0 or 1
abbrev pub is_digit : ℕ → Bool
is_digit x = x == 48 || x == 49

abbrev pub are_digits : List ℕ → Bool
are_digits xs = list_all is_digit xs

-- the bits that digits stand for
abbrev pub bit_of : ℕ → ℕ
bit_of x = x - 48

abbrev pub bits_in : List ℕ → List ℕ
bits_in xs = map bit_of xs

-- what a line says
pub data Said : Type 0 where
  Nothing : Said
  Bits : List ℕ → Said
  Unknown : Said

-- what a line says where a frame has n digits
abbrev pub said : ℕ → List ℕ → Said
said n line = cond (length line == 0) Nothing (cond (length line == n && are_digits line) (Bits (bits_in line)) Unknown)
