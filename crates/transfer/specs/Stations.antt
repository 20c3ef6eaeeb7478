-- The numbers of a station: a receiver's size and the count published for a file handed over. Assumes nothing.
use Rattle.std.specs.Prelude.{ℕ, ◌+◌, Some, None, Option}

-- of the length that was heard: 0 while none was, else one more than it
abbrev pub size_of : Option ℕ → ℕ
size_of None = 0
size_of (Some n) = n + 1

-- of what was handed over: 0 for nothing, else so many bytes
abbrev pub count_of : Option ℕ → ℕ
count_of None = 0
count_of (Some n) = n
