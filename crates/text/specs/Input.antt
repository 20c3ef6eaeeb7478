-- A line as it comes in, chunk by chunk: what is kept of it, and where it ends. Assumes nothing.
use Rattle.std.specs.Prelude.{ℕ, ◌+◌, Bool, cond, List, [], ◌∷◌, ◌++◌, length, take, ◌==◌, nat_lt}

-- the bytes in front of the first newline (10), all of them if there is none
unfoldable pub before : List ℕ → List ℕ
before [] = []
before (x ∷ xs) = cond (x == 10) [] (x ∷ before xs)

-- whether a chunk ends the line, by a newline in it
abbrev pub ends : List ℕ → Bool
ends chunk = nat_lt (length (before chunk)) (length chunk)

-- how many bytes of a chunk belong to the line, its newline among them
abbrev pub used : List ℕ → ℕ
used chunk = cond (ends chunk) (length (before chunk) + 1) (length chunk)

-- what is kept of a line, and what is kept once a chunk more has come: no more than 4,093 bytes
abbrev pub kept : List ℕ → List ℕ
kept line = take 4093 line

abbrev pub grown : List ℕ → List ℕ → List ℕ
grown line chunk = kept (line ++ before chunk)
