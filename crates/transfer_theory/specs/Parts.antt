-- A file cut into parts of 214 bytes, and the payloads that carry it and that answer. Assumes nothing.
use Rattle.std.specs.Prelude.{ℕ, ◌+◌, ◌*◌, ◌/◌, ◌%◌, ◌≤◌, T, List, [], ◌∷◌, length, take, drop}
use Rattle.bits.specs.Lists.{are_bytes}
use Rattle.transfer_theory.specs.Payload.{payload}

-- a file: at most 214,000 bytes
abbrev pub IsFile : List ℕ → Type 0
IsFile f = (length f ≤ 214000) × T (are_bytes f)

-- part i, counted from 0; the last is as long as it comes out
abbrev pub part : List ℕ → ℕ → List ℕ
part f i = take 214 (drop (214 * i) f)

abbrev pub parts : List ℕ → ℕ
parts f = (length f + 213) / 214

-- a number in four bytes, the highest first
abbrev pub length4 : ℕ → List ℕ
length4 n = (n / 16777216) % 256 ∷ (n / 65536) % 256 ∷ (n / 256) % 256 ∷ n % 256 ∷ []

-- kind 1: a part; kind 2: the end, with the file's length
abbrev pub part_payload : ℕ → List ℕ → ℕ → List ℕ
part_payload file f i = payload 1 file i (part f i)

abbrev pub end_payload : ℕ → List ℕ → List ℕ
end_payload file f = payload 2 file (parts f) (length4 (length f))

-- back: kind 3: the first part that is missing; kind 4: all is there
abbrev pub ask_payload : ℕ → ℕ → List ℕ
ask_payload file i = payload 3 file i []

abbrev pub done_payload : ℕ → List ℕ
done_payload file = payload 4 file 0 []
