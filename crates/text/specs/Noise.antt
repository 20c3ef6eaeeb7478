-- The noise that spoils lines: the generator SplitMix64, a draw for the line and one for each of its digits. Assumes nothing.
use Rattle.std.specs.Prelude.{ℕ, zero, suc, ◌+◌, ◌-◌, ◌*◌, ◌/◌, ◌%◌, ◌^◌, Bool, cond, List, [], ◌∷◌, Some, None, Option, bit_xor, nat_lt}

-- the state of 64 bits after one step
abbrev pub stepped : ℕ → ℕ
stepped s = (s + 11400714819323198485) % 2 ^ 64

-- a number mixed with its upper bits, times a factor
abbrev pub stirred : ℕ → ℕ → ℕ → ℕ
stirred k m z = (bit_xor z (z / 2 ^ k) * m) % 2 ^ 64

-- the generator's output of a state
unfoldable pub output : ℕ → ℕ
output s =
    let z = stirred 27 10723151780598845931 (stirred 30 13787848793156543929 s) in
    bit_xor z (z / 2 ^ 31)

-- a draw: one step, and the highest 16 bits of the new state's output
abbrev pub drawn : ℕ → ℕ
drawn s = output (stepped s) / 2 ^ 48

-- the state after n steps
unfoldable pub advanced : ℕ → ℕ → ℕ
advanced zero s = s
advanced (suc n) s = advanced n (stepped s)

-- the other bit
abbrev pub other : ℕ → ℕ
other b = 1 - b

-- bits of which each is changed where its draw is below p
unfoldable pub flipped : ℕ → ℕ → List ℕ → List ℕ
flipped p s [] = []
flipped p s (b ∷ bs) = cond (nat_lt (drawn s) p) (other b) b ∷ flipped p (stepped s) bs

-- whether the line's own draw, the first, empties it
abbrev pub emptied : ℕ → Bool
emptied s = nat_lt (drawn s) 4096

-- what arrives of bits that are sent: nothing, or the bits with some changed
abbrev pub arriving : ℕ → ℕ → List ℕ → Option (List ℕ)
arriving p s bits = cond (emptied s) None (Some (flipped p (stepped s) bits))

-- the state behind a line of n digits, which takes 1 + n draws whatever becomes of it
abbrev pub behind : ℕ → ℕ → ℕ
behind n s = advanced n (stepped s)
