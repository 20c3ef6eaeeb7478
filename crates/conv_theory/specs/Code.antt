-- A convolutional code of rate one half: two bits go out for each bit, from it and the bits before it. Assumes nothing.
use Rattle.std.specs.Prelude.{ℕ, zero, suc, ◌+◌, ◌*◌, ◌/◌, ◌%◌, List, [], ◌∷◌, ◌++◌, bit_and}
use Rattle.bits.specs.Lists.{zeros}

-- memory: how many earlier bits count. half: what the newest bit counts in a state, half the number of states.
-- first, second: which bits of a window each of the two outputs adds up
pub record Shape : Type 0 where
  pub memory : ℕ
  pub half : ℕ
  pub first : ℕ
  pub second : ℕ

-- 64 states, masks 1111001 and 1011011
abbrev pub deep : Shape
deep = record { memory = 6; half = 32; first = 121; second = 91 }

-- 4 states, masks 111 and 101
abbrev pub shallow : Shape
shallow = record { memory = 2; half = 2; first = 7; second = 5 }

-- the sum of the n lowest bits of w, modulo 2
unfoldable pub parity : ℕ → ℕ → ℕ
parity zero w = 0
parity (suc n) w = (w + parity n (w / 2)) % 2

-- the newest bit in front of the state
abbrev pub window : Shape → ℕ → ℕ → ℕ
window k s b = s + 2 * k.half * b

abbrev pub first_out : Shape → ℕ → ℕ → ℕ
first_out k s b = parity (suc k.memory) (bit_and (window k s b) k.first)

abbrev pub second_out : Shape → ℕ → ℕ → ℕ
second_out k s b = parity (suc k.memory) (bit_and (window k s b) k.second)

abbrev pub next : Shape → ℕ → ℕ → ℕ
next k s b = s / 2 + k.half * b

-- what the bits are sent as, from state s
unfoldable pub spread : Shape → ℕ → List ℕ → List ℕ
spread k s [] = []
spread k s (b ∷ bs) = first_out k s b ∷ second_out k s b ∷ spread k (next k s b) bs

-- the state that the bits lead to, from state s
unfoldable pub run : Shape → ℕ → List ℕ → ℕ
run k s [] = s
run k s (b ∷ bs) = run k (next k s b) bs

-- the bits, and zeros behind them that lead back to state 0
abbrev pub sent_by : Shape → List ℕ → List ℕ
sent_by k bs = spread k 0 (bs ++ zeros k.memory)

abbrev pub sent : List ℕ → List ℕ
sent bs = sent_by deep bs
