-- The theorems about the convolutional code of 64 states. Each is a type; a term of it is its proof. Assumes nothing.
use Rattle.std.specs.Prelude.{◌≡◌, ℕ, ◌+◌, ◌*◌, ◌<◌, ◌≤◌, T, List, [], ◌∷◌, map, reverse, length, drop, ◌≢◌, slice_index_or}
use Rattle.bits.specs.Lists.{are_bits, zeros}
use Rattle.bits.specs.Distance.{distance}
use Rattle.conv_theory.specs.declared.Cost.{Cost}
use Rattle.conv_theory.specs.Code.{deep, shallow, spread, run, sent_by, sent}
use Rattle.conv_theory.specs.Search.{cost_of_all, total, start, begin, ways, best_by, best, hard, heard_bits}

-- n bits of input
pub record Bits (n : ℕ) (bs : List ℕ) : Type 0 where
  pub long : length bs ≡ n
  pub bits : T (are_bits bs)

-- 1. For every length and all costs: the search finds n bits, and no other n bits would have been sent as something that costs less.
pub record Cheapest (n : ℕ) (cs : List Cost) (found : List ℕ) : Type 0 where
  pub right : Bits n found
  pub least : (bs : List ℕ) → Bits n bs → cost_of_all cs (sent found) ≤ cost_of_all cs (sent bs)

abbrev pub Optimal : Type 0
Optimal = (n : ℕ) (cs : List Cost) → length cs ≡ 2 * (n + 6) → Cheapest n cs (best cs)

-- What a start in another state than 0 costs does not matter, as long as it is more than every way: for hard bits, 2^30 does as well.
abbrev pub AnyFar : Type 0
AnyFar =
    (n far : ℕ) (cs : List Cost) → length cs ≡ 2 * (n + 6) → total cs < far →
    reverse (drop 6 (slice_index_or (ways deep (begin deep far) cs) 0 (start 0)).bits) ≡ best cs

-- 2. Two different ways of one length from one state into one state differ at ten bits or more; and so do the bits that two different inputs are sent as.
abbrev pub WaysApart : Type 0
WaysApart =
    (n s : ℕ) → s < 64 → (bs cs : List ℕ) → Bits n bs → Bits n cs → run deep s bs ≡ run deep s cs → (bs ≢ cs) →
    10 ≤ distance (spread deep s bs) (spread deep s cs)

abbrev pub InputsApart : Type 0
InputsApart = (n : ℕ) (bs cs : List ℕ) → Bits n bs → Bits n cs → (bs ≢ cs) → 10 ≤ distance (sent bs) (sent cs)

-- ten is reached
abbrev pub TenReached : Type 0
TenReached = distance (sent (1 ∷ [])) (sent (0 ∷ [])) ≡ 10

abbrev pub FreeDistance : Type 0
FreeDistance = WaysApart × InputsApart × TenReached

-- 3. Hard bits: n bits are found, no other n bits would have been sent as something nearer to what was heard, and up to four wrong bits anywhere don't matter.
pub record Nearest (n : ℕ) (r : List ℕ) (found : List ℕ) : Type 0 where
  pub long : length found ≡ n
  pub bits : T (are_bits found)
  pub least : (bs : List ℕ) → length bs ≡ n → T (are_bits bs) → distance (sent found) r ≤ distance (sent bs) r
  pub four : (bs : List ℕ) → length bs ≡ n → T (are_bits bs) → distance (sent bs) r ≤ 4 → found ≡ bs

abbrev pub NearestFound : Type 0
NearestFound = (n : ℕ) (r : List ℕ) → length r ≡ 2 * (n + 6) → T (are_bits r) → Nearest n r (heard_bits r)

-- one bit 1 is sent as 11 10 11 11 00 01 11, and no bits as twelve zeros
abbrev pub RowsHold : Type 0
RowsHold = (sent (1 ∷ []) ≡ 1 ∷ 1 ∷ 1 ∷ 0 ∷ 1 ∷ 1 ∷ 1 ∷ 1 ∷ 0 ∷ 0 ∷ 0 ∷ 1 ∷ 1 ∷ 1 ∷ []) × (sent [] ≡ zeros 12)

-- The code of four states, by computation: 101 is sent as 11 10 00 10 11, and found though two of these bits are wrong.
abbrev pub SmallShown : Type 0
SmallShown =
    (sent_by shallow (1 ∷ 0 ∷ 1 ∷ []) ≡ 1 ∷ 1 ∷ 1 ∷ 0 ∷ 0 ∷ 0 ∷ 1 ∷ 0 ∷ 1 ∷ 1 ∷ []) ×
    (best_by shallow (map hard (0 ∷ 1 ∷ 1 ∷ 0 ∷ 0 ∷ 1 ∷ 1 ∷ 0 ∷ 1 ∷ 1 ∷ [])) ≡ 1 ∷ 0 ∷ 1 ∷ [])
