-- A station's memory: 1,000 slots of 215 bytes, each a count byte (0: empty, else 1 + the count) and 214 bytes. Assumes nothing.
use Rattle.std.specs.Prelude.{◌≡◌, ℕ, ◌<◌, Option, MatchOption, zero, suc, ◌+◌, ◌*◌, ◌&&◌, Bool, cond, List, [], ◌∷◌, ◌++◌, length, take, drop, nat_lt, slice_index, slice_index_or, slice_set}
use Rattle.transfer_theory.specs.Receiver.{Slot, Missing, Have, empty_of, first_missing}

abbrev pub slot_of : ℕ → List ℕ → Slot
slot_of zero bs = Missing
slot_of (suc c) bs = Have (take c bs)

-- the slot in its own bytes
abbrev pub slot_read : List ℕ → Slot
slot_read bs = slot_of (slice_index bs 0) (drop 1 bs)

-- whether it is empty
abbrev pub free : List ℕ → Bool
free bs = empty_of (slot_read bs)

-- slot i
abbrev pub slot_in : List ℕ → ℕ → Slot
slot_in m i = slot_of (slice_index m (215 * i)) (take 214 (drop (215 * i + 1) m))

-- n slots from slot i on
unfoldable pub slots_from : ℕ → ℕ → List ℕ → List Slot
slots_from i zero m = []
slots_from i (suc n) m = slot_in m i ∷ slots_from (i + 1) n m

abbrev pub slots_of : List ℕ → List Slot
slots_of m = slots_from 0 1000 m

-- how many of some slots are filled
unfoldable pub filled : List Slot → ℕ
filled [] = 0
filled (s ∷ ss) = cond (empty_of s) 0 1 + filled ss

-- the first one of n slots that is empty, none if all are filled
abbrev pub IsGap : Option ℕ → ℕ → List Slot → Type 0
IsGap r n ss = MatchOption r (first_missing 0 n ss ≡ n) (λ g. (g < n) × (first_missing 0 n ss ≡ g))

-- a part in its slot, if there is one and it is empty
abbrev pub with_part : ℕ → List ℕ → List Slot → List Slot
with_part n bs ss = cond (nat_lt n 1000 && empty_of (slice_index_or ss n Missing)) (slice_set ss n (Have bs)) ss

-- the bytes written from place a on
abbrev pub overwritten : ℕ → List ℕ → List ℕ → List ℕ
overwritten a bs m = take a m ++ (bs ++ drop (a + length bs) m)
