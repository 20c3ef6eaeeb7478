-- The receiver: what it has of each part, and the file's length once that was heard. Assumes nothing.
use Rattle.std.specs.Prelude.{ℕ, zero, suc, ◌+◌, ◌-◌, ◌/◌, Bool, true, false, cond, ◌&&◌, List, [], ◌∷◌, ◌++◌, length, take, drop, ◌==◌, nat_le, nat_lt, slice_index_or, slice_set}
use Rattle.bits.specs.Heard.{Heard, Lost, Got}
use Rattle.transfer_theory.specs.Payload.{kind_of, file_of, number_of, body_of, length_of}
use Rattle.transfer_theory.specs.Parts.{ask_payload, done_payload}

pub data Slot : Type 0 where
  Missing : Slot
  Have : List ℕ → Slot

-- size: 0 while no length was heard, else one more than it
pub record Receiver : Type 0 where
  pub file : ℕ
  pub slots : List Slot
  pub size : ℕ

unfoldable pub missing : ℕ → List Slot
missing zero = []
missing (suc n) = Missing ∷ missing n

abbrev pub empty_of : Slot → Bool
empty_of Missing = true
empty_of (Have bs) = false

-- ---- makers and changers: only `receiver_of`, `filled_slot` and `with_length` write the record out
abbrev pub receiver_of : ℕ → List Slot → ℕ → Receiver
receiver_of n ss m = record { file = n; slots = ss; size = m }

abbrev pub new_receiver : ℕ → Receiver
new_receiver n = receiver_of n (missing 1000) 0

abbrev pub filled_slot : ℕ → List ℕ → Receiver → Receiver
filled_slot i bs v = record { file = v.file; slots = slice_set v.slots i (Have bs); size = v.size }

abbrev pub with_length : ℕ → Receiver → Receiver
with_length m v = record { file = v.file; slots = v.slots; size = m + 1 }

-- ---- a part of its file, number below 1,000, whose slot is empty, fills it; an end of its file with a length of at most 214,000 sets the length; else nothing changes
abbrev pub slot_at : Receiver → ℕ → Slot
slot_at v i = slice_index_or v.slots i Missing

abbrev pub brings_part : List ℕ → Receiver → Bool
brings_part p v = kind_of p == 1 && file_of p == v.file && nat_lt (number_of p) 1000 && empty_of (slot_at v (number_of p))

abbrev pub brings_end : List ℕ → Receiver → Bool
brings_end p v = kind_of p == 2 && file_of p == v.file && nat_le (length_of p) 214000

unfoldable pub hears : Heard → Receiver → Receiver
hears Lost v = v
hears (Got p) v = cond (brings_part p v) (filled_slot (number_of p) (body_of p) v) (cond (brings_end p v) (with_length (length_of p) v) v)

-- ---- the first empty one of n slots, counted from i, or i + n
unfoldable pub first_missing : ℕ → ℕ → List Slot → ℕ
first_missing i zero ss = i
first_missing i (suc n) [] = i
first_missing i (suc n) (s ∷ ss) = cond (empty_of s) i (first_missing (i + 1) n ss)

-- how many parts a file of the length has
abbrev pub wanted : Receiver → ℕ
wanted v = ((v.size - 1) + 213) / 214

abbrev pub first_gap : Receiver → ℕ
first_gap v = first_missing 0 (wanted v) v.slots

-- it has a length, and the slots of all parts up to it
abbrev pub complete : Receiver → Bool
complete v = nat_lt 0 v.size && first_gap v == wanted v

-- its answer, once it has a length
unfoldable pub answers : Receiver → List ℕ
answers v = cond (complete v) (done_payload v.file) (ask_payload v.file (first_gap v))

-- ---- what it hands over: the parts, one after the other, up to the length
unfoldable pub joined : ℕ → List Slot → List ℕ
joined zero ss = []
joined (suc n) [] = []
joined (suc n) (Missing ∷ ss) = joined n ss
joined (suc n) (Have bs ∷ ss) = bs ++ joined n ss

abbrev pub handed : Receiver → List ℕ
handed v = take (v.size - 1) (joined (wanted v) v.slots)

-- into lent memory: nothing while it is not complete; what lies behind the file stays
abbrev pub handed_count : Receiver → ℕ
handed_count v = cond (complete v) (length (handed v)) 0

abbrev pub handed_into : Receiver → List ℕ → List ℕ
handed_into v old = cond (complete v) (handed v ++ drop (length (handed v)) old) old
