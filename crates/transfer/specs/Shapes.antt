-- What each side keeps, whatever it was told or heard. Assumes nothing.
use Rattle.std.specs.Prelude.{◌≡◌, ◌≤◌, ⊤, List, length, All}
use Rattle.transfer_theory.specs.Parts.{parts}
use Rattle.transfer_theory.specs.Sender.{Sender}
use Rattle.transfer_theory.specs.Receiver.{Receiver, Slot, Missing, Have}

-- a ship: a file of at most 214,000 bytes, and a place at one of its parts or behind the last
abbrev pub InRoom : Sender → Type 0
InRoom s = (length s.bytes ≤ 214000) × (s.place ≤ parts s.bytes)

-- a slot: at most 214 bytes
abbrev pub Narrow : Slot → Type 0
Narrow Missing = ⊤
Narrow (Have bs) = length bs ≤ 214

-- a station's slots: 1,000 of them
abbrev pub Slotted : List Slot → Type 0
Slotted ss = (length ss ≡ 1000) × All Narrow ss

-- a station: its slots, and a length, once it was heard, of at most 214,000
abbrev pub Shaped : Receiver → Type 0
Shaped v = Slotted v.slots × (v.size ≤ 214001)
