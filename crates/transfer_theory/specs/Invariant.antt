-- What holds as long as nothing false was heard. The receiver's half speaks of what was sent only. Assumes nothing.
use Rattle.std.specs.Prelude.{◌≡◌, ℕ, ◌+◌, ◌<◌, ◌≤◌, false, T, ◌⊎◌, List, length}
use Rattle.transfer_theory.specs.Parts.{part, parts, part_payload, end_payload, ask_payload, done_payload}
use Rattle.transfer_theory.specs.Sender.{Sender}
use Rattle.transfer_theory.specs.Receiver.{Slot, Missing, Have, Receiver, slot_at, empty_of}
use Rattle.transfer_theory.specs.World.{World, is_in}

-- a slot is empty, or has the file's part
abbrev pub PartRight : List ℕ → ℕ → Slot → Type 0
PartRight f i Missing = Unit {0}
PartRight f i (Have bs) = bs ≡ part f i

pub record Received (n : ℕ) (f : List ℕ) (v : Receiver) : Type 0 where
  pub file : v.file ≡ n
  pub long : length v.slots ≡ 1000
  pub right : (i : ℕ) → i < 1000 → PartRight f i (slot_at v i)
  pub size : (v.size ≡ 0) ⊎ (v.size ≡ length f + 1)

-- it has the file's length and every part
pub record AllThere (f : List ℕ) (v : Receiver) : Type 0 where
  pub size : v.size ≡ length f + 1
  pub full : (i : ℕ) → i < parts f → empty_of (slot_at v i) ≡ false

-- what the sender says: a part, or the end
abbrev pub Sent : ℕ → List ℕ → List ℕ → Type 0
Sent n f p = ((i : ℕ) × (i < parts f) × (p ≡ part_payload n f i)) ⊎ (p ≡ end_payload n f)

-- what the receiver answers: which part is missing, or that all is there, and then it is
abbrev pub Back : ℕ → List ℕ → Receiver → List ℕ → Type 0
Back n f v p = ((i : ℕ) × (i < parts f) × (p ≡ ask_payload n i)) ⊎ ((p ≡ done_payload n) × AllThere f v)

pub record Sends (n : ℕ) (f : List ℕ) (s : Sender) : Type 0 where
  pub file : s.file ≡ n
  pub bytes : s.bytes ≡ f
  pub place : s.place ≤ parts f

pub record Good (n : ℕ) (f : List ℕ) (w : World) : Type 0 where
  pub sends : Sends n f w.sender
  pub received : Received n f w.receiver
  pub down : (p : List ℕ) → T (is_in p w.down) → Sent n f p
  pub up : (p : List ℕ) → T (is_in p w.up) → Back n f w.receiver p
  pub done : T w.sender.done → AllThere f w.receiver
