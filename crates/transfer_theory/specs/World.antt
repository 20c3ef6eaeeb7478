-- Both sides and all that can happen between them. Assumes nothing.
use Rattle.std.specs.Prelude.{◌≡◌, ℕ, Bool, true, false, cond, not, ◌&&◌, ◌||◌, List, [], ◌∷◌, length, ◌==◌, nat_lt}
use Rattle.bits.specs.Heard.{Heard, Lost, Got}
use Rattle.transfer_theory.specs.Payload.{file_of}
use Rattle.transfer_theory.specs.Sender.{Sender, new_sender, says, after_saying, told}
use Rattle.transfer_theory.specs.Receiver.{Receiver, new_receiver, hears, answers}

-- down: payloads that the sender said; up: those that the receiver answered
pub record World : Type 0 where
  pub sender : Sender
  pub receiver : Receiver
  pub down : List (List ℕ)
  pub up : List (List ℕ)

abbrev pub start : ℕ → List ℕ → World
start n f = record { sender = new_sender n f; receiver = new_receiver n; down = []; up = [] }

-- Says: the sender's next payload. Asks: the receiver's answer, if it has a length. Down, Up: something is heard there
pub data Event : Type 0 where
  Says : Event
  Asks : Event
  Down : Heard → Event
  Up : Heard → Event

abbrev pub asked : World → World
asked w = record { sender = w.sender; receiver = w.receiver; down = w.down; up = cond (nat_lt 0 w.receiver.size) (answers w.receiver ∷ w.up) w.up }

abbrev pub step : Event → World → World
step Says w = record { sender = after_saying w.sender; receiver = w.receiver; down = says w.sender ∷ w.down; up = w.up }
step Asks w = asked w
step (Down h) w = record { sender = w.sender; receiver = hears h w.receiver; down = w.down; up = w.up }
step (Up h) w = record { sender = told h w.sender; receiver = w.receiver; down = w.down; up = w.up }

-- ---- whether something false was heard
unfoldable pub same_bytes : List ℕ → List ℕ → Bool
same_bytes [] [] = true
same_bytes [] (y ∷ ys) = false
same_bytes (x ∷ xs) [] = false
same_bytes (x ∷ xs) (y ∷ ys) = x == y && same_bytes xs ys

unfoldable pub is_in : List ℕ → List (List ℕ) → Bool
is_in p [] = false
is_in p (q ∷ qs) = same_bytes p q || is_in p qs

-- what was heard was sent that way before
abbrev pub true_to : Heard → List (List ℕ) → Bool
true_to Lost ps = true
true_to (Got p) ps = is_in p ps

-- a payload of another file's number
abbrev pub foreign : ℕ → Heard → Bool
foreign n Lost = false
foreign n (Got p) = not (file_of p == n)

-- nothing false: sent that way before, or of another file's number
abbrev pub fair : ℕ → Heard → List (List ℕ) → Bool
fair n h ps = true_to h ps || foreign n h

-- all that can come about, with anything heard at any time; c: so far nothing false was heard
pub data Run (n : ℕ) (f : List ℕ) : Bool → World → Type 0 where
  begins : Run n f true (start n f)
  spoke : {c : Bool} {w : World} → Run n f c w → Run n f c (step Says w)
  replied : {c : Bool} {w : World} → Run n f c w → Run n f c (step Asks w)
  below : {c : Bool} {w : World} → Run n f c w → (h : Heard) → Run n f (c && fair n h w.down) (step (Down h) w)
  above : {c : Bool} {w : World} → Run n f c w → (h : Heard) → Run n f (c && fair n h w.up) (step (Up h) w)

-- the same with bits beneath: Hears says what is heard in a frame of so many bits
pub data RunBits (Hears : List ℕ → Heard → Type 0) (bits n : ℕ) (f : List ℕ) : Bool → World → Type 0 where
  begins : RunBits Hears bits n f true (start n f)
  spoke : {c : Bool} {w : World} → RunBits Hears bits n f c w → RunBits Hears bits n f c (step Says w)
  replied : {c : Bool} {w : World} → RunBits Hears bits n f c w → RunBits Hears bits n f c (step Asks w)
  below :
      {c : Bool} {w : World} → RunBits Hears bits n f c w → (r : List ℕ) (h : Heard) → length r ≡ bits → Hears r h →
      RunBits Hears bits n f (c && fair n h w.down) (step (Down h) w)
  above :
      {c : Bool} {w : World} → RunBits Hears bits n f c w → (r : List ℕ) (h : Heard) → length r ≡ bits → Hears r h →
      RunBits Hears bits n f (c && fair n h w.up) (step (Up h) w)
