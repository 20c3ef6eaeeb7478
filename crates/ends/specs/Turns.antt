-- One turn of each end, from a line read to a line printed. Assumes nothing.
use Rattle.std.specs.Prelude.{◌≡◌, ℕ, Bool, cond, not, ◌&&◌, List, [], Ok, Err, Result, nat_lt}
use Rattle.bits.specs.declared.Refusal.{Refusal}
use Rattle.bits.specs.Heard.{Heard}
use Rattle.frame_theory.specs.Frame.{frame}
use Rattle.transfer_theory.specs.Sender.{Sender, says, after_saying, told}
use Rattle.transfer_theory.specs.Receiver.{Receiver, hears, answers, complete}
use Rattle.text.specs.Lines.{digits}
use Rattle.ends.specs.Hearing.{HeardIn, Refused}

-- the line of the frame that a sender says next
abbrev pub says_line : Sender → List ℕ
says_line s = digits (frame (says s))

-- the line of a receiver's answer: empty while it has no length
abbrev pub answer_line : Receiver → List ℕ
answer_line v = cond (nat_lt 0 v.size) (digits (frame (answers v))) []

-- a sender that took in a line
abbrev pub Told : List ℕ → Sender → Sender → Type 0
Told line was is = (h : Heard) × HeardIn line h × (is ≡ told h was)

-- a receiver that took in a line
abbrev pub Heeded : List ℕ → Receiver → Receiver → Type 0
Heeded line was is = (h : Heard) × HeardIn line h × (is ≡ hears h was)

-- the ship's turn: it takes in the line, says its next frame in its place, and answers whether it is done
pub record ShipTurn (was is : Sender) (old new : List ℕ) (answer : Bool) : Type 0 where
  -- the sender between hearing and saying
  pub between : Sender
  pub heard : Told old was between
  pub said : new ≡ says_line between
  pub after : is ≡ after_saying between
  pub done : answer ≡ between.done

-- a line of unknown form is refused, and then all stays as it was
abbrev pub ShipTurned : Sender → Sender → List ℕ → List ℕ → Result Bool Refusal → Type 0
ShipTurned was is old new (Ok d) = ShipTurn was is old new d
ShipTurned was is old new (Err e) = Refused old e × (new ≡ old) × (is ≡ was)

abbrev pub ShipHeard : Sender → Sender → List ℕ → Result (Unit {0}) Refusal → Type 0
ShipHeard was is line (Ok u) = Told line was is
ShipHeard was is line (Err e) = Refused line e × (is ≡ was)

abbrev pub StationHeard : Receiver → Receiver → List ℕ → Result (Unit {0}) Refusal → Type 0
StationHeard was is line (Ok u) = Heeded line was is
StationHeard was is line (Err e) = Refused line e × (is ≡ was)

-- whether the station's file is to be written now: it is complete, and nothing was written yet
abbrev pub due : Bool → Receiver → Bool
due written v = not written && complete v
