-- Rounds over a line without a state: which worlds they lead through, and in which of them, counted from 1, the station was first complete. Assumes nothing.
use Rattle.std.specs.Prelude.{◌≡◌, ℕ, zero, suc, ◌+◌, ◌<◌, ◌≤◌, Bool, true, false, None, Some, Option, ◌⊎◌, List}
use Rattle.bits.specs.Heard.{Heard, Lost, Got}
use Rattle.transfer_theory.specs.Parts.{IsFile, parts}
use Rattle.transfer_theory.specs.Onward.{Faithful}
use Rattle.transfer_theory.specs.Sender.{Sender, new_sender, says}
use Rattle.transfer_theory.specs.Receiver.{Receiver, new_receiver, hears, complete}
use Rattle.transfer_theory.specs.World.{World, Run, step, Says, Asks, Down, Up}
use Rattle.driver.specs.Log.{replies}
use Rattle.driver.specs.Played.{Played, Enough}

-- one exchange, by what is heard below and above
abbrev pub turn : Heard → Heard → World → World
turn b a w = step (Up a) (step Asks (step (Down b) (step Says w)))

-- ---- C: what may be heard when this was said, nothing said being Lost
pub record PlainExchange (C : Heard → Heard → Type 0) (w u : World) : Type 0 where
  pub below : Heard
  pub above : Heard
  pub down : C (Got (says w.sender)) below
  pub up : C (replies (hears below w.receiver)) above
  pub is : u ≡ turn below above w

-- so many rounds, and the first after which the station was complete, or none
pub data PlainLog (C : Heard → Heard → Type 0) (w : World) : ℕ → Option ℕ → World → Type 0 where
  begun : PlainLog C w zero None w
  still : {k : ℕ} {u x : World} → PlainLog C w k None u → PlainExchange C u x → complete x.receiver ≡ false → PlainLog C w (suc k) None x
  first : {k : ℕ} {u x : World} → PlainLog C w k None u → PlainExchange C u x → complete x.receiver ≡ true → PlainLog C w (suc k) (Some (suc k)) x
  later : {k j : ℕ} {u x : World} → PlainLog C w k (Some j) u → PlainExchange C u x → PlainLog C w (suc k) (Some j) x

-- whatever was sent before, both sides come by such a log from what they were to what they are
abbrev pub PlainPlayed : (Heard → Heard → Type 0) → Sender → Receiver → ℕ → Option ℕ → Sender → Receiver → Type 0
PlainPlayed C s v k j t u =
    (w : World) → w.sender ≡ s → w.receiver ≡ v → (x : World) × PlainLog C w k j x × (x.sender ≡ t) × (x.receiver ≡ u)

-- from the start of a file, both sides end in a run of it
abbrev pub EndsInRun : Sender → Receiver → Sender → Receiver → Type 0
EndsInRun s v t u =
    (n : ℕ) (f : List ℕ) → s ≡ new_sender n f → v ≡ new_receiver n → (c : Bool) × (x : World) × Run n f c x × (x.sender ≡ t) × (x.receiver ≡ u)

-- what may be heard of a payload
abbrev pub OfPayload : (Heard → Heard → Type 0) → List ℕ → Heard → Type 0
OfPayload C p h = C (Got p) h

-- a line that brings a payload as that payload, and nothing as nothing
abbrev pub FaithfulLine : (Heard → Heard → Type 0) → Type 0
FaithfulLine C = Faithful (OfPayload C) × ((h : Heard) → C Lost h → h ≡ Lost)

-- over such a line, from the start of a file, one round more than it has parts is enough for the ship to be told
abbrev pub PlainEnough : (Heard → Heard → Type 0) → Sender → Receiver → ℕ → Bool → Type 0
PlainEnough C s v budget d =
    FaithfulLine C → (n : ℕ) (f : List ℕ) → n < 256 → IsFile f → s ≡ new_sender n f → v ≡ new_receiver n → parts f + 1 ≤ budget → d ≡ true

-- ---- lines with a state that are such lines
-- a line keeps to C: in whatever state it is, it makes of what was said only what may be heard of it
pub record Keeps {L : Type 0} (C : Heard → Heard → Type 0) (F B : L → Heard → Heard → L → Type 0) : Type 0 where
  pub forth : (l m : L) (s h : Heard) → F l s h m → C s h
  pub back : (l m : L) (s h : Heard) → B l s h m → C s h

-- the least that a line keeps to: what it makes of what was said in one of its states, either way
abbrev pub Brought : {L : Type 0} → (F B : L → Heard → Heard → L → Type 0) → Heard → Heard → Type 0
Brought {L} F B s h = ((l : L) × (m : L) × F l s h m) ⊎ ((l : L) × (m : L) × B l s h m)

-- what rounds played over a line promise over each line without a state that it keeps to
pub record PlainRight {L : Type 0} (C : Heard → Heard → Type 0) (F B : L → Heard → Heard → L → Type 0) : Type 0 where
  pub played :
      Keeps C F B → (l m : L) (s t : Sender) (v u : Receiver) (k : ℕ) (j : Option ℕ) → Played F B l m s t v u k j → PlainPlayed C s v k j t u
  pub run : (l m : L) (s t : Sender) (v u : Receiver) (k : ℕ) (j : Option ℕ) → Played F B l m s t v u k j → EndsInRun s v t u
  pub enough : Keeps C F B → (s : Sender) (v : Receiver) (budget : ℕ) (d : Bool) → Enough F B s v budget d → PlainEnough C s v budget d
