-- What the driver promises of the rounds that it plays: its log, the run that this is, the file, and that enough rounds in a row end it. Assumes nothing.
use Rattle.std.specs.Prelude.{◌≡◌, ℕ, ◌+◌, ◌<◌, ◌≤◌, Bool, true, ◌&&◌, T, Option, List, ◌++◌, length}
use Rattle.bits.specs.Heard.{Heard, Lost, Got}
use Rattle.transfer_theory.specs.Parts.{IsFile, parts}
use Rattle.transfer_theory.specs.Sender.{Sender, says, after_saying, told}
use Rattle.transfer_theory.specs.Receiver.{Receiver, hears, complete, handed, slot_at}
use Rattle.transfer_theory.specs.World.{World, Run}
use Rattle.transfer_theory.specs.Invariant.{PartRight}
use Rattle.transfer_theory.specs.Onward.{IsPayload, Arrived}
use Rattle.driver.specs.Log.{Exchange, replies, Carried, Spoken, Ongoing, sender_by, receiver_by, world_by, clean, first_complete, AllThrough}

-- the line kept a log of k rounds, from its state l to m, by which both sides came from what they were (s, v) to what they are (t, u); the station was first complete after the round j, if after any
pub record Played {L : Type 0} (F B : L → Heard → Heard → L → Type 0) (l m : L) (s t : Sender) (v u : Receiver) (k : ℕ) (j : Option ℕ) : Type 0 where
  pub log : List Exchange
  pub carried : Carried F B l log m
  pub spoken : Spoken s v log
  pub ongoing : Ongoing s log
  pub sender : t ≡ sender_by s log
  pub receiver : u ≡ receiver_by v log
  pub rounds : k ≡ length log
  pub first : j ≡ first_complete v log

-- rounds more: whatever log led to what both sides and the line were, a longer one leads to what they are
abbrev pub PlayedOn : {L : Type 0} → (F B : L → Heard → Heard → L → Type 0) → L → L → Sender → Sender → Receiver → Receiver → ℕ → Option ℕ → ℕ → Option ℕ → Type 0
PlayedOn {L} F B m o a t b u k j r i = (l : L) (s : Sender) (v : Receiver) → Played F B l m s a v b k j → Played F B l o s t v u r i

-- one round of it
pub record Turned {L : Type 0} (F B : L → Heard → Heard → L → Type 0) (l m : L) (s t : Sender) (v u : Receiver) : Type 0 where
  pub middle : L
  pub below : Heard
  pub above : Heard
  pub down : F l (Got (says s)) below middle
  pub up : B middle (replies u) above m
  pub sender : t ≡ told above (after_saying s)
  pub receiver : u ≡ hears below v

-- a state that can come about with nothing false heard, in which both sides are these
pub record Reached (n : ℕ) (f : List ℕ) (s : Sender) (v : Receiver) (w : World) : Type 0 where
  pub number : n < 256
  pub file : IsFile f
  pub run : Run n f true w
  pub sender : w.sender ≡ s
  pub receiver : w.receiver ≡ v

-- ---- what a log promises of both sides, wherever they began
-- from every state that can come about it leads to one that can, and the mark is computed from the log
abbrev pub RunsOn : Sender → Receiver → List Exchange → Type 0
RunsOn s v log =
    (n : ℕ) (f : List ℕ) (c : Bool) (w : World) → Run n f c w → w.sender ≡ s → w.receiver ≡ v →
    Run n f (c && clean n w.down w.up log) (world_by w log)

-- every part is the file's, what is handed over is the file, and the ship is told only then
abbrev pub FileKept : List ℕ → Sender → Receiver → Type 0
FileKept f s v = ((i : ℕ) → i < 1000 → PartRight f i (slot_at v i)) × (T (complete v) → handed v ≡ f) × (T s.done → T (complete v))

-- the file promise, if nothing false stands in the log
abbrev pub KeepsFile : Sender → Receiver → List Exchange → Type 0
KeepsFile s v log =
    (n : ℕ) (f : List ℕ) (w : World) → Reached n f s v w → T (clean n w.down w.up log) → FileKept f (sender_by s log) (receiver_by v log)

-- if parts + 1 rounds in a row came through, wherever in the log, the file is handed over and the ship was told
abbrev pub EndsInTime : Sender → Receiver → List Exchange → Type 0
EndsInTime s v log =
    (n : ℕ) (f : List ℕ) (w : World) → Reached n f s v w → T (clean n w.down w.up log) →
    (later middle earlier : List Exchange) → log ≡ later ++ (middle ++ earlier) → AllThrough middle → parts f + 1 ≤ length middle →
    Arrived f (world_by w log)

pub record Promised (s : Sender) (v : Receiver) (log : List Exchange) : Type 0 where
  pub run : RunsOn s v log
  pub file : KeepsFile s v log
  pub ends : EndsInTime s v log

-- what both sides say in rounds that were played is promised all of this
abbrev pub DriverRight : Type 0
DriverRight = (s : Sender) (v : Receiver) (log : List Exchange) → Spoken s v log → Promised s v log

-- ---- a line that brings a payload as that payload, and nothing as nothing
abbrev pub Sayable : Heard → Type 0
Sayable Lost = Unit {0}
Sayable (Got p) = IsPayload p

abbrev pub Brings : {L : Type 0} → (L → Heard → Heard → L → Type 0) → Type 0
Brings {L} F = (l m : L) (s h : Heard) → Sayable s → F l s h m → h ≡ s

-- over such a line one round more than the file has parts is enough for the ship to be told
abbrev pub Enough : {L : Type 0} → (F B : L → Heard → Heard → L → Type 0) → Sender → Receiver → ℕ → Bool → Type 0
Enough F B s v budget told =
    Brings F → Brings B → (n : ℕ) (f : List ℕ) (w : World) → Reached n f s v w → parts f + 1 ≤ budget → told ≡ true
