-- The way on: a strategy that wins whatever the line makes of each frame, and what can follow when all goes well. Over payloads a faithful line brings each as it is,
-- so nothing is left to its choice; over bits it chooses which of each frame's bits, at most e of them, it spoils. Assumes nothing.
use Rattle.std.specs.Prelude.{◌≡◌, ℕ, suc, ◌+◌, ◌<◌, ◌≤◌, Bool, true, T, List, length, nat_lt}
use Rattle.bits.specs.Lists.{are_bytes, are_bits}
use Rattle.bits.specs.Distance.{distance}
use Rattle.bits.specs.Heard.{Heard, Got}
use Rattle.transfer_theory.specs.Parts.{IsFile, parts}
use Rattle.transfer_theory.specs.Sender.{says}
use Rattle.transfer_theory.specs.Receiver.{complete, handed, answers}
use Rattle.transfer_theory.specs.World.{World, step, Says, Asks, Down, Up, is_in, Run, RunBits}

-- 221 bytes
abbrev pub IsPayload : List ℕ → Type 0
IsPayload p = (length p ≡ 221) × T (are_bytes p)

-- ---- a line: which payload was said, and what may be heard of it
-- of a payload nothing is heard but that payload
abbrev pub Faithful : (List ℕ → Heard → Type 0) → Type 0
Faithful C = (p : List ℕ) (h : Heard) → IsPayload p → C p h → h ≡ Got p

-- of each payload something may be heard
abbrev pub Carries : (List ℕ → Heard → Type 0) → Type 0
Carries C = (p : List ℕ) → IsPayload p → (h : Heard) × C p h

-- the line that brings each payload as it is
abbrev pub Whole : List ℕ → Heard → Type 0
Whole p h = h ≡ Got p

-- ---- the aim: the receiver hands over the file, and the sender was told
pub record Arrived (f : List ℕ) (w : World) : Type 0 where
  pub complete : T (complete w.receiver)
  pub handed : handed w.receiver ≡ f
  pub done : T w.sender.done

-- ---- the strategy: it has won with at most k frames, each sent by itself, whatever is heard of each
-- forth: the sender says its next payload; back: the receiver, which has a length, answers
pub data Plays (C : List ℕ → Heard → Type 0) (f : List ℕ) : ℕ → World → Type 0 where
  arrived : {k : ℕ} {w : World} → Arrived f w → Plays C f k w
  forth : {k : ℕ} {w : World} → ((h : Heard) → C (says w.sender) h → Plays C f k (step (Down h) (step Says w))) → Plays C f (suc k) w
  back :
      {k : ℕ} {w : World} → T (nat_lt 0 w.receiver.size) →
      ((h : Heard) → C (answers w.receiver) h → Plays C f k (step (Up h) (step Asks w))) → Plays C f (suc k) w

-- ---- what can follow when all goes well: payloads that were sent that way before come
pub data Then (C : List ℕ → Heard → Type 0) (w : World) : World → Type 0 where
  here : Then C w w
  spoke : {v : World} → Then C w v → Then C w (step Says v)
  replied : {v : World} → Then C w v → Then C w (step Asks v)
  below : {v : World} → Then C w v → (p : List ℕ) (h : Heard) → T (is_in p v.down) → C p h → Then C w (step (Down h) v)
  above : {v : World} → Then C w v → (p : List ℕ) (h : Heard) → T (is_in p v.up) → C p h → Then C w (step (Up h) v)

-- ---- the promises, for a file and all that can come about with nothing false heard
-- every payload said is a payload
abbrev pub SaysPayloads : Type 0
SaysPayloads =
    (n : ℕ) (f : List ℕ) → n < 256 → IsFile f → (w : World) → Run n f true w →
    IsPayload (says w.sender) × (T (nat_lt 0 w.receiver.size) → IsPayload (answers w.receiver)) ×
    ((p : List ℕ) → T (is_in p w.down) → IsPayload p) × ((p : List ℕ) → T (is_in p w.up) → IsPayload p)

-- at most parts + 3 frames win, on every line that is faithful
abbrev pub StrategyWins : (List ℕ → Heard → Type 0) → Type 0
StrategyWins C = (n : ℕ) (f : List ℕ) → n < 256 → IsFile f → (w : World) → Run n f true w → Plays C f (parts f + 3) w

-- what follows can come about
abbrev pub StaysFair : (List ℕ → Heard → Type 0) → Type 0
StaysFair C = (n : ℕ) (f : List ℕ) → n < 256 → IsFile f → (w v : World) → Run n f true w → Then C w v → Run n f true v

-- there is always a way on
abbrev pub WayOn : (List ℕ → Heard → Type 0) → Type 0
WayOn C = (n : ℕ) (f : List ℕ) → n < 256 → IsFile f → (w : World) → Run n f true w → (v : World) × Then C w v × Arrived f v

pub record Onward (C : List ℕ → Heard → Type 0) : Type 0 where
  pub wins : Faithful C → StrategyWins C
  pub fair : Faithful C → StaysFair C
  pub exists : Faithful C → Carries C → WayOn C

-- such a line: the one that brings each payload as it is
pub record WholeLine : Type 0 where
  pub faithful : Faithful Whole
  pub carries : Carries Whole
  pub wins : StrategyWins Whole
  pub exists : WayOn Whole

-- ---- with bits beneath: frame makes the bits of a payload, Hears says what is heard in bits; at most e of the bits are spoiled
abbrev pub Comes : (List ℕ → Heard → Type 0) → (List ℕ → List ℕ) → ℕ → ℕ → List ℕ → Heard → Type 0
Comes Hears frame bits e p h = (r : List ℕ) × (length r ≡ bits) × T (are_bits r) × (distance (frame p) r ≤ e) × Hears r h

-- e spoiled bits are harmless, and what is heard is one thing
pub record Harmless (Hears : List ℕ → Heard → Type 0) (frame : List ℕ → List ℕ) (bits e : ℕ) : Type 0 where
  pub near : (p r : List ℕ) → IsPayload p → length r ≡ bits → T (are_bits r) → distance (frame p) r ≤ e → Hears r (Got p)
  pub one : (r : List ℕ) (h g : Heard) → Hears r h → Hears r g → h ≡ g

-- a frame has so many bits
abbrev pub Framed : (List ℕ → List ℕ) → ℕ → Type 0
Framed frame bits = (p : List ℕ) → IsPayload p → (length (frame p) ≡ bits) × T (are_bits (frame p))

-- what comes of frames is a line as above, for any number of bits and of harmless bits; and what follows can come about over bits
pub record OnwardBits (Hears : List ℕ → Heard → Type 0) (frame : List ℕ → List ℕ) (bits e : ℕ) : Type 0 where
  pub faithful : Harmless Hears frame bits e → Faithful (Comes Hears frame bits e)
  pub carries : Harmless Hears frame bits e → Framed frame bits → Carries (Comes Hears frame bits e)
  pub wins : Harmless Hears frame bits e → StrategyWins (Comes Hears frame bits e)
  pub exists : Harmless Hears frame bits e → Framed frame bits → WayOn (Comes Hears frame bits e)
  pub run : (n : ℕ) (f : List ℕ) (c : Bool) (w : World) → RunBits Hears bits n f c w → Run n f c w
  pub fair :
      Harmless Hears frame bits e → (n : ℕ) (f : List ℕ) → n < 256 → IsFile f → (w v : World) → RunBits Hears bits n f true w →
      Then (Comes Hears frame bits e) w v → RunBits Hears bits n f true v
