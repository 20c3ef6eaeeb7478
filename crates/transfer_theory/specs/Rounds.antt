-- Lockstep: rounds as programs play them, one frame forth and one back, and what so many of them in a row lead to. Assumes nothing.
use Rattle.std.specs.Prelude.{◌≡◌, ℕ, suc, ◌+◌, ◌<◌, ◌≤◌, true, false, T, List, nat_lt}
use Rattle.bits.specs.Heard.{Heard}
use Rattle.transfer_theory.specs.Parts.{IsFile, parts}
use Rattle.transfer_theory.specs.Sender.{says}
use Rattle.transfer_theory.specs.Receiver.{hears, answers, complete}
use Rattle.transfer_theory.specs.World.{World, start, step, Says, Asks, Down, Up, Run}
use Rattle.transfer_theory.specs.Onward.{Faithful, Carries, Arrived}

-- one round: the sender says, the receiver hears what comes of it; if it then has a length, it answers, and the sender hears what comes of that; else nothing goes back
pub data Round (C : List ℕ → Heard → Type 0) (w : World) : World → Type 0 where
  both :
      (h g : Heard) → C (says w.sender) h → T (nat_lt 0 (hears h w.receiver).size) → C (answers (hears h w.receiver)) g →
      Round C w (step (Up g) (step Asks (step (Down h) (step Says w))))
  mute : (h : Heard) → C (says w.sender) h → nat_lt 0 (hears h w.receiver).size ≡ false → Round C w (step (Down h) (step Says w))

-- so many rounds in a row
pub data Rounds (C : List ℕ → Heard → Type 0) (w : World) : ℕ → World → Type 0 where
  none : Rounds C w 0 w
  more : {k : ℕ} {v u : World} → Rounds C w k v → Round C v u → Rounds C w (suc k) u

-- ---- the promises, for a file and all that can come about with nothing false heard
-- parts + 1 rounds in a row, or more, end with the file handed over and the sender told
abbrev pub EndsInTime : (List ℕ → Heard → Type 0) → Type 0
EndsInTime C =
    (n : ℕ) (f : List ℕ) → n < 256 → IsFile f → (w v : World) (k : ℕ) → Run n f true w → parts f + 1 ≤ k → Rounds C w k v → Arrived f v

-- from the start, parts rounds never do
abbrev pub NotBefore : (List ℕ → Heard → Type 0) → Type 0
NotBefore C =
    (n : ℕ) (f : List ℕ) → n < 256 → IsFile f → (v : World) (k : ℕ) → k ≤ parts f → Rounds C (start n f) k v →
    (complete v.receiver ≡ false) × (v.sender.done ≡ false)

-- more rounds change nothing of the result
abbrev pub StaysArrived : (List ℕ → Heard → Type 0) → Type 0
StaysArrived C =
    (n : ℕ) (f : List ℕ) → n < 256 → IsFile f → (w v : World) (k : ℕ) → Run n f true w → Arrived f w → Rounds C w k v →
    Arrived f v × (v.receiver ≡ w.receiver)

-- what rounds lead to can come about
abbrev pub RoundsFair : (List ℕ → Heard → Type 0) → Type 0
RoundsFair C = (n : ℕ) (f : List ℕ) → n < 256 → IsFile f → (w v : World) (k : ℕ) → Run n f true w → Rounds C w k v → Run n f true v

-- on a line that carries something of each payload, rounds can always be played
abbrev pub AlwaysPlayed : (List ℕ → Heard → Type 0) → Type 0
AlwaysPlayed C = (n : ℕ) (f : List ℕ) → n < 256 → IsFile f → (w : World) (k : ℕ) → Run n f true w → (v : World) × Rounds C w k v

pub record Lockstep (C : List ℕ → Heard → Type 0) : Type 0 where
  pub ends : Faithful C → EndsInTime C
  pub not_before : Faithful C → NotBefore C
  pub stays : Faithful C → StaysArrived C
  pub fair : Faithful C → RoundsFair C
  pub played : Faithful C → Carries C → AlwaysPlayed C
