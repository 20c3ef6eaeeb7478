-- A bad evening: good rounds come in pairs now and then, and in between anything that is not false. Assumes nothing.
use Rattle.std.specs.Prelude.{◌≡◌, ℕ, suc, ◌+◌, ◌<◌, ◌≤◌, true, false, T, ◌⊎◌, List}
use Rattle.bits.specs.Heard.{Heard}
use Rattle.transfer_theory.specs.Parts.{IsFile, parts}
use Rattle.transfer_theory.specs.Receiver.{slot_at, empty_of}
use Rattle.transfer_theory.specs.World.{World, step, Says, Asks, Down, Up, fair, Run}
use Rattle.transfer_theory.specs.Onward.{Faithful, Carries, Arrived}
use Rattle.transfer_theory.specs.Rounds.{Round}

-- any steps in which nothing false is heard: frames that are lost, come late or twice, or are of another file
pub data Meanwhile (n : ℕ) (w : World) : World → Type 0 where
  nothing : Meanwhile n w w
  spoke : {v : World} → Meanwhile n w v → Meanwhile n w (step Says v)
  replied : {v : World} → Meanwhile n w v → Meanwhile n w (step Asks v)
  below : {v : World} → Meanwhile n w v → (h : Heard) → T (fair n h v.down) → Meanwhile n w (step (Down h) v)
  above : {v : World} → Meanwhile n w v → (h : Heard) → T (fair n h v.up) → Meanwhile n w (step (Up h) v)

-- an evening with so many pairs of good rounds in a row
pub data Evening (C : List ℕ → Heard → Type 0) (n : ℕ) (w : World) : ℕ → World → Type 0 where
  dusk : Evening C n w 0 w
  spell : {k : ℕ} {v u : World} → Evening C n w k v → Meanwhile n v u → Evening C n w k u
  pair : {k : ℕ} {v x u : World} → Evening C n w k v → Round C v x → Round C x u → Evening C n w (suc k) u

-- two good rounds in a row end it, or bring a part that was missing
abbrev pub PairBrings : (List ℕ → Heard → Type 0) → Type 0
PairBrings C =
    (n : ℕ) (f : List ℕ) → n < 256 → IsFile f → (w x v : World) → Run n f true w → Round C w x → Round C x v →
    Arrived f v ⊎ ((i : ℕ) × (i < parts f) × (empty_of (slot_at w.receiver i) ≡ true) × (empty_of (slot_at v.receiver i) ≡ false))

-- parts + 1 such pairs bring the file, whatever lies between them
abbrev pub EveningEnds : (List ℕ → Heard → Type 0) → Type 0
EveningEnds C =
    (n : ℕ) (f : List ℕ) → n < 256 → IsFile f → (w v : World) (k : ℕ) → Run n f true w → parts f + 1 ≤ k → Evening C n w k v → Arrived f v

-- what an evening leads to can come about
abbrev pub EveningFair : (List ℕ → Heard → Type 0) → Type 0
EveningFair C = (n : ℕ) (f : List ℕ) → n < 256 → IsFile f → (w v : World) (k : ℕ) → Run n f true w → Evening C n w k v → Run n f true v

-- on a line that carries something of each payload, such evenings can always be had
abbrev pub EveningPlayed : (List ℕ → Heard → Type 0) → Type 0
EveningPlayed C = (n : ℕ) (f : List ℕ) → n < 256 → IsFile f → (w : World) (k : ℕ) → Run n f true w → (v : World) × Evening C n w k v

pub record BadEvening (C : List ℕ → Heard → Type 0) : Type 0 where
  pub brings : Faithful C → PairBrings C
  pub ends : Faithful C → EveningEnds C
  pub fair : Faithful C → EveningFair C
  pub played : Faithful C → Carries C → EveningPlayed C
