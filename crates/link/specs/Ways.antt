-- The way on over any line of bits: rounds, more rounds, bad evenings. Each part is a type; a proof of it is the theorem. Assumes nothing.
use Rattle.std.specs.Prelude.{◌≡◌, ℕ, ◌+◌, ◌<◌, ◌≤◌, true, false, ◌⊎◌, List}
use Rattle.bits.specs.Distance.{distance}
use Rattle.bits.specs.Heard.{Heard}
use Rattle.frame_theory.specs.Frame.{carrier, frame, word_in, Hears}
use Rattle.frame_theory.specs.Promise.{FrameBits}
use Rattle.transfer_theory.specs.Parts.{IsFile, parts}
use Rattle.transfer_theory.specs.Receiver.{slot_at, empty_of}
use Rattle.transfer_theory.specs.World.{World, Run, RunBits}
use Rattle.transfer_theory.specs.Onward.{Faithful, Carries, Plays, Then, Comes, Arrived}
use Rattle.transfer_theory.specs.Rounds.{Round, Rounds, NotBefore}
use Rattle.transfer_theory.specs.Evening.{Evening}

-- all that can come about with whatever bits come, frame after frame; and nothing false was heard so far
abbrev pub Reached : ℕ → List ℕ → World → Type 0
Reached n f w = RunBits Hears 4092 n f true w

-- what may be heard of a payload that was said, where up to four of its frame's 4,092 bits are spoiled
abbrev pub Spoiled : List ℕ → Heard → Type 0
Spoiled p h = Comes Hears frame 4092 4 p h

-- the same, where the bits that come leave up to 16 bytes wrong behind the inner code
abbrev pub Worn : List ℕ → Heard → Type 0
Worn p h = (r : List ℕ) × FrameBits r × (distance (carrier p) (word_in r) ≤ 16) × Hears r h

-- 5. The way on, from every such state, over a line C of bits.
pub record LineRight (C : List ℕ → Heard → Type 0) (n : ℕ) (f : List ℕ) (w : World) : Type 0 where
  -- at most parts + 3 frames win, whatever the line makes of each
  pub wins : Plays C f (parts f + 3) w
  -- so there is a way on; and where frames that come lead can come about
  pub exists : (v : World) × Then C w v × Arrived f v
  pub follows : (v : World) → Then C w v → Reached n f v
  -- rounds can always be played, so many as one likes, and where they lead can come about
  pub played : (k : ℕ) → (v : World) × Rounds C w k v
  pub led : (v : World) (k : ℕ) → Rounds C w k v → Reached n f v
  -- parts + 1 rounds in a row, or more, end with the file handed over and the ship told
  pub rounds : (v : World) (k : ℕ) → parts f + 1 ≤ k → Rounds C w k v → Arrived f v
  -- after that, more rounds change nothing of the result
  pub stays : Arrived f w → (v : World) (k : ℕ) → Rounds C w k v → Arrived f v × (v.receiver ≡ w.receiver)
  -- a bad evening: two good rounds in a row end it, or bring a part that was missing
  pub brings :
      (x v : World) → Round C w x → Round C x v →
      Arrived f v ⊎ ((i : ℕ) × (i < parts f) × (empty_of (slot_at w.receiver i) ≡ true) × (empty_of (slot_at v.receiver i) ≡ false))
  -- parts + 1 such pairs bring the file, whatever lies between them that is not false
  pub evening : (v : World) (k : ℕ) → parts f + 1 ≤ k → Evening C n w k v → Arrived f v
  -- such evenings can always be had, and nothing false is heard in them
  pub evenings : (k : ℕ) → (v : World) × Evening C n w k v
  pub honest : (v : World) (k : ℕ) → Evening C n w k v → Run n f true v

pub record LineOnward (C : List ℕ → Heard → Type 0) : Type 0 where
  -- of a payload nothing is heard but that payload, and of each one something
  pub faithful : Faithful C
  pub carries : Carries C
  pub way : (n : ℕ) (f : List ℕ) → n < 256 → IsFile f → (w : World) → Reached n f w → LineRight C n f w
  -- from the start, parts rounds are never enough
  pub not_before : NotBefore C
