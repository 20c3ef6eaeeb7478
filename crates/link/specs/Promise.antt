-- The main promise, from bits to files. Each part is a type; a proof of it is the theorem. Assumes nothing.
use Rattle.std.specs.Prelude.{◌≡◌, ℕ, ◌+◌, ◌<◌, ◌≤◌, T, List}
use Rattle.bits.specs.Heard.{Heard}
use Rattle.rs_theory.specs.Promise.{OuterCode}
use Rattle.conv_theory.specs.Statements.{NearestFound, FreeDistance}
use Rattle.frame_theory.specs.Promise.{FrameRight}
use Rattle.transfer_theory.specs.Parts.{IsFile, parts}
use Rattle.transfer_theory.specs.Receiver.{complete, handed, slot_at}
use Rattle.transfer_theory.specs.World.{World}
use Rattle.transfer_theory.specs.Invariant.{PartRight}
use Rattle.transfer_theory.specs.Onward.{IsPayload, Plays, Then, Arrived}
use Rattle.transfer_theory.specs.Rounds.{Rounds}
use Rattle.link.specs.Ways.{Reached, Spoiled, Worn, LineOnward}

-- 4. The file: every part that the station has is the file's, what it hands over is the file, and the ship is told so only then.
abbrev pub FileRight : Type 0
FileRight =
    (n : ℕ) (f : List ℕ) → n < 256 → IsFile f → (w : World) → Reached n f w →
    ((i : ℕ) → i < 1000 → PartRight f i (slot_at w.receiver i)) × (T (complete w.receiver) → handed w.receiver ≡ f) ×
    (T w.sender.done → T (complete w.receiver))

-- 5. The way on, from every such state.
pub record OnwardRight (n : ℕ) (f : List ℕ) (w : World) : Type 0 where
  -- at most parts + 3 frames win, whatever up to four bits are spoiled in each
  pub wins : Plays Spoiled f (parts f + 3) w
  -- so there is a way on, and where it leads can come about
  pub exists : (v : World) × Then Spoiled w v × Arrived f v × Reached n f v
  -- parts + 1 rounds in a row, or more, end with the file handed over and the ship told
  pub rounds : (v : World) (k : ℕ) → parts f + 1 ≤ k → Rounds Spoiled w k v → Arrived f v

abbrev pub Onward : Type 0
Onward = (n : ℕ) (f : List ℕ) → n < 256 → IsFile f → (w : World) → Reached n f w → OnwardRight n f w

pub record Main : Type 0 where
  pub outer : OuterCode
  pub inner : NearestFound
  pub apart : FreeDistance
  pub frames : FrameRight
  pub file : FileRight
  pub onward : Onward
  -- over a line that spoils up to four bits of each frame, and over one that leaves up to 16 bytes of each wrong behind the inner code
  pub spoiled : LineOnward Spoiled
  pub worn : LineOnward Worn
  -- the second allows all that the first allows
  pub wider : (p : List ℕ) (h : Heard) → IsPayload p → Spoiled p h → Worn p h
