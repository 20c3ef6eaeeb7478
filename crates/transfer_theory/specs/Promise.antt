-- What is promised of both sides. Each is a type; a proof of it is the theorem. Assumes nothing.
use Rattle.std.specs.Prelude.{◌≡◌, ℕ, ◌+◌, ◌<◌, true, T, ◌⊎◌, List, length, ◌≢◌}
use Rattle.bits.specs.Heard.{Heard, Got}
use Rattle.transfer_theory.specs.Payload.{file_of}
use Rattle.transfer_theory.specs.Parts.{IsFile}
use Rattle.transfer_theory.specs.Sender.{Sender, told}
use Rattle.transfer_theory.specs.Receiver.{Receiver, hears, complete, handed, slot_at}
use Rattle.transfer_theory.specs.World.{World, Run, fair}
use Rattle.transfer_theory.specs.Invariant.{PartRight}

-- Whatever is lost, comes twice or late, in both directions: as long as nothing false was heard, every part that the receiver has is the file's,
-- what it hands over is the file, and the sender is done only if the receiver is complete.
abbrev pub FileRight : Type 0
FileRight =
    (n : ℕ) (f : List ℕ) → n < 256 → IsFile f → (w : World) → Run n f true w →
    ((i : ℕ) → i < 1000 → PartRight f i (slot_at w.receiver i)) × (T (complete w.receiver) → handed w.receiver ≡ f) ×
    (T w.sender.done → T (complete w.receiver))

-- A payload of another file leaves both sides as they are.
abbrev pub ForeignIsNothing : Type 0
ForeignIsNothing =
    ((p : List ℕ) (s : Sender) → (file_of p ≢ s.file) → told (Got p) s ≡ s) ×
    ((p : List ℕ) (v : Receiver) → (file_of p ≢ v.file) → hears (Got p) v ≡ v)

-- A length once heard is the file's.
abbrev pub LengthRight : Type 0
LengthRight =
    (n : ℕ) (f : List ℕ) → n < 256 → IsFile f → (w : World) → Run n f true w →
    (w.receiver.size ≡ 0) ⊎ (w.receiver.size ≡ length f + 1)

-- Complete stays complete, whatever is fairly heard.
abbrev pub CompleteStays : Type 0
CompleteStays =
    (n : ℕ) (f : List ℕ) → n < 256 → IsFile f → (w : World) → Run n f true w → (h : Heard) → T (fair n h w.down) →
    T (complete w.receiver) → T (complete (hears h w.receiver))
