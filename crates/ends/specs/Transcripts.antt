-- Transcripts: which lines each program prints after which lines it read, newlines left out; and what the station writes to its file. Assumes nothing.
use Rattle.std.specs.Prelude.{◌≡◌, ℕ, true, false, cond, List, [], ◌∷◌, Some, None, Option}
use Rattle.text.specs.Lines.{Unknown, said}
use Rattle.transfer_theory.specs.Sender.{Sender, new_sender, after_saying}
use Rattle.transfer_theory.specs.Receiver.{Receiver, new_receiver, complete, handed}
use Rattle.ends.specs.Turns.{says_line, answer_line, Heeded, ShipTurn}

-- the lines `done` and `refused 5`
abbrev pub done_line : List ℕ
done_line = 100 ∷ 111 ∷ 110 ∷ 101 ∷ []

abbrev pub refused_line : List ℕ
refused_line = 114 ∷ 101 ∷ 102 ∷ 117 ∷ 115 ∷ 101 ∷ 100 ∷ 32 ∷ 53 ∷ []

-- what the ship prints for the lines that it reads, from the sender s on: a line for each until it is done; nothing is read behind that, or behind a line that is refused
pub data ShipPrints : Sender → List (List ℕ) → List (List ℕ) → Type 0 where
  ended : {s : Sender} → ShipPrints s [] []
  turned :
      {s t : Sender} {line out : List ℕ} {lines outs : List (List ℕ)} → ShipTurn s t line out false → ShipPrints t lines outs →
      ShipPrints s (line ∷ lines) (out ∷ outs)
  finished : {s t : Sender} {line out : List ℕ} {lines : List (List ℕ)} → ShipTurn s t line out true → ShipPrints s (line ∷ lines) (out ∷ done_line ∷ [])
  refused : {s : Sender} {line : List ℕ} {lines : List (List ℕ)} → said 4092 line ≡ Unknown → ShipPrints s (line ∷ lines) (refused_line ∷ [])

-- the whole of it, for the file f of number n: the first frame before anything is read
abbrev pub ShipTranscript : ℕ → List ℕ → List (List ℕ) → List (List ℕ) → Type 0
ShipTranscript n f lines outs =
    (more : List (List ℕ)) × (outs ≡ says_line (new_sender n f) ∷ more) × ShipPrints (after_saying (new_sender n f)) lines more

-- what the station's file holds once it has taken in a line: it is written the first time that the receiver is complete, and never again
abbrev pub written : Option (List ℕ) → Receiver → Option (List ℕ)
written (Some f) v = Some f
written None v = cond (complete v) (Some (handed v)) None

-- what the station prints for the lines that it reads, from the receiver v and the file on, and the file in the end: for each line the receiver takes it in, and both
-- the file and the answer are those of the receiver then (which of writing and printing comes first is not expressed)
pub data StationPrints : Receiver → Option (List ℕ) → List (List ℕ) → List (List ℕ) → Option (List ℕ) → Type 0 where
  silent : {v : Receiver} {file : Option (List ℕ)} → StationPrints v file [] [] file
  answered :
      {v w : Receiver} {file last : Option (List ℕ)} {line : List ℕ} {lines outs : List (List ℕ)} → Heeded line v w →
      StationPrints w (written file w) lines outs last → StationPrints v file (line ∷ lines) (answer_line w ∷ outs) last
  declined :
      {v : Receiver} {file : Option (List ℕ)} {line : List ℕ} {lines : List (List ℕ)} → said 4092 line ≡ Unknown →
      StationPrints v file (line ∷ lines) (refused_line ∷ []) file

abbrev pub StationTranscript : ℕ → List (List ℕ) → List (List ℕ) → Option (List ℕ) → Type 0
StationTranscript n lines outs file = StationPrints (new_receiver n) None lines outs file
