-- Laws of turns and transcripts: what is heard in a line is one thing, so a turn is what it is for every thing heard, and what is printed follows from what was read. Assumes nothing.
use Rattle.std.specs.Prelude.{◌≡◌, ℕ, Bool, cond, T, List, is_some, Some, None, Option, ◌≢◌}
use Rattle.bits.specs.Heard.{Heard}
use Rattle.transfer_theory.specs.Sender.{Sender, after_saying, told}
use Rattle.transfer_theory.specs.Receiver.{Receiver, hears, complete, handed}
use Rattle.ends.specs.Hearing.{HeardIn}
use Rattle.ends.specs.Turns.{says_line, Heeded, ShipTurn, due}
use Rattle.ends.specs.Transcripts.{written, ShipTranscript, StationTranscript}

pub record EndsRight : Type 0 where
  -- in a line one thing is heard only
  pub one_thing : (line : List ℕ) (h g : Heard) → HeardIn line h → HeardIn line g → h ≡ g
  -- a turn, by the thing heard
  pub ship :
      (was is : Sender) (old new : List ℕ) (d : Bool) → ShipTurn was is old new d → (h : Heard) → HeardIn old h →
      (new ≡ says_line (told h was)) × (is ≡ after_saying (told h was)) × (d ≡ (told h was).done)
  pub station : (was is : Receiver) (line : List ℕ) → Heeded line was is → (h : Heard) → HeardIn line h → is ≡ hears h was
  -- what is printed, and what is written, follows from what was read
  pub ship_lines : (n : ℕ) (f : List ℕ) (lines outs others : List (List ℕ)) → ShipTranscript n f lines outs → ShipTranscript n f lines others → outs ≡ others
  pub station_lines :
      (n : ℕ) (lines outs others : List (List ℕ)) (file other : Option (List ℕ)) → StationTranscript n lines outs file →
      StationTranscript n lines others other → (outs ≡ others) × (file ≡ other)
  -- the file is written when that is due, and holds what is handed over then
  pub writes : (file : Option (List ℕ)) (v : Receiver) → written file v ≡ cond (due (is_some file) v) (Some (handed v)) file
  -- once the receiver is complete, and so answers all-there, the file has been written (which of writing and printing comes first, no type here says)
  pub in_time : (file : Option (List ℕ)) (v : Receiver) → T (complete v) → written file v ≢ None
