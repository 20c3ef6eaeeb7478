-- A rehearsal: all of it follows from its log, and the log from the file, the seed, P and the count of rounds. Assumes nothing.
use Rattle.std.specs.Prelude.{◌≡◌, ℕ, Option, List, length}
use Rattle.transfer_theory.specs.Sender.{Sender, new_sender}
use Rattle.transfer_theory.specs.Receiver.{Receiver, new_receiver}
use Rattle.driver.specs.Log.{Exchange, Spoken, Ongoing, sender_by, receiver_by, first_complete}
use Rattle.driver.specs.Played.{Promised}
use Rattle.rehearsal.specs.declared.noisy.Noisy.{Noisy}
use Rattle.rehearsal.specs.declared.rehearsing.Report.{Report}
use Rattle.rehearsal.specs.Noisy.{new_line, line_by, Crossed}

-- all that stands on the table: both sides, the line, the rounds played, and the one after which the station was first complete, if any
pub record Table : Type 0 where
  pub sender : Sender
  pub receiver : Receiver
  pub line : Noisy
  pub rounds : ℕ
  pub first : Option ℕ

-- the table that a log leads to, from the file f of number n and a line with the seed and P
abbrev pub table_by : ℕ → List ℕ → ℕ → ℕ → List Exchange → Table
table_by n f seed p log =
    record {
      sender = sender_by (new_sender n f) log;
      receiver = receiver_by (new_receiver n) log;
      line = line_by (new_line seed p) log;
      rounds = length log;
      first = first_complete (new_receiver n) log;
    }

-- a table that was rehearsed: its log is what both sides say and what crosses the line, round by round until the ship is done, and has the driver's promises
pub record Rehearsed (n : ℕ) (f : List ℕ) (seed p : ℕ) (w : Table) : Type 0 where
  pub log : List Exchange
  pub table : w ≡ table_by n f seed p log
  pub spoken : Spoken (new_sender n f) (new_receiver n) log
  pub crossed : Crossed (new_line seed p) log
  pub ongoing : Ongoing (new_sender n f) log
  pub promised : Promised (new_sender n f) (new_receiver n) log

-- what was rehearsed is rehearsed after some rounds more
abbrev pub GoesOn : Table → Table → Type 0
GoesOn w u = (n : ℕ) (f : List ℕ) (seed p : ℕ) → Rehearsed n f seed p w → Rehearsed n f seed p u

-- what is reported; of the ship, what it was told
abbrev pub report_of : Table → Report
report_of w = record { outcome = record { rounds = w.rounds; complete = w.first; told = w.sender.done }; counts = w.line.counts }
