-- Rounds more of the driver are rounds more of the rehearsal.
use Rattle.rehearsal.proofs.Folded.{goes_on}
use Rattle.rehearsal.proofs.rehearsing.Rehearsal.go_on.Goals as goal

pub returns-clause-rehearsed : goal.returns-clause-rehearsed
returns-clause-rehearsed c = goes_on c.self.view_is c.play_on-self-inside.ensures.played
