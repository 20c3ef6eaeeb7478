-- The log so far, and how many rounds are left.
use Rattle.std.proofs.Common.{◌-◌, ◌≤◌}
use Rattle.driver.specs.Played.{PlayedOn}
use Rattle.driver.proofs.play_on.Given as goal

abbrev pub invariant-loop-ship : goal.invariant-loop-ship
invariant-loop-ship g l =
    (l.initial.rounds ≤ l.budget → l.rounds ≤ l.budget) ×
    PlayedOn g.L.Line.forth g.L.Line.back l.initial.line l.line (g.S.Ship.sender l.initial.ship) (g.S.Ship.sender l.ship)
    (g.G.Station.receiver l.initial.station) (g.G.Station.receiver l.station) l.initial.rounds l.initial.complete l.rounds l.complete

abbrev pub decreases-loop-ship : goal.decreases-loop-ship
decreases-loop-ship g l = l.budget - l.rounds
