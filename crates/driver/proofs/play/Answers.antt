-- From no round on, with what the log promises.
use Rattle.std.proofs.Common.{sym, ◌∙◌}
use Rattle.driver.proofs.Logged.{played-none, played-enough, promised}
use Rattle.driver.proofs.Plain.{played-plain, played-run, enough-plain, keeps-brought}
use Rattle.driver.proofs.play.Goals as goal

pub returns-clause-played : goal.returns-clause-played
returns-clause-played g c =
    let s = g.S.Ship.sender c.args.ship.now in
    let v = g.G.Station.receiver c.args.station.now in
    let none = played-none g.L.Line.forth g.L.Line.back c.args.line.now s v c.default.ensures.0 c.default.ensures.1.0 in
    let p = c.play_on.ensures.played c.args.line.now s v none in (p, promised s v p.log p.spoken)

pub returns-clause-plain : goal.returns-clause-plain
returns-clause-plain g c = played-plain (keeps-brought g.L.Line.forth g.L.Line.back) (returns-clause-played g c).0

pub returns-clause-run : goal.returns-clause-run
returns-clause-run g c = played-run (returns-clause-played g c).0

pub returns-clause-enough : goal.returns-clause-enough
returns-clause-enough g c f b n h w r l =
    c.play_on.ensures.told ∙
    played-enough (returns-clause-played g c).0 (λ a. sym c.play_on.ensures.told ∙ c.play_on.ensures.stopped a) f b n h w r l

pub returns-clause-plain_enough : goal.returns-clause-plain_enough
returns-clause-plain_enough g c =
    enough-plain (keeps-brought g.L.Line.forth g.L.Line.back) (g.S.Ship.sender c.args.ship.now) (g.G.Station.receiver c.args.station.now) c.args.budget
    c.play_on.result.told (returns-clause-enough g c)
