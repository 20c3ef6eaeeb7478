-- Round after round the log grows.
use Rattle.std.proofs.Common.{refl, arith, rules}
use Rattle.driver.proofs.Logged.{going, played-on}
use Rattle.driver.proofs.play_on.Goals as goal

pub loop-ship-preserved : goal.loop-ship-preserved
loop-ship-preserved g c =
    let on = going c.loop-ship.rounds c.args.budget (g.S.Ship.sender c.loop-ship.ship) c.goes_on.ensures c.loop-ship-test.true in (
      λ h. let l = on.0 in omega arith,
      played-on c.loop-ship.invariant.1 on.1 c.round.ensures refl (search rules),
    )
