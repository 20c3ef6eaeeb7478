-- One cost more, and all.
use Rattle.std.proofs.Common.{◌≡◌, max, get_or, arith}
use Rattle.std.proofs.lemmas.List.{at_drop_more, at_drop_all}
use Rattle.conv_theory.specs.Columns.{nothing}
use Rattle.conv_theory.specs.Search.{total}
use Rattle.convolutional.proofs.heard.greatest.Goals as goal

pub loop-c-preserved : goal.loop-c-preserved
unfolding total
loop-c-preserved c =
    let cs = c.args.costs.now in
    let i = c.loop-c.c-index in
    let e = at_drop_more total cs i nothing c.loop-c-test.true in
    let w : c.max.result ≡ max (get_or cs i nothing).zero (get_or cs i nothing).one = c.max.ensures in
    let k = c.max.type_inv in
    let f = c.from-sum.ensures in
    let v = c.loop-c.invariant.0 in
    let u = c.loop-c.invariant.1 in
    (omega (arith, e, w, f, v), omega (arith, k, f, u))

pub returns-clause-is : goal.returns-clause-is
unfolding total
returns-clause-is c = omega (arith, at_drop_all total c.args.costs.now c.loop-c.c-index c.loop-c-test.false, c.loop-c.invariant.0)
