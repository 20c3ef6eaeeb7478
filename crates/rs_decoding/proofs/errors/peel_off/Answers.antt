use Rattle.std.proofs.Common.{◌+◌, ◌<◌, length, ◌∙◌, arith, length-set}
use Rattle.std.proofs.lemmas.List.{drop-set-lt}
use Rattle.rs_decoding.proofs.ErrorSteps.{peel-step, peel-end, drop_on, read-behind}
use Rattle.rs_decoding.proofs.errors.peel_off.Goals as goal

pub loop-j-preserved : goal.loop-j-preserved
loop-j-preserved c =
    let l : c.args.count < length c.loop-j.t = omega arith in
    let d = c.loop-j.invariant.1 in (
      length-set c.loop-j.t c.loop-j.j c.multiply_add.result ∙ c.loop-j.invariant.0,
      drop-set-lt (c.loop-j.j + 1) c.loop-j.t c.loop-j.j c.multiply_add.result (omega arith) ∙ drop_on c.loop-j.j c.loop-j.t c.args.t.now d,
      peel-step c.args.count c.loop-j.j c.args.y c.multiply_add.result c.loop-j.t _ c.loop-j-test.true l
          (read-behind c.loop-j.j c.args.y c.multiply_add.result c.loop-j.t c.args.t.now d c.multiply_add.ensures) c.loop-j.invariant.2,
    )

pub returns : goal.returns
returns c = peel-end c.args.count c.loop-j.j c.args.y c.loop-j.t _ c.loop-j-test.false c.loop-j.invariant.2
