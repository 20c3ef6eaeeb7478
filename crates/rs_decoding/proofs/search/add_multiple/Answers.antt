use Rattle.std.proofs.Common.{◌<◌, ◌≤◌, length, ◌∙◌, arith, length-set}
use Rattle.rs_decoding.proofs.Steps.{combine-step, combine-end}
use Rattle.rs_decoding.proofs.search.add_multiple.Goals as goal

pub loop-j-preserved : goal.loop-j-preserved
loop-j-preserved c =
    let h : c.loop-j.j < length c.loop-j.vector = omega arith in
    let g : c.loop-j.j < length c.args.other.now = omega arith in (
      length-set c.loop-j.vector c.loop-j.j c.multiply_add.result ∙ c.loop-j.invariant.0,
      combine-step c.args.factor c.loop-j.j c.multiply_add.result c.loop-j.vector c.args.other.now _ h g c.multiply_add.ensures c.loop-j.invariant.1,
    )

pub returns : goal.returns
returns c =
    let h : length c.loop-j.vector ≤ c.loop-j.j = omega arith in
    combine-end c.args.factor c.loop-j.j c.loop-j.vector c.args.other.now _ h c.loop-j.invariant.1
