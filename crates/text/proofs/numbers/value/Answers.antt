-- A digit that is refused refuses the whole.
use Rattle.std.proofs.Common.{arith}
use Rattle.std.proofs.lemmas.Result.{err_from_is_err_and}
use Rattle.text.proofs.Numerals.{refused_at}
use Rattle.text.proofs.numbers.value.Goals as goal

pub returns-in_err-v : goal.returns-in_err-v
returns-in_err-v c =
    let p = err_from_is_err_and c.from_residual.result c.from_residual.ensures.1 in
    let e = c.in_err-v.ensures in
    rw (p.1, p.2) (refused_at c.args.text.now c.loop-x.x-index c.loop-x.v c.args.most (omega arith) c.loop-x.invariant.0 c.loop-x.invariant.1 e.0, e.1)
