-- The bits found from what the slices hold, and a buffer of another length for them.
use Rattle.std.proofs.Common.{rules}
use Rattle.capi.proofs.Told.{short, decoded}
use Rattle.capi.proofs.codes.decode.Goals as goal

pub returns-in_err-out : goal.returns-in_err-out
returns-in_err-out c = short c.args.heard.now c.args.out.now c.args.cost.now _ (search rules) (search rules)

pub returns : goal.returns
returns c = decoded c.args.heard.now c.in_ok-heard.heard.now c.args.out.now c.in_ok-out.out.now c.search.new.out c.args.cost.now c.search.new.cost _ (search rules) (search rules) c.search.ensures
