-- All that either side says is a payload.
use Rattle.transfer_theory.proofs.Following.{says-payloads}
use Rattle.transfer_theory.proofs.onward.payloads_stand.Goals as goal

pub returns : goal.returns
returns c = says-payloads
