-- The frame of what the slice holds.
use Rattle.std.proofs.Common.{rules}
use Rattle.capi.proofs.Told.{sent}
use Rattle.capi.proofs.frames.send.Goals as goal

pub returns : goal.returns
returns c = sent c.args.payload.now c.in_ok-payload.payload.now c.args.bits.now c.send.new.out (search rules) (search rules) (search rules) c.send.ensures
